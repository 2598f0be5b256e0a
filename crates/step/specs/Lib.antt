pub mod Results
pub mod ActionResults
