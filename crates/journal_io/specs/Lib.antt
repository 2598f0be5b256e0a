pub mod Errors
pub mod Results
