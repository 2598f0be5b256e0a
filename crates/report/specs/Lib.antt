pub mod Report
pub mod MessageLines
pub mod Results
pub mod Texts
