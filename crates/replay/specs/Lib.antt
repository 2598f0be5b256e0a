pub mod Results
pub mod RestResults
