pub mod QueryResults
