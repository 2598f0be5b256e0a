pub mod ChangeResults
pub mod Rows
