pub mod CallResults
