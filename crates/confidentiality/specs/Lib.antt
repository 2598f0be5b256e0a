pub mod Traces
pub mod History
pub mod Windows
pub mod Purging
pub mod Confidentiality
pub mod Accountability
