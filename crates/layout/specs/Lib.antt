pub mod Bytes
pub mod Numbers
pub mod StringFields
pub mod Tables
pub mod Bits
pub mod Search
