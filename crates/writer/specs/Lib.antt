pub mod Encoding
pub mod Words
pub mod Reasons
pub mod RoundTrips
pub mod Table
