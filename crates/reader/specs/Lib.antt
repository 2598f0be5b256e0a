pub mod Frames
pub mod Fields
pub mod Kinds
pub mod Messages
pub mod Spans
