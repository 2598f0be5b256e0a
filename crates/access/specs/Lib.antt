pub mod Rights
pub mod Refusals
pub mod Tables
pub mod SoundBoards
