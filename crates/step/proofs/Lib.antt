pub mod ActionLaws
pub mod FrameLaws
