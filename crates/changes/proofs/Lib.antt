pub mod ChangeLaws
pub mod ChangeRows
pub mod BoardWrites
pub mod PostUpdates
