pub mod AllRecordLaws
pub mod DamagedBoards
