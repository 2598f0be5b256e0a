pub mod QueryLaws
pub mod StringReads
pub mod ListWrites
pub mod ListAnswers
