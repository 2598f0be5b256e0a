pub mod TextLaws
pub mod LineLaws
pub mod MessageLineLaws
pub mod RunLines
pub mod ReplayText
pub mod ReportLaws
pub mod ReportExamples
