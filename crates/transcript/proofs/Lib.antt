pub mod AnswerLineLaws
pub mod AnswerTheorems
pub mod AnswerExamples
