pub mod FileLaws
pub mod AnswerLaws
