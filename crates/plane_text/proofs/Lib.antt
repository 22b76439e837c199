pub mod FoldLaws
pub mod DecimalLaws
pub mod LineLaws
pub mod WrittenLaws
pub mod AnswerLaws
pub mod SenseLaws
