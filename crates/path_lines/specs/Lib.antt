pub mod LineTexts
pub mod AttemptTexts
