pub mod Explanations
pub mod Judgements
pub mod Standing
