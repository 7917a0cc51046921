pub mod Pieces
pub mod CallerLemmas
pub mod NameLemmas
pub mod EntryLemmas
pub mod WholeTexts
pub mod AttemptLemmas
pub mod OneReading
mod FrontLemmas
