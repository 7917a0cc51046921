pub mod Replies
pub mod JournalTexts
pub mod JournalFaults
pub mod CutTexts
