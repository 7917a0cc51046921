pub mod CallerLemmas
pub mod HeadLemmas
pub mod ReplyLemmas
pub mod RecordLemmas
pub mod JournalLemmas
mod KeptHeads
mod CutLemmas
mod CutJournals
mod KeptJournals
