pub mod TableLemmas
pub mod Threads
pub mod CallerLemmas
pub mod SameLists
pub mod SameTrees
pub mod Noted
pub mod Shown
