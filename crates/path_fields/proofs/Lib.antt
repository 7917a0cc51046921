pub mod SplitLemmas
pub mod Numbers
pub mod CallerLemmas
