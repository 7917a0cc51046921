pub mod CallerLemmas
pub mod WholeLemmas
pub mod InputLemmas
pub mod PutLemmas
pub mod FaultLemmas
pub mod EndLemmas
pub mod OwnLemmas
