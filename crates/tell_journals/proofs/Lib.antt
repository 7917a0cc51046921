pub mod CallerLemmas
mod Going
mod Wrong
