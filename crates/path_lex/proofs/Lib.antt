pub mod Cut
pub mod Lengths
pub mod CallerLemmas
