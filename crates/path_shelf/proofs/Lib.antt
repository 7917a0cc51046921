pub mod Shelved
pub mod Laws
pub mod CallerLemmas
