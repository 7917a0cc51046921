pub mod Substituted
pub mod NumberLists
pub mod Counts
pub mod Tables
pub mod Texts
pub mod CallerLemmas
pub mod Examples
