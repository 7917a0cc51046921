pub mod Answered
pub mod Written
pub mod Roomless
pub mod Asked
pub mod Apart
pub mod Together
pub mod CallerLemmas
