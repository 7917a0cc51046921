pub mod Answers
pub mod Held
pub mod Calls
pub mod Taken
pub mod Searched
