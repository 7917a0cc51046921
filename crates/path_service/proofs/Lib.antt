pub mod Asked
pub mod Threads
pub mod ReadFault
pub mod Refused
pub mod Served
pub mod LinesTaken
pub mod Refusing
pub mod CallerLemmas
