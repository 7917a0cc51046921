pub mod Places
pub mod Likeness
pub mod Lists
pub mod Replayed
pub mod Segments
