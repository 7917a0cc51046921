pub mod Follows
pub mod Stops
pub mod Inner
pub mod Stored
