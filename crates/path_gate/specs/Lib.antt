pub mod Levels
pub mod Sites
pub mod Standings
pub mod Inner
