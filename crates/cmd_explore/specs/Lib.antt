pub mod Standings
pub mod Searches
pub mod Reaches
pub mod Shared
