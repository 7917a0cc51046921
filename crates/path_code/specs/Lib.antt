pub mod Names
pub mod Terms
pub mod PathCodes
pub mod LawfulPaths
pub mod Known
pub mod Listing
pub mod Inner
