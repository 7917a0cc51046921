pub mod ReadFaults
pub mod Serving
pub mod Services
pub mod Verdicts
pub mod Searches
pub mod Taken
pub mod Ordered
pub mod Inner
