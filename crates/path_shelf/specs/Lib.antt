pub mod States
pub mod Shelves
pub mod Openings
pub mod Own
