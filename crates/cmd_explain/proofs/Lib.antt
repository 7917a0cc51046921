pub mod Kept
pub mod Gathered
pub mod StuckHere
mod Explaining
mod Judging
