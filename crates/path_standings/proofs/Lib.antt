pub mod Few
pub mod Rows
pub mod Read
pub mod Fits
pub mod Ranks
pub mod Shown
pub mod Writing
pub mod Leads
