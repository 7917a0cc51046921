pub mod Sums
pub mod Numbers
pub mod Facts
pub mod Fronts
pub mod Heads
pub mod Written
