-- How values are stored, and what loops and private functions know. What a public call promises is in the files beside this one.
pub mod FirstEqual
pub mod Steps
pub mod Parts
pub mod Kept
