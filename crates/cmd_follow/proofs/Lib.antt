pub mod Written
pub mod Answering
pub mod Passing
pub mod Stopping
pub mod Reading
pub mod Ending
pub mod Behind
mod Opening
mod Closing
pub mod Outlasting
