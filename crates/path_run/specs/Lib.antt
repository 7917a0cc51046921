pub mod Runs
pub mod Lines
pub mod Unsettled
pub mod Ended
pub mod Stopped
pub mod Waiting
pub mod Inner
