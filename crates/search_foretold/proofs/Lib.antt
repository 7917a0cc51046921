pub mod Copies
pub mod Alike
pub mod Turns
pub mod Walking
pub mod RunsForetold
pub mod Examples
