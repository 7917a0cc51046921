pub mod LeftOver
pub mod Lawful
pub mod Walk
pub mod Listed
pub mod Examples
