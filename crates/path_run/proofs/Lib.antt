pub mod Taking
pub mod Steps
pub mod Hands
pub mod Orders
pub mod Blocking
pub mod Stalls
