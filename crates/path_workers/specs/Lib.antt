pub mod Attempts
pub mod Later
pub mod Settled
pub mod Faults
pub mod Inner
