pub mod Refused
pub mod Once
pub mod Computed
pub mod Inner
