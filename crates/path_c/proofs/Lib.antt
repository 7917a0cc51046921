pub mod AsBox
pub mod Behind
pub mod Refused
pub mod Taking
pub mod Told
