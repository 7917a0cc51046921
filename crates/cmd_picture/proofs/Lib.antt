pub mod Framed
pub mod Refused
