pub mod Devices
pub mod Stores
pub mod Faults
pub mod AnyBytes
