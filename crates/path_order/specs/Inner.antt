-- What private functions know. What a public call promises is in the files beside this one.
pub mod Spares
