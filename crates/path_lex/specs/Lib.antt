pub mod Bytes
pub mod Names
pub mod Spelling
pub mod Tokenless
