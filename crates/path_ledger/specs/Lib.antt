pub mod Ledgers
pub mod Inner
