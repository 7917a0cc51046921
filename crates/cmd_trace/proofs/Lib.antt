pub mod FaultLemmas
pub mod TraceLemmas
pub mod FailLemmas
