pub mod StandingLemmas
pub mod SearchLemmas
pub mod ReachLemmas
