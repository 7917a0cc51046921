-- What callers may cite of stores, besides the contracts.
pub use Rattle.path_store.proofs.Moments.{joined, read_untouched, untouched_same, weaker}
pub use Rattle.path_store.proofs.Crash.{at_start, found_longer}
