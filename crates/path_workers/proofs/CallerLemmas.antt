-- The proofs of this crate that the crates above cite; they cite no others.

-- of a settled desk each receipt is a copy of the line at its place
pub use Rattle.path_workers.proofs.Counted.{each_receipt_is_a_line}
