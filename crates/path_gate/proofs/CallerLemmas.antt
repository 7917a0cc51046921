-- What the crates above cite of these proofs, and all that they cite.

-- whether a journal has a place for an attempt, and whose an activation is
pub use Rattle.path_gate.proofs.Placed.{roomy, not_roomy, roomy_or, not_roomy_or, not_own, own_or_other}
-- places and numbers behind earlier lines
pub use Rattle.path_gate.proofs.Numbered.{both_left, left_fails, right_fails, same_room, owed_without_number, owed_with_number}
-- a start that no path forbids, and the operation of what is live
pub use Rattle.path_gate.proofs.Placed.{none_forbids, found_declared}
-- what a path names is declared
pub use Rattle.path_gate.proofs.Counted.{named_declared}
-- what may go to another thread
pub use Rattle.path_gate.proofs.Threads.{gate_send}
-- the values of a gate at a history
pub use Rattle.path_gate.proofs.Determined.{same_semaphores, same_counters}
-- pasts: the same values and counts have the same, and one history of all paths is a past of each
pub use Rattle.path_gate.proofs.Pasts.{same_pasts, one_history}
