-- What the crates above cite of these proofs, and all that they cite.

-- where the gate, what is live and the contents are those of an honest journal, a step may be made; its reply is owed by the lines before
-- it, and what it leaves is that of the journal with its line
pub use Rattle.path_step.proofs.Apart.{left_by, ready, running, taken_is, owed_is, with_the_line, in_more_room}
-- where they are what lines leave that were owed in whatever room, the history is legal, and the same holds in each room; so do what is
-- foretold, and what they leave over other contents
pub use Rattle.path_step.proofs.Answered.{legal_now, ready_left, taken_left, owed_left, foretold_is}
pub use Rattle.path_step.proofs.Written.{with_line_left}
pub use Rattle.path_step.proofs.Apart.{with_contents}
-- what gets no room changes nothing
pub use Rattle.path_step.proofs.Roomless.{without_room}
-- what a law refuses with is neither `Used` nor `DeviceFailed`
pub use Rattle.path_step.proofs.Written.{IsRefusal, refusal_of}
-- a step asks the resource of the live activation that it uses, or none; and its line asks the same
pub use Rattle.path_step.proofs.Asked.{AsksNone, AsksOne, asks, asked_by_line}
-- whichever lines led there, a step keeps the gate and what is live together, and the places that are left for finishes
pub use Rattle.path_step.proofs.Together.{together_running, together_after, paths_after, few_after}
