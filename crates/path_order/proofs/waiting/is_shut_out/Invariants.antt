-- None so far has shut its door before.
use Rattle.std.proofs.Common.{◌<◌, ℕ}
use Rattle.path_order.specs.Waiting.{waiter_at}
use Rattle.path_order.proofs.waiting.is_shut_out.Given as goal

abbrev pub invariant-loop-waiter : goal.invariant-loop-waiter
invariant-loop-waiter l = (j : ℕ) → j < l.waiter-index → (waiter_at l.ahead j).shut_at < l.arrived → ⊥
