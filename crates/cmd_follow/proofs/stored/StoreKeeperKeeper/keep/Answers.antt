-- A line that failed is left, or isn't.
use Rattle.cmd_follow.proofs.Closing.{some_none}
use Rattle.cmd_follow.proofs.stored.StoreKeeperKeeper.keep.Goals as goal

pub returns-in-Err-clause-left : goal.returns-in-Err-clause-left
returns-in-Err-clause-left g c = λ first found ls k. record { outlasts = c.in-Err.ensures.left first found ls k; failed = λ e. some_none _ e }
