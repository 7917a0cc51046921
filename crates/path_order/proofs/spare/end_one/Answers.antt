-- What is counted as in progress is over, and what isn't stays.
use Rattle.std.proofs.Common.{subst}
use Rattle.path_gate.specs.Standings.{IsAt}
use Rattle.path_order.proofs.Over.{over_if_some, same_if_none}
use Rattle.path_order.proofs.spare.end_one.Goals as goal

pub returns-then-in_progress-gt0-clause-at : goal.returns-then-in_progress-gt0-clause-at
returns-then-in_progress-gt0-clause-at g c =
    λ h at. subst (λ k. IsAt c.release.new.self k) (over_if_some c.args.spare.now h at c.args.op c.in_progress.result c.in_progress.ensures.counted c.in_progress.ensures.unnamed c.if-in_progress-gt0.true) (c.release.ensures.moves.moved h at)

pub returns-else-in_progress-gt0-clause-at : goal.returns-else-in_progress-gt0-clause-at
returns-else-in_progress-gt0-clause-at g c =
    λ h at. subst (λ k. IsAt c.args.spare.now k) (same_if_none c.args.spare.now h at c.args.op c.in_progress.result c.in_progress.ensures.counted c.in_progress.ensures.unnamed c.if-in_progress-gt0.false) at
