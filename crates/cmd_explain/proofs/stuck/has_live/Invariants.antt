-- None so far is of the resource.
use Rattle.std.proofs.Common.{All, take}
use Rattle.cmd_explain.proofs.StuckHere.{Elsewhere}
use Rattle.cmd_explain.proofs.stuck.has_live.Given as goal

abbrev pub invariant-loop-activation : goal.invariant-loop-activation
invariant-loop-activation g l = All (Elsewhere l.decl.declaration l.resource.0) (take l.activation-index l.live)
