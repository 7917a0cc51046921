-- Those so far whose operation the path names.
use Rattle.std.proofs.Common.{◌≡◌, take}
use Rattle.std.specs.Prelude.{filter}
use Rattle.path_model.specs.Trees.{has}
use Rattle.cmd_explain.specs.Standing.{tree_at}
use Rattle.cmd_explain.proofs.refusal.underway.Given as goal

abbrev pub invariant-loop-activation : goal.invariant-loop-activation
invariant-loop-activation g l = l.found.items ≡ filter (λ x. has (tree_at l.decl.declaration l.path) x.op) (take l.activation-index l.live)
