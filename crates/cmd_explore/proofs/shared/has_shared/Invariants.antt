-- None of the operations so far is shared.
use Rattle.std.proofs.Common.{◌<◌}
use Rattle.path_model.specs.declared.ids.OpId.{OpId}
use Rattle.cmd_explore.specs.Shared.{IsShared}
use Rattle.cmd_explore.proofs.shared.has_shared.Given as goal

abbrev pub invariant-loop-number : goal.invariant-loop-number
invariant-loop-number g l = (a : OpId) → a.0 < l.number → IsShared l.decl.declaration a → ⊥
