-- None so far can be started.
use Rattle.std.proofs.Common.{List, ◌<◌}
use Rattle.path_model.specs.declared.ids.OpId.{OpId}
use Rattle.path_model.specs.declared.history.Event.{Event}
use Rattle.path_model.specs.Legal.{Legal}
use Rattle.path_model.specs.Declarations.{paths_of}
use Rattle.path_gate.specs.Standings.{IsAt}
use Rattle.cmd_explain.specs.Standing.{Starts}
use Rattle.cmd_explain.proofs.stuck.has_startable.Given as goal

abbrev pub invariant-loop-number : goal.invariant-loop-number
invariant-loop-number g l = (h : List Event) → Legal (paths_of l.decl.declaration) h → IsAt l.gate h → (a : OpId) → a.0 < l.number → Starts l.decl.declaration h l.resource.0 a → ⊥
