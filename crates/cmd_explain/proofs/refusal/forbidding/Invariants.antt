-- The paths so far that forbid the start.
use Rattle.std.proofs.Common.{◌<◌, List, length, All}
use Rattle.path_model.specs.declared.history.Event.{Event}
use Rattle.path_model.specs.Legal.{Legal}
use Rattle.path_model.specs.Declarations.{paths_of}
use Rattle.path_gate.specs.Standings.{IsAt}
use Rattle.cmd_explain.specs.Standing.{AreForbidding}
use Rattle.cmd_explain.proofs.refusal.forbidding.Given as goal

abbrev pub invariant-loop-number : goal.invariant-loop-number
invariant-loop-number g l =
    ((h : List Event) → Legal (paths_of l.decl.declaration) h → IsAt l.gate h → AreForbidding l.decl.declaration h l.op l.number l.paths.items)
    × All (λ p. p.0 < length l.decl.declaration.paths) l.paths.items
