-- The operations so far that may begin.
use Rattle.std.proofs.Common.{List}
use Rattle.path_model.specs.declared.history.Event.{Event}
use Rattle.path_model.specs.Legal.{Legal}
use Rattle.path_model.specs.Declarations.{paths_of}
use Rattle.path_gate.specs.Standings.{IsAt}
use Rattle.cmd_explain.specs.Standing.{AreNext}
use Rattle.cmd_explain.proofs.refusal.may_begin.Given as goal

abbrev pub invariant-loop-number : goal.invariant-loop-number
invariant-loop-number g l = (h : List Event) → Legal (paths_of l.decl.declaration) h → IsAt l.gate h → AreNext l.decl.declaration h l.path l.number l.ops.items
