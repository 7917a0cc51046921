-- Nothing is taken in the paths so far.
use Rattle.std.proofs.Common.{◌++◌, ◌∷◌, [], List}
use Rattle.path_model.specs.declared.ids.OpId.{OpId}
use Rattle.path_model.specs.declared.history.Event.{Event}
use Rattle.path_model.specs.declared.history.Event.TheVariants.{Began}
use Rattle.path_model.specs.Legal.{Legal}
use Rattle.path_gate.specs.Standings.{IsAt}
use Rattle.path_order.specs.Ways.{TakesNothing}
use Rattle.path_order.proofs.spare.takes.Given as goal

abbrev pub invariant-loop-path : goal.invariant-loop-path
invariant-loop-path g l =
    (h : List Event) (x : OpId) → Legal l.gate.paths h → IsAt l.gate h → Legal l.gate.paths (h ++ Began x ∷ []) → IsAt l.behind (h ++ Began x ∷ [])
    → TakesNothing l.gate.paths l.path h x l.y
