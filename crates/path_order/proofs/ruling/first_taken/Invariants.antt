-- Nothing is taken from those so far.
use Rattle.std.proofs.Common.{List}
use Rattle.path_model.specs.declared.ids.OpId.{OpId}
use Rattle.path_model.specs.declared.history.Event.{Event}
use Rattle.path_order.specs.Ways.{TakesNothing}
use Rattle.path_order.specs.Inner.Spares.{AreAt, AllSuch}
use Rattle.path_order.proofs.ruling.first_taken.Given as goal

abbrev pub invariant-loop-place : goal.invariant-loop-place
invariant-loop-place g l =
    (run : List OpId) (h : List Event) (x : OpId) → AreAt l.gate l.clear l.behind run h x
    → AllSuch l.gate.paths h run l.arrived (TakesNothing l.gate.paths l.paths h x) l.ahead l.place
