-- The ways so far stay clear.
use Rattle.std.proofs.Common.{◌++◌, ◌∷◌, [], List}
use Rattle.path_model.specs.declared.ids.OpId.{OpId}
use Rattle.path_model.specs.declared.history.Event.{Event}
use Rattle.path_model.specs.declared.history.Event.TheVariants.{Began}
use Rattle.path_gate.specs.Standings.{Standing}
use Rattle.path_order.specs.Ways.{IsClear}
use Rattle.path_order.specs.Inner.Spares.{AreAlike, AreOver, AllSuch}
use Rattle.path_order.proofs.ruling.first_shut.Given as goal

abbrev pub invariant-loop-place : goal.invariant-loop-place
invariant-loop-place g l =
    (gate : Standing) (run : List OpId) (h : List Event) (x : OpId) → AreAlike gate l.clear l.behind → AreOver gate l.clear l.behind run h x
    → AllSuch gate.paths h run l.arrived (IsClear gate.paths (h ++ Began x ∷ []) run) l.ahead l.place
