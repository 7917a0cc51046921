-- The law of one path: its semaphores admit exactly what its words allow.
use Rattle.std.specs.Prelude.{List, [], ◌∷◌, ◌++◌, ◌↔◌}
use Rattle.path_model.specs.declared.ids.OpId.{OpId}
use Rattle.path_model.specs.declared.history.Event.{Event}
use Rattle.path_model.specs.declared.history.Event.TheVariants.{Began, Ended}
use Rattle.path_model.specs.Trees.{Tree, Names, WellFormed}
use Rattle.path_model.specs.Histories.{InProgress}
use Rattle.path_model.specs.Behaviour.{Behaves}
use Rattle.path_model.specs.Machine.{CanPass}

-- after each history of the path's behaviour, and for each operation that the path names
pub record AdmitsItsWords (s : Tree) : Type 0 where
  -- its prologue can pass exactly when a start of it keeps the behaviour
  pub starts : (h : List Event) (a : OpId) → Behaves s h → Names s a → CanPass s h a ↔ Behaves s (h ++ Began a ∷ [])
  -- it is in progress exactly when a finish of it keeps the behaviour
  pub finishes : (h : List Event) (a : OpId) → Behaves s h → Names s a → InProgress a h ↔ Behaves s (h ++ Ended a ∷ [])

abbrev pub EachPathAdmitsItsWords : Type 0
EachPathAdmitsItsWords = (s : Tree) → WellFormed s → AdmitsItsWords s
