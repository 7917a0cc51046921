-- The machines agree: a path has the same values alone, among others, and in the one table of all paths.
use Rattle.std.specs.Prelude.{◌≡◌, ℕ, List, [], ◌∷◌}
use Rattle.path_model.specs.declared.history.Event.{Event}
use Rattle.path_model.specs.Trees.{Tree}
use Rattle.path_model.specs.Projection.{projection}
use Rattle.path_model.specs.Legal.{Every}
use Rattle.path_model.specs.Machine.{opening, values_after}
use Rattle.path_model.specs.AmongOthers.{values_among}
use Rattle.path_model.specs.AllPaths.{Running, after}
use Rattle.path_model.specs.Flat.{sited, flat_from, flat_opening, Shows}

-- the paths, each with its values after the events that it names
abbrev pub each_alone : List (ℕ × Tree) → List Event → List (ℕ × Running)
each_alone [] h = []
each_alone (x ∷ xs) h = (x.0, record { tree = x.1; values = values_after x.1 (projection x.1 h) }) ∷ each_alone xs h

pub record Agreed (xs : List (ℕ × Tree)) (h : List Event) : Type 0 where
  pub among : (s : Tree) → values_among s (opening s) h ≡ values_after s (projection s h)
  pub all : after xs h ≡ each_alone xs h
  pub table :
      Every (λ x. Shows x (flat_from (sited 0 0 xs) (flat_opening (sited 0 0 xs)) h) (values_after x.tree (projection x.tree h)))
      (sited 0 0 xs)

-- after every history
abbrev pub TheMachinesAgree : Type 0
TheMachinesAgree = (xs : List (ℕ × Tree)) (h : List Event) → Agreed xs h
