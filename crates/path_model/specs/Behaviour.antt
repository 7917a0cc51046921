-- The behaviour of a path: the fronts of its repeated executions.
use Rattle.std.specs.Prelude.{◌≡◌, ℕ, List, [], ◌∷◌, ◌++◌}
use Rattle.path_model.specs.declared.history.Event.{Event}
use Rattle.path_model.specs.Trees.{Tree}
use Rattle.path_model.specs.Labellings.{Language, EachLabel}
use Rattle.path_model.specs.Words.{IsWord}

-- a front of a word
abbrev pub IsFront : Language → List Event → Type 0
IsFront L w = (z : List Event) × L (w ++ z)

-- a labelling in which each label's events are a front of a word
abbrev pub IsPartLabelling : Tree → List (ℕ × Event) → Type 0
IsPartLabelling s ls = EachLabel (IsFront (IsWord s)) ls

-- any number of words, one after the other
abbrev pub IsRepeated : Tree → List (List Event) → List Event → Type 0
IsRepeated s [] w = w ≡ []
IsRepeated s (x ∷ xs) w = (y : List Event) × (w ≡ x ++ y) × IsWord s x × IsRepeated s xs y

-- the behaviour of the path of a tree: the fronts of any number of words
abbrev pub Behaves : Tree → List Event → Type 0
Behaves s h = (xs : List (List Event)) × IsFront (IsRepeated s xs) h
