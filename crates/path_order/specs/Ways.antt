-- Whose way is clear, and what stands in it.
use Rattle.std.specs.Prelude.{◌<◌, ◌&&◌, ◌||◌, nat_lt, if◌then◌else◌, ℕ, Bool, false, List, [], ◌∷◌, ◌++◌, ◌⊎◌}
use Rattle.path_model.specs.declared.ids.OpId.{OpId}
use Rattle.path_model.specs.declared.history.Event.{Event}
use Rattle.path_model.specs.declared.history.Event.TheVariants.{Began, Ended}
use Rattle.path_model.specs.Trees.{Tree, has}
use Rattle.path_model.specs.Histories.{begun, ended}
use Rattle.path_model.specs.Legal.{Legal, Forbids}
use Rattle.path_model.specs.Trimmed.{kept}
use Rattle.path_gate.specs.Standings.{AtNumber}

-- whether some path names the operation
abbrev pub is_named : List (ℕ × Tree) → OpId → Bool
is_named [] a = false
is_named (x ∷ xs) a = has x.1 a || is_named xs a

-- the history, and one execution of a is over, if a path names it and one is in progress
abbrev pub one_over : List (ℕ × Tree) → OpId → List Event → List Event
one_over xs a h = if is_named xs a && nat_lt (ended a h) (begun a h) then (h ++ Ended a ∷ []) else h

-- the history, and all of these are over
abbrev pub all_over : List (ℕ × Tree) → List OpId → List Event → List Event
all_over xs [] h = h
all_over xs (a ∷ run) h = all_over xs run (one_over xs a h)

-- the way of y is clear: it would be admitted if all that runs were over
abbrev pub IsClear : List (ℕ × Tree) → List Event → List OpId → OpId → Type 0
IsClear xs h run y = Legal xs (all_over xs run h ++ Began y ∷ [])

-- In one of the first n paths y may begin now, and not behind x: x takes what that path has free for y. Of equal paths the first counts.
abbrev pub Takes : List (ℕ × Tree) → ℕ → List Event → OpId → OpId → Type 0
Takes xs n h x y =
    (p : ℕ) × (p < n) × AtNumber (λ s. (Forbids h y s → ⊥) × Forbids (h ++ Began x ∷ []) y s) p (kept [] xs)

-- each of the first n paths that forbids y behind x forbids it now
abbrev pub TakesNothing : List (ℕ × Tree) → ℕ → List Event → OpId → OpId → Type 0
TakesNothing xs n h x y =
    (p : ℕ) → p < n → AtNumber (λ s. Forbids (h ++ Began x ∷ []) y s → (Forbids h y s → ⊥) → ⊥) p (kept [] xs)

-- x stands in the clear way of y: it takes what a path has free for y now, or y's way would not be clear behind it
pub record StandsInTheWay (xs : List (ℕ × Tree)) (n : ℕ) (h : List Event) (run : List OpId) (x y : OpId) : Type 0 where
  pub clear : IsClear xs h run y
  pub stands : Takes xs n h x y ⊎ (IsClear xs (h ++ Began x ∷ []) run y → ⊥)

-- x doesn't: where y's way is clear, it takes nothing, and leaves the way clear
abbrev pub LetsPass : List (ℕ × Tree) → ℕ → List Event → List OpId → OpId → OpId → Type 0
LetsPass xs n h run x y = IsClear xs h run y → TakesNothing xs n h x y × IsClear xs (h ++ Began x ∷ []) run y
