-- Spare gates, in which others' steps are tried out.
use Rattle.std.specs.Prelude.{◌≡◌, ◌<◌, ℕ, List, ◌++◌, ◌∷◌, [], length}
use Rattle.path_model.specs.declared.ids.OpId.{OpId}
use Rattle.path_model.specs.declared.history.Event.{Event}
use Rattle.path_model.specs.declared.history.Event.TheVariants.{Began}
use Rattle.path_model.specs.Trees.{Tree, WellFormed}
use Rattle.path_model.specs.Legal.{Legal, Every}
use Rattle.path_gate.specs.Standings.{Standing, IsAt}
use Rattle.path_order.specs.declared.waiting.Waiter.{Waiter}
use Rattle.path_order.specs.Waiting.{asked, waiter_at}
use Rattle.path_order.specs.Ways.{all_over, IsClear}

-- the spare gate is where the gate would be if all that runs were over
abbrev pub IsOver : Standing → List OpId → Standing → Type 0
IsOver g run spare = (h : List Event) → IsAt g h → IsAt spare (all_over g.paths run h)

-- one before the i-th waits for the same operation, and came earlier
abbrev pub IsBehind : List Waiter → ℕ → Type 0
IsBehind ws i =
    (k : ℕ) × (k < i) × ((waiter_at ws k).operation ≡ (waiter_at ws i).operation) × ((waiter_at ws k).arrived < (waiter_at ws i).arrived)

-- one who has shut its door before another arrived, and whose way is clear, where P holds of its operation
pub record IsOne (xs : List (ℕ × Tree)) (h : List Event) (run : List OpId) (arrived : ℕ) (P : OpId → Type 0) (w : Waiter) : Type 0 where
  pub shut : w.shut_at < arrived
  pub clear : IsClear xs h run (asked w)
  pub so : P (asked w)

-- the j-th of these is such a one
abbrev pub IsSuch : List (ℕ × Tree) → List Event → List OpId → ℕ → (OpId → Type 0) → List Waiter → ℕ → Type 0
IsSuch xs h run arrived P ahead j = (j < length ahead) × IsOne xs h run arrived P (waiter_at ahead j)

-- Q holds of the first i of these, where they have shut their door before another arrived and their way is clear
abbrev pub AllSuch : List (ℕ × Tree) → List Event → List OpId → ℕ → (OpId → Type 0) → List Waiter → ℕ → Type 0
AllSuch xs h run arrived Q ahead i =
    (j : ℕ) → j < i → (waiter_at ahead j).shut_at < arrived → IsClear xs h run (asked (waiter_at ahead j)) → Q (asked (waiter_at ahead j))

-- The gates at a history: the first is at it, the second where it would be if all that runs were over, the third behind a start of x,
-- which is legal.
pub record AreAt (g clear behind : Standing) (run : List OpId) (h : List Event) (x : OpId) : Type 0 where
  pub legal : Legal g.paths h
  pub starts : Legal g.paths (h ++ Began x ∷ [])
  pub now : IsAt g h
  pub over : IsAt clear (all_over g.paths run h)
  pub started : IsAt behind (h ++ Began x ∷ [])

-- the same, where all that runs is over behind x, too
pub record AreOver (g clear behind : Standing) (run : List OpId) (h : List Event) (x : OpId) : Type 0 where
  pub legal : Legal g.paths h
  pub starts : Legal g.paths (h ++ Began x ∷ [])
  pub over : IsAt clear (all_over g.paths run h)
  pub both_over : IsAt behind (all_over g.paths run (h ++ Began x ∷ []))

-- gates of the same well-formed paths
pub record AreAlike (g clear behind : Standing) : Type 0 where
  pub of_clear : clear.paths ≡ g.paths
  pub of_behind : behind.paths ≡ g.paths
  pub well_formed : Every WellFormed g.paths
