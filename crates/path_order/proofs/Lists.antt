-- How many come before one is at most how many wait.
use Rattle.std.proofs.Common.{◌+◌, ◌≤◌, ℕ, Bool, true, false, cond, List, [], ◌∷◌, length, arith}
use Rattle.std.specs.Prelude.{nat_lt}
use Rattle.path_order.specs.declared.waiting.Waiter.{Waiter}
use Rattle.path_order.specs.Waiting.{place_for}

pub place_within : (p : ℕ) (vs : List Waiter) → place_for p vs ≤ length vs
place_within p [] = omega arith
place_within p (v ∷ vs) = front_within (nat_lt v.priority p) (place_within p vs)
  where
    front_within : (b : Bool) → place_for p vs ≤ length vs → cond b 0 (place_for p vs + 1) ≤ length (v ∷ vs)
    front_within true le = omega arith
    front_within false le = omega (arith, le)
