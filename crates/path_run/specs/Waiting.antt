-- When a run is marked as stalled.
use Rattle.std.specs.Prelude.{◌≡◌, ◌⊎◌, ◌↔◌, ◌<◌, ◌≤◌, ℕ, Bool, true}

-- it was marked before, or somebody hasn't ended and each that hasn't waits
abbrev pub IsMarked : Bool → ℕ → ℕ → Bool → Type 0
IsMarked before waiting left after = (after ≡ true) ↔ ((before ≡ true) ⊎ ((0 < left) × (left ≤ waiting)))
