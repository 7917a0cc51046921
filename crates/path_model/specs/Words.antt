-- The words of a tree: its whole executions.
use Rattle.std.specs.Prelude.{◌≡◌, ◌≢◌, ℕ, List, [], ◌∷◌, ◌++◌, ◌⊎◌}
use Rattle.path_model.specs.declared.history.Event.{Event}
use Rattle.path_model.specs.declared.history.Event.TheVariants.{Began, Ended}
use Rattle.path_model.specs.Trees.{Bound, Tree, op, seq, alt, burst}
use Rattle.path_model.specs.Labellings.{Language, events_of, EachLabel, IsShuffle, WithinBound}

-- a nonempty shuffle, by labels within the bound, of which no shorter nonempty front is a shuffle
pub record IsBurst (b : Bound) (L : Language) (w : List Event) : Type 0 where
  pub shuffle : (ls : List (ℕ × Event)) × (events_of ls ≡ w) × EachLabel L ls × WithinBound b ls
  pub some : w ≢ []
  pub first : (x y : List Event) → w ≡ x ++ y → x ≢ [] → y ≢ [] → IsShuffle L x → ⊥

-- the words of a tree
abbrev pub IsWord : Tree → List Event → Type 0
IsWord (op a) w = w ≡ Began a ∷ Ended a ∷ []
IsWord (seq s t) w = (x : List Event) × (y : List Event) × (w ≡ x ++ y) × IsWord s x × IsWord t y
IsWord (alt s t) w = IsWord s w ⊎ IsWord t w
IsWord (burst bd s) w = IsBurst bd (IsWord s) w
