-- Burst counts: what the values of semaphores and counters count while braces are open.
use Rattle.std.specs.Prelude.{◌≡◌, ◌≢◌, ◌≤◌, ◌<◌, ◌+◌, ℕ, List, [], ◌∷◌, ◌++◌, ◌↔◌, length}
use Rattle.path_model.specs.declared.ids.OpId.{OpId}
use Rattle.path_model.specs.declared.history.Event.{Event}
use Rattle.path_model.specs.declared.history.Event.TheVariants.{Began}
use Rattle.path_model.specs.Trees.{Bound, any, most, BoundAdmits, Tree, seq, alt, burst, Names, WellFormed}
use Rattle.path_model.specs.Labellings.{events_of, carrying, Member, NoneTwice}
use Rattle.path_model.specs.Words.{IsWord}
use Rattle.path_model.specs.Behaviour.{IsFront, IsPartLabelling, Behaves}
use Rattle.path_model.specs.Projection.{projection}
use Rattle.path_model.specs.Machine.{semicolons, braces, Plain, through, prologue, values_after, CanPass}

-- t is a part of the other tree; its first semicolon and its first braces have the numbers i and j, those of the whole tree n and m
pub data Inside (t : Tree) (i j : ℕ) : Tree → ℕ → ℕ → Type 0 where
  itself : Inside t i j t i j
  seq_first : (s u : Tree) (n m : ℕ) → Inside t i j s n m → Inside t i j (seq s u) n m
  seq_second : (s u : Tree) (n m : ℕ) → Inside t i j u (n + semicolons s + 1) (m + braces s) → Inside t i j (seq s u) n m
  alt_first : (s u : Tree) (n m : ℕ) → Inside t i j s n m → Inside t i j (alt s u) n m
  alt_second : (s u : Tree) (n m : ℕ) → Inside t i j u (n + semicolons s) (m + braces s) → Inside t i j (alt s u) n m
  in_braces : (bd : Bound) (s : Tree) (n m : ℕ) → Inside t i j s n (m + 1) → Inside t i j (burst bd s) n m

-- exactly n numbers meet P
pub record Many (P : ℕ → Type 0) (n : ℕ) : Type 0 where
  pub all : List ℕ
  pub apart : NoneTwice all
  pub each : (k : ℕ) → Member k all ↔ P k
  pub many : length all ≡ n

-- w is the open burst of the braces around b: the longest end of the history that is a proper front of a word of the braces
pub record OpenBurst (bd : Bound) (b : Tree) (h w : List Event) : Type 0 where
  pub before : List Event
  pub joined : h ≡ before ++ w
  pub some : w ≢ []
  pub front : IsFront (IsWord (burst bd b)) w
  pub proper : IsWord (burst bd b) w → ⊥
  pub longest :
      (u x : List Event) → h ≡ u ++ x → x ≢ [] → IsFront (IsWord (burst bd b)) x → (IsWord (burst bd b) x → ⊥)
      → length x ≤ length w

abbrev pub InUse : List (ℕ × Event) → ℕ → Type 0
InUse ls k = carrying k ls ≢ []

-- the label's execution isn't over
abbrev pub Unfinished : Tree → List (ℕ × Event) → ℕ → Type 0
Unfinished b ls k = InUse ls k × (IsWord b (carrying k ls) → ⊥)

-- in the label's execution l is over and r hasn't begun
abbrev pub StandsAt : Tree → Tree → List (ℕ × Event) → ℕ → Type 0
StandsAt l r ls k = IsWord l (projection l (carrying k ls)) × (projection r (carrying k ls) ≡ [])

-- the bound's semaphore is the bound less the number of unfinished labels
abbrev pub Spare : Bound → ℕ → ℕ → Type 0
Spare any u c = Unit {0}
Spare (most n) u c = u + c ≡ n

-- how each part labelling of an open burst agrees with the values; the braces have the number j
pub record Counts (s b : Tree) (bd : Bound) (i j : ℕ) (h : List Event) (ls : List (ℕ × Event)) : Type 0 where
  pub counter : Many (Unfinished b ls) ((values_after s h).counter j)
  pub spare : Spare bd ((values_after s h).bound j) ((values_after s h).counter j)
  pub semaphores :
      (l r : Tree) (n m : ℕ) → Inside (seq l r) n m b i (j + 1)
      → Many (StandsAt l r ls) ((values_after s h).semaphore (n + semicolons l))
  -- a start whose prologue is P can be given to a label in use if and only if it can pass
  pub goes_on :
      (a : OpId) (q : ℕ) → Names b a → prologue s a ≡ Plain q
      → CanPass s h a ↔ ((k : ℕ) × InUse ls k × IsPartLabelling b (ls ++ (k, Began a) ∷ []))
  -- and it can be given to no other label
  pub only_in_use :
      (a : OpId) (q : ℕ) → Names b a → prologue s a ≡ Plain q
      → (k : ℕ) → IsPartLabelling b (ls ++ (k, Began a) ∷ []) → InUse ls k
  -- a start whose prologue is PP can begin any label that isn't in use if the bound has room; it can pass exactly then
  pub room : (a : OpId) (q : ℕ) → prologue s a ≡ through bd j q → CanPass s h a ↔ BoundAdmits bd ((values_after s h).counter j)
  pub begins :
      (a : OpId) (q : ℕ) → Names b a → prologue s a ≡ through bd j q
      → (k : ℕ) → (InUse ls k → ⊥) → IsPartLabelling b (ls ++ (k, Began a) ∷ [])

abbrev pub EachLabellingCounts : Type 0
EachLabellingCounts =
    (s : Tree) → WellFormed s
    → (bd : Bound) (b : Tree) (i j : ℕ) → Inside (burst bd b) i j s 1 0
    → (h w : List Event) → Behaves s h → OpenBurst bd b h w
    → (ls : List (ℕ × Event)) → events_of ls ≡ w → IsPartLabelling b ls
    → Counts s b bd i j h ls

-- the counter is above 0 exactly while the braces are open
abbrev pub CountersTellOpenBraces : Type 0
CountersTellOpenBraces =
    (s : Tree) → WellFormed s
    → (bd : Bound) (b : Tree) (i j : ℕ) → Inside (burst bd b) i j s 1 0
    → (h : List Event) → Behaves s h
    → (0 < (values_after s h).counter j) ↔ ((w : List Event) × OpenBurst bd b h w)
