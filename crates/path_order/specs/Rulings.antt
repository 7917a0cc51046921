-- What is told of those who wait, and of one who comes.
use Rattle.std.specs.Prelude.{◌<◌, ℕ, List, ◌++◌, ◌∷◌, [], length, take, ◌⊎◌, Option, Some, None}
use Rattle.path_model.specs.declared.ids.OpId.{OpId}
use Rattle.path_model.specs.declared.history.Event.{Event}
use Rattle.path_model.specs.declared.history.Event.TheVariants.{Began}
use Rattle.path_model.specs.Trees.{Tree}
use Rattle.path_model.specs.Legal.{Legal, First, Forbids}
use Rattle.path_order.specs.declared.waiting.Waiter.{Waiter}
use Rattle.path_order.specs.declared.ruling.Ruling.{Ruling}
use Rattle.path_order.specs.declared.ruling.Ruling.TheVariants.{Goes, Refused, Withheld}
use Rattle.path_order.specs.Waiting.{asked, waiter_at}
use Rattle.path_order.specs.Ways.{StandsInTheWay, LetsPass}

-- the first n of these paths, the history so far, and what is in progress for those who run
module _ (xs : List (ℕ × Tree)) (n : ℕ) (h : List Event) (run : List OpId) where
  -- no path forbids a start of x
  abbrev pub IsAdmissible : OpId → Type 0
  IsAdmissible x = Legal xs (h ++ Began x ∷ [])

  -- A start that one asks for is withheld for the j-th of those who come before it: that one has shut its door before the other arrived,
  -- its way is clear, and the start stands in it.
  pub record IsWithheldFor (ahead : List Waiter) (w : Waiter) (j : ℕ) : Type 0 where
    pub within : j < length ahead
    pub shut : (waiter_at ahead j).shut_at < w.arrived
    pub stands : StandsInTheWay xs n h run (asked w) (asked (waiter_at ahead j))

  -- it is withheld for none of them
  abbrev pub IsFree : List Waiter → Waiter → Type 0
  IsFree ahead w =
      (j : ℕ) → j < length ahead → (waiter_at ahead j).shut_at < w.arrived → LetsPass xs n h run (asked w) (asked (waiter_at ahead j))

  -- what becomes of a start that one asks for behind these
  abbrev pub IsRuled : List Waiter → Waiter → Ruling → Type 0
  IsRuled ahead w Goes = IsAdmissible (asked w) × IsFree ahead w
  IsRuled ahead w (Refused p) = First (Forbids h (asked w)) xs p.0
  IsRuled ahead w (Withheld j) = IsAdmissible (asked w) × IsWithheldFor ahead w j

  -- the i-th of those who wait can't go on now: a path forbids it, or it is withheld for one before it
  abbrev pub IsHeldBack : List Waiter → ℕ → Type 0
  IsHeldBack ws i = (IsAdmissible (asked (waiter_at ws i)) → ⊥) ⊎ ((j : ℕ) × IsWithheldFor (take i ws) (waiter_at ws i) j)

  -- who is next: the first who is neither refused nor withheld
  abbrev pub IsNext : List Waiter → Option ℕ → Type 0
  IsNext ws None = (i : ℕ) → i < length ws → IsHeldBack ws i
  IsNext ws (Some i) =
      (i < length ws) × IsAdmissible (asked (waiter_at ws i)) × IsFree (take i ws) (waiter_at ws i)
      × ((k : ℕ) → k < i → IsHeldBack ws k)

  -- the first of those who wait whose start no path forbids
  abbrev pub IsFirstAdmissible : List Waiter → Option ℕ → Type 0
  IsFirstAdmissible ws None = (i : ℕ) → i < length ws → IsAdmissible (asked (waiter_at ws i)) → ⊥
  IsFirstAdmissible ws (Some i) =
      (i < length ws) × IsAdmissible (asked (waiter_at ws i)) × ((k : ℕ) → k < i → IsAdmissible (asked (waiter_at ws k)) → ⊥)
