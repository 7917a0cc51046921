-- What becomes of a start, by what the loops found.
use Rattle.std.proofs.Common.{◌≡◌, ◌<◌, ℕ, List, [], ◌∷◌, ◌++◌, length, take, refl, subst, sym, inl, inr, Some}
use Rattle.path_model.specs.declared.ids.OpId.{OpId}
use Rattle.path_model.specs.declared.history.Event.{Event}
use Rattle.path_model.specs.declared.history.Event.TheVariants.{Began}
use Rattle.path_model.specs.Trees.{Tree}
use Rattle.path_model.specs.Legal.{Legal}
use Rattle.path_gate.specs.Standings.{Standing, IsAt}
use Rattle.path_order.specs.declared.waiting.Waiter.{Waiter}
use Rattle.path_order.specs.declared.ruling.Ruling.{Ruling}
use Rattle.path_order.specs.declared.ruling.Ruling.TheVariants.{Goes, Refused, Withheld}
use Rattle.path_order.specs.Ways.{all_over, IsClear, Takes, TakesNothing}
use Rattle.path_order.specs.Waiting.{asked, waiter_at, NobodyShutsOut}
use Rattle.path_order.specs.Rulings.{IsRuled, IsHeldBack, IsNext}
use Rattle.path_order.specs.Inner.Spares.{IsSuch, AllSuch, IsOver}
use Rattle.path_order.proofs.Judging.{not_legal}

module _ (xs : List (ℕ × Tree)) (n : ℕ) (run : List OpId) (h : List Event) (w : Waiter) (ahead : List Waiter) (starts : Legal xs (h ++ Began (asked w) ∷ [])) where
  pub taken_is : (j : ℕ) → IsSuch xs h run w.arrived (Takes xs n h (asked w)) ahead j → IsRuled xs n h run ahead w (Withheld j)
  taken_is j such = (starts, record { within = such.0; shut = such.1.shut; stands = record { clear = such.1.clear; stands = inl such.1.so } })

  pub shut_is : (j : ℕ) → IsSuch xs h run w.arrived (λ y. IsClear xs (h ++ Began (asked w) ∷ []) run y → ⊥) ahead j → IsRuled xs n h run ahead w (Withheld j)
  shut_is j such = (starts, record { within = such.0; shut = such.1.shut; stands = record { clear = such.1.clear; stands = inr such.1.so } })

  pub goes_is : AllSuch xs h run w.arrived (TakesNothing xs n h (asked w)) ahead (length ahead) → AllSuch xs h run w.arrived (IsClear xs (h ++ Began (asked w) ∷ []) run) ahead (length ahead)
      → IsRuled xs n h run ahead w Goes
  goes_is free stays = (starts, λ j l shut clear. (free j l shut clear, stays j l shut clear))

  pub unopposed_is : NobodyShutsOut ahead w.arrived → IsRuled xs n h run ahead w Goes
  unopposed_is nobody = (starts, λ j l shut. absurd (nobody j l shut))

-- a gate of the same paths is where all that runs is over
pub over_there : (g spare new : Standing) (run : List OpId) → spare.paths ≡ g.paths → ((h : List Event) → IsAt spare h → IsAt new (all_over spare.paths run h)) → (k : List Event) → IsAt spare k → IsAt new (all_over g.paths run k)
over_there g spare new run paths ends k at = subst (λ xs. IsAt new (all_over xs run k)) paths (ends k at)

-- one of those who wait, by what becomes of its start
module _ (xs : List (ℕ × Tree)) (n m : ℕ) (run : List OpId) (h : List Event) (ws : List Waiter) (i : ℕ) (ahead : List Waiter) (same : m ≡ n) where
  ruled_so : (r : Ruling) → IsRuled xs m h run ahead (waiter_at ws i) r → ahead ≡ take i ws → IsRuled xs n h run (take i ws) (waiter_at ws i) r
  ruled_so r ruled is = subst (λ k. IsRuled xs k h run (take i ws) (waiter_at ws i) r) same (subst (λ a. IsRuled xs m h run a (waiter_at ws i) r) is ruled)

  pub goes_next : (r : Ruling) → r ≡ Goes → IsRuled xs m h run ahead (waiter_at ws i) r → ahead ≡ take i ws → i < length ws → ((k : ℕ) → k < i → IsHeldBack xs n h run ws k) → IsNext xs n h run ws (Some i)
  goes_next r e ruled is low back = let so = subst (λ q. IsRuled xs n h run (take i ws) (waiter_at ws i) q) e (ruled_so r ruled is) in (low, so.0, so.1, back)

  held_so : (r : Ruling) → (r ≡ Goes → ⊥) → IsRuled xs n h run (take i ws) (waiter_at ws i) r → IsHeldBack xs n h run ws i
  held_so Goes not ruled = absurd (not refl)
  held_so (Refused p) not ruled = inl (λ admissible. not_legal xs h (asked (waiter_at ws i)) p.0 ruled admissible)
  held_so (Withheld j) not ruled = inr (j, ruled.1)

  pub held_back : (r : Ruling) → (r ≡ Goes → ⊥) → IsRuled xs m h run ahead (waiter_at ws i) r → ahead ≡ take i ws → IsHeldBack xs n h run ws i
  held_back r not ruled is = held_so r not (ruled_so r ruled is)

-- a gate that is the same is where it was
pub over_still : (g : Standing) (run : List OpId) (old new : Standing) → new ≡ old → IsOver g run old → IsOver g run new
over_still g run old new e over = subst (λ (k : Standing). IsOver g run k) (sym e) over

-- those ahead, by their number
pub nobody_ahead : (ahead ws : List Waiter) (i j arrived : ℕ) → NobodyShutsOut ahead arrived → ahead ≡ take i ws → i ≡ j → NobodyShutsOut (take j ws) arrived
nobody_ahead ahead ws i j arrived nobody is same = subst (λ k. NobodyShutsOut (take k ws) arrived) same (subst (λ vs. NobodyShutsOut vs arrived) is nobody)
