-- A start that goes is excluded by none ahead: what is in progress behind it, when all that runs is over, still has it.
use Rattle.std.proofs.Common.{◌≡◌, ◌+◌, ◌≤◌, ℕ, Bool, true, false, cond, List, [], ◌∷◌, ◌++◌, take, refl, ap, arith, Result, Ok, Err, Option, Some, None}
use Rattle.std.specs.Prelude.{IfOk, ◌&&◌, nat_lt}
use Rattle.std.proofs.lemmas.Bool.{eq-eqb}
use Rattle.path_model.specs.declared.ids.OpId.{OpId}
use Rattle.path_model.specs.declared.memory.OutOfMemory.{OutOfMemory}
use Rattle.path_model.specs.declared.history.Event.{Event}
use Rattle.path_model.specs.declared.history.Event.TheVariants.{Began, Ended}
use Rattle.path_model.specs.Trees.{Tree, WellFormed}
use Rattle.path_model.specs.Histories.{begun, ended, InProgress}
use Rattle.path_model.specs.Legal as legal
use Rattle.path_model.proofs.CallerLemmas.{counts_add_up}
use Rattle.path_order.specs.declared.waiting.Waiter.{Waiter}
use Rattle.path_order.specs.declared.ruling.Ruling.{Ruling}
use Rattle.path_order.specs.declared.ruling.Ruling.TheVariants.{Goes, Refused, Withheld}
use Rattle.path_order.specs.Ways.{is_named, one_over, all_over}
use Rattle.path_order.specs.Waiting.{asked, waiter_at}
use Rattle.path_order.specs.Rulings.{IsAdmissible, IsFree, IsRuled, IsNext}
use Rattle.path_order.specs.Bounds.{ends_of, AreInProgress, IsExcludedByNone, KeepsTheDoor, LetsInUnopposed}
use Rattle.path_order.proofs.Over.{legal_all}

begun_if : (a c : OpId) (h : List Event) (b : Bool) → begun a (cond b (h ++ Ended c ∷ []) h) ≡ begun a h
begun_if a c h true = let e = (counts_add_up a h (Ended c ∷ [])).0 in omega (arith, e)
begun_if a c h false = refl

ended_if : (a c : OpId) (h : List Event) (b : Bool) → ended a (cond b (h ++ Ended c ∷ []) h) ≤ ended a h + ended a (Ended c ∷ [])
ended_if a c h true = let e = (counts_add_up a h (Ended c ∷ [])).1 in omega (arith, e)
ended_if a c h false = omega arith

-- ends begin nothing, and end no more than they are
module _ (xs : List (ℕ × Tree)) (a : OpId) where
  begun_over : (run : List OpId) (h : List Event) → begun a (all_over xs run h) ≡ begun a h
  begun_over [] h = refl
  begun_over (c ∷ run) h =
      let rest = begun_over run (one_over xs c h) in
      let one = begun_if a c h (is_named xs c && nat_lt (ended c h) (begun c h)) in
      omega (arith, rest, one)

  ended_over : (run : List OpId) (h : List Event) → ended a (all_over xs run h) ≤ ended a h + ended a (ends_of run)
  ended_over [] h = omega arith
  ended_over (c ∷ run) h =
      let rest = ended_over run (one_over xs c h) in
      let one = ended_if a c h (is_named xs c && nat_lt (ended c h) (begun c h)) in
      let both = (counts_add_up a (Ended c ∷ []) (ends_of run)).1 in
      omega (arith, rest, one, both)

begun_own : (x : OpId) → begun x (Began x ∷ []) ≡ 1
begun_own x = ap (λ t. cond t (0 + 1) 0) (eq-eqb x.0 x.0 refl)

module _ (xs : List (ℕ × Tree)) (well : legal.Every WellFormed xs) (n : ℕ) (h : List Event) (run : List OpId) where
  -- behind x, when all that runs is over, x is in progress
  still_there : (x : OpId) → AreInProgress run h → InProgress x (all_over xs run (h ++ Began x ∷ []))
  still_there x are =
      let some = are x in
      let began = begun_over xs x run (h ++ Began x ∷ []) in
      let over = ended_over xs x run (h ++ Began x ∷ []) in
      let more = counts_add_up x h (Began x ∷ []) in
      let b = more.0 in
      let e = more.1 in
      let own = begun_own x in
      omega (arith, some, began, over, b, e, own)

  pub free_excluded : (ahead : List Waiter) (w : Waiter) → IsAdmissible xs n h run (asked w) → IsFree xs n h run ahead w → IsExcludedByNone xs h run ahead w
  free_excluded ahead w starts free = λ are j low shut clear excludes.
      excludes (all_over xs run (h ++ Began (asked w) ∷ [])) (legal_all xs well run (h ++ Began (asked w) ∷ []) starts) (still_there (asked w) are)
      (free j low shut clear).1

  pub ruled_door : (ahead : List Waiter) (w : Waiter) (r : Ruling) → IsRuled xs n h run ahead w r → KeepsTheDoor xs h run ahead w r
  ruled_door ahead w Goes ruled = free_excluded ahead w ruled.0 ruled.1
  ruled_door ahead w (Refused p) ruled = tt
  ruled_door ahead w (Withheld j) ruled = tt

  pub next_unopposed : (ws : List Waiter) (found : Option ℕ) → IsNext xs n h run ws found → LetsInUnopposed xs h run ws found
  next_unopposed ws None next = tt
  next_unopposed ws (Some i) next = free_excluded (take i ws) (waiter_at ws i) next.1 next.2

-- the same of what calls answer
module _ (xs : List (ℕ × Tree)) (well : legal.Every WellFormed xs) (L A : List Event → Type 0) (n : ℕ) (run : List OpId) where
  pub door_of : (ahead : List Waiter) (w : Waiter) (r : Result Ruling OutOfMemory) → IfOk r (λ ruling. (h : List Event) → L h → A h → IsRuled xs n h run ahead w ruling)
      → IfOk r (λ ruling. (h : List Event) → L h → A h → KeepsTheDoor xs h run ahead w ruling)
  door_of ahead w (Ok ruling) ruled = λ h l a. ruled_door xs well n h run ahead w ruling (ruled h l a)
  door_of ahead w (Err e) ruled = ruled

  pub unopposed_of : (ws : List Waiter) (r : Result (Option ℕ) OutOfMemory) → IfOk r (λ found. (h : List Event) → L h → A h → IsNext xs n h run ws found)
      → IfOk r (λ found. (h : List Event) → L h → A h → LetsInUnopposed xs h run ws found)
  unopposed_of ws (Ok found) next = λ h l a. next_unopposed xs well n h run ws found (next h l a)
  unopposed_of ws (Err e) next = next
