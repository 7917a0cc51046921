-- Activations whose numbers ascend: the index of one, and that one more or one less keeps the order.
use Rattle.std.proofs.Common.{◌≡◌, ◌≢◌, ℕ, ◌+◌, ◌<◌, ◌≤◌, suc, zero, List, [], ◌∷◌, ◌++◌, length, get_or, arith, refl, ap, sym, subst, take, Result, Ok, Err, inl, inr}
use Rattle.std.specs.Prelude.{MatchOption}
use Rattle.std.specs.Result.{result_ok}
use Rattle.std.specs.List.{remove}
use Rattle.std.specs.List.Sorted.{IsSearchInRange, IsBinarySearchResult, IsNonDecreasingBy}
use Rattle.std.specs.Ordering.{nat_cmp, ordering_index}
use Rattle.std.proofs.lemmas.Cmp.{ranked}
use Rattle.std.proofs.lemmas.List.Sorted.{IsNonDecreasingBy-from_default}
use Rattle.std.proofs.lemmas.List.{take_more}
use Rattle.std.proofs.lemmas.Bool.{cases_lt}
use Rattle.std.proofs.lemmas.Bool.Decides.{nat_tests}
use Rattle.path_model.specs.declared.ids.ActId.{ActId}
use Rattle.path_model.specs.declared.journal.Activation.{Activation}
use Rattle.path_model.specs.Journals.{AreNumberedFrom}
use Rattle.path_ledger.specs.Ledgers.{IsNowhere, IsPlaceOf}

-- with less asked of the first
pub numbered_lower : (low low' : ℕ) (live : List Activation) (end : ℕ) → low' ≤ low → AreNumberedFrom low live end → AreNumberedFrom low' live end
numbered_lower low low' [] end h n = omega arith
numbered_lower low low' (a ∷ live) end h n = (omega (arith, n.0), n.1)

-- the next number goes to the end
pub numbered_push : (low : ℕ) (live : List Activation) (end : ℕ) (a : Activation) → a.act.0 ≡ end → AreNumberedFrom low live end → AreNumberedFrom low (live ++ a ∷ []) (end + 1)
numbered_push low [] end a is n = (omega arith, omega arith)
numbered_push low (b ∷ live) end a is n = (n.0, numbered_push (b.act.0 + 1) live end a is n.1)

-- with more left behind the last
pub numbered_raise : (low : ℕ) (live : List Activation) (end more : ℕ) → end ≤ more → AreNumberedFrom low live end → AreNumberedFrom low live more
numbered_raise low [] end more h n = omega (arith, n, h)
numbered_raise low (a ∷ live) end more h n = (n.0, numbered_raise (a.act.0 + 1) live end more h n.1)

-- the last is below the end
last_below : (low : ℕ) (live : List Activation) (a : Activation) (end : ℕ) → AreNumberedFrom low (live ++ a ∷ []) end → a.act.0 + 1 ≤ end
last_below low [] a end n = n.1
last_below low (b ∷ live) a end n = last_below (b.act.0 + 1) live a end n.1

-- the numbers ascend, and this is the least that is above them all
pub record EndsLeast (live : List Activation) (end : ℕ) : Type 0 where
  pub numbered : AreNumberedFrom 0 live end
  pub least : (other : ℕ) → AreNumberedFrom 0 live other → end ≤ other

pub none_end : EndsLeast [] 0
none_end = record { numbered = omega arith; least = λ other n. omega arith }

-- one more, whose number isn't below it
one_more_ends : (live : List Activation) (end : ℕ) (a : Activation) → EndsLeast live end → end ≤ a.act.0 → EndsLeast (live ++ a ∷ []) (a.act.0 + 1)
one_more_ends live end a so_far above = record {
  numbered = numbered_push 0 live a.act.0 a refl (numbered_raise 0 live end a.act.0 above so_far.numbered);
  least = λ other n. last_below 0 live a other n;
}

pub ends_next : (live : List Activation) (i : ℕ) (d : Activation) (end : ℕ) → i < length live → EndsLeast (take i live) end → end ≤ (get_or live i d).act.0
    → EndsLeast (take (i + 1) live) ((get_or live i d).act.0 + 1)
ends_next live i d end within so_far above =
    subst (λ xs. EndsLeast xs ((get_or live i d).act.0 + 1)) (sym (take_more live i d within)) (one_more_ends (take i live) end (get_or live i d) so_far above)

-- a number that is below it isn't above those before
pub too_low : (live : List Activation) (end number : ℕ) → EndsLeast live end → number < end → AreNumberedFrom 0 live number → ⊥
too_low live end number so_far below numbered = let k = so_far.least number numbered in omega (arith, k, below)

-- what follows one that is below a bound is within it
pub next_within : (n bound : ℕ) → n < bound → n + 1 ≤ bound
next_within n bound below = omega (arith, below)

-- one leaves
pub numbered_remove : (low : ℕ) (live : List Activation) (i end : ℕ) → AreNumberedFrom low live end → AreNumberedFrom low (remove live i) end
numbered_remove low [] zero end n = n
numbered_remove low [] (suc i) end n = n
numbered_remove low (a ∷ live) zero end n = numbered_lower _ _ live end (omega (arith, n.0)) n.1
numbered_remove low (a ∷ live) (suc i) end n = (n.0, numbered_remove (a.act.0 + 1) live i end n.1)

-- none is below the first bound
low_at : (low : ℕ) (live : List Activation) (end i : ℕ) (d : Activation) → AreNumberedFrom low live end → i < length live → low ≤ (get_or live i d).act.0
low_at low [] end i d n h = absurd (omega arith)
low_at low (a ∷ live) end zero d n h = n.0
low_at low (a ∷ live) end (suc i) d n h = let rest = low_at (a.act.0 + 1) live end i d n.1 (omega arith) in omega (arith, rest, n.0)

-- the numbers ascend place by place
ascend_at : (low : ℕ) (live : List Activation) (end i j : ℕ) (d : Activation) → AreNumberedFrom low live end → i < j → j < length live → (get_or live i d).act.0 < (get_or live j d).act.0
ascend_at low [] end i j d n lt h = absurd (omega arith)
ascend_at low (a ∷ live) end i zero d n lt h = absurd (omega arith)
ascend_at low (a ∷ live) end zero (suc j) d n lt h = let rest = low_at (a.act.0 + 1) live end j d n.1 (omega arith) in omega (arith, rest)
ascend_at low (a ∷ live) end (suc i) (suc j) d n lt h = ascend_at (a.act.0 + 1) live end i j d n.1 (omega arith) (omega arith)

-- one that has another number in front
missing_front : (n : ActId) (a : Activation) (live : List Activation) → a.act.0 ≢ n.0 → IsNowhere n live → IsNowhere n (a ∷ live)
missing_front n a live other rest = record { missing = grind (arith, nat_tests, rest.missing); others = grind (arith, nat_tests, rest.others) }

-- no place has the number
pub nowhere_is : (n : ActId) (live : List Activation) (d : Activation) → ((k : ℕ) → k < length live → (get_or live k d).act.0 ≢ n.0) → IsNowhere n live
nowhere_is n [] d differ = record { missing = refl; others = refl }
nowhere_is n (a ∷ live) d differ = missing_front n a live (differ 0 (omega arith)) (nowhere_is n live d (λ k h. differ (suc k) (omega arith)))

place_front : (n : ActId) (a : Activation) (live : List Activation) → a.act.0 ≡ n.0 → IsNowhere n live → IsPlaceOf n (a ∷ live) 0
place_front n a live same rest = record { within = omega arith; found = λ d. grind (arith, nat_tests); others = grind (arith, nat_tests, rest.others) }

place_behind : (n : ActId) (a : Activation) (live : List Activation) (i : ℕ) → a.act.0 ≢ n.0 → IsPlaceOf n live i → IsPlaceOf n (a ∷ live) (suc i)
place_behind n a live i other rest = record { within = omega (arith, rest.within); found = λ d. grind (arith, nat_tests, rest.found d); others = grind (arith, nat_tests, rest.others) }

-- the place that has the number is the only one
pub place_is : (n : ActId) (low : ℕ) (live : List Activation) (end i : ℕ) (d : Activation) → AreNumberedFrom low live end → i < length live → (get_or live i d).act.0 ≡ n.0 → IsPlaceOf n live i
place_is n low [] end i d numbered h same = absurd (omega arith)
place_is n low (a ∷ live) end zero d numbered h same =
    place_front n a live same (nowhere_is n live d (λ k within equal. omega (arith, low_at (a.act.0 + 1) live end k d numbered.1 within)))
place_is n low (a ∷ live) end (suc i) d numbered h same =
    place_behind n a live i (λ equal. omega (arith, low_at (a.act.0 + 1) live end i d numbered.1 (omega arith))) (place_is n (a.act.0 + 1) live end i d numbered.1 (omega arith) same)

-- that of no worker
abbrev pub nobody : Activation
nobody = record { act = record { 0 = 0 }; worker = 0; op = record { 0 = 0 } }

-- the comparisons rise along the list, as a binary search asks
comparisons_rise : (n : ActId) (live : List Activation) (end : ℕ) → AreNumberedFrom 0 live end → IsNonDecreasingBy (λ a. ordering_index (nat_cmp a.act.0 n.0)) live
comparisons_rise n live end numbered = IsNonDecreasingBy-from_default (λ (a : Activation). ordering_index (nat_cmp a.act.0 n.0)) live nobody (λ i j le in_range.
    let rise : (get_or live i nobody).act.0 ≤ (get_or live j nobody).act.0 =
    grind (arith, ascend_at 0 live end i j nobody numbered, λ (same : i ≡ j). ap (λ (k : ℕ). (get_or live k nobody).act.0) same) in
    grind (arith, nat_tests))

-- a binary search ends at the place of the number, or the number is nowhere
pub searched : (n : ActId) (live : List Activation) (end : ℕ) → AreNumberedFrom 0 live end → (r : Result ℕ ℕ) → IsSearchInRange r (length live)
    → IsBinarySearchResult (λ a. nat_cmp a.act.0 n.0) live r → MatchOption (result_ok r) (IsNowhere n live) (IsPlaceOf n live)
searched n live end numbered (Ok i) within equal = place_is n 0 live end i nobody numbered within (ranked _ n.0 _ (sym (equal nobody)))
searched n live end numbered (Err i) within parted =
    let part = parted (comparisons_rise n live end numbered) in
    nowhere_is n live nobody (λ k h same. elim (cases_lt k i) [
      | inl below ↦ (let less = ranked _ n.0 _ (sym (part.0 k nobody (omega arith) below)) in omega (arith, less, same))
      | inr above ↦ (let more = ranked _ n.0 _ (sym (part.1 k nobody above h)) in omega (arith, more, same))
    ])
