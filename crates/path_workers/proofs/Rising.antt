-- Places that rise: one more, and where a place is found.
use Rattle.std.proofs.Common.{◌≡◌, ◌≢◌, ℕ, ◌+◌, ◌<◌, ◌≤◌, suc, zero, List, [], ◌∷◌, ◌++◌, length, cond, min, get_or, refl, ◌∙◌, ap, sym, subst, arith, inl, inr, Ok, Err}
use Rattle.std.specs.Prelude.{Option, Some, None, Bool, true, false, if◌then◌else◌, IfSome}
use Rattle.std.specs.List.{count_by}
use Rattle.std.specs.List.Sorted.{IsBinarySearchResult, IsNonDecreasingBy}
use Rattle.std.specs.Ordering.{nat_cmp, ordering_index}
use Rattle.std.proofs.lemmas.Bool.{cases_lt}
use Rattle.std.proofs.lemmas.Bool.Decides.{nat_tests}
use Rattle.std.proofs.lemmas.Cmp.{ranked}
use Rattle.std.proofs.lemmas.List.Sums.{sum_by-cons}
use Rattle.std.proofs.lemmas.List.Sorted.{IsNonDecreasingBy-from_default}
use Rattle.path_model.specs.declared.journal.Attempt.{Attempt}
use Rattle.path_model.specs.declared.journal.Attempt.TheVariants.{Start}
use Rattle.path_model.specs.declared.journal.Reply.{Reply}
use Rattle.path_model.specs.declared.journal.Reply.TheVariants.{Finished}
use Rattle.path_model.specs.declared.journal.Line.{Line}
use Rattle.path_workers.specs.declared.answer.Receipt.{Receipt}
use Rattle.path_workers.specs.Attempts.{receipts_then}
use Rattle.path_workers.specs.Inner.Holdings.{Rise}
use Rattle.path_workers.specs.Settled.{is_copy}

-- a receipt at the end or above goes behind
rise_push : (low : ℕ) (rs : List Receipt) (end : ℕ) (r : Receipt) → Rise low rs end → end ≤ r.place → Rise low (rs ++ r ∷ []) (r.place + 1)
rise_push low [] end r rise above = (omega arith, omega arith)
rise_push low (q ∷ rs) end r rise above = (rise.0, rise_push (q.place + 1) rs end r rise.1 above)

-- the order after an attempt
pub rises_then : (rs : List Receipt) (rises : Bool) (end : ℕ) (a : Attempt) (place : Option ℕ) (q : Reply) (rises' : Bool) (end' : ℕ) → (rises ≡ true → Rise 0 rs end)
    → (place ≡ None → (rises' ≡ rises) × (end' ≡ end)) → IfSome place (λ p. end' ≡ p + 1) → IfSome place (λ p. rises' ≡ true → (rises ≡ true) × (end ≤ p))
    → rises' ≡ true → Rise 0 (receipts_then rs a place q) end'
rises_then rs rises end a None q rises' end' rise same ends more up =
    let s = same refl in subst (λ (e : ℕ). Rise 0 rs e) (sym s.1) (rise (subst (λ (b : Bool). b ≡ true) s.0 up))
rises_then rs rises end a (Some p) q rises' end' rise same ends more up =
    let m = more up in
    subst (λ (e : ℕ). Rise 0 (receipts_then rs a (Some p) q) e) (sym ends) (rise_push 0 rs end (record { place = p; attempt = a; reply = q }) (rise m.0) m.1)

-- what stands at a place of rising receipts is no lower than the first may be
low_at : (low : ℕ) (rs : List Receipt) (end i : ℕ) (d : Receipt) → Rise low rs end → i < length rs → low ≤ (get_or rs i d).place
low_at low [] end i d rise h = absurd (omega arith)
low_at low (r ∷ rs) end zero d rise h = rise.0
low_at low (r ∷ rs) end (suc i) d rise h = let rest = low_at (r.place + 1) rs end i d rise.1 (omega arith) in omega (arith, rest, rise.0)

-- the places rise index by index
rise_at : (low : ℕ) (rs : List Receipt) (end i j : ℕ) (d : Receipt) → Rise low rs end → i < j → j < length rs → (get_or rs i d).place < (get_or rs j d).place
rise_at low [] end i j d rise lt h = absurd (omega arith)
rise_at low (r ∷ rs) end i zero d rise lt h = absurd (omega arith)
rise_at low (r ∷ rs) end zero (suc j) d rise lt h = let rest = low_at (r.place + 1) rs end j d rise.1 (omega arith) in omega (arith, rest)
rise_at low (r ∷ rs) end (suc i) (suc j) d rise lt h = rise_at (r.place + 1) rs end i j d rise.1 (omega arith) (omega arith)

-- a receipt of another place is no copy
pub other_place : (place : ℕ) (l : Line) (r : Receipt) → r.place ≢ place → is_copy place l r ≡ false
other_place place l r other = grind (arith, nat_tests)

-- where no receipt has the place there is no copy
pub none_copied : (place : ℕ) (l : Line) (rs : List Receipt) (d : Receipt) → ((k : ℕ) → k < length rs → (get_or rs k d).place ≢ place) → count_by (λ r. is_copy place l r) rs ≡ 0
none_copied place l [] d differ = refl
none_copied place l (r ∷ rs) d differ =
    let here = other_place place l r (differ 0 (omega arith)) in
    let rest = none_copied place l rs d (λ k h. differ (suc k) (omega arith)) in
    let cons = sum_by-cons (λ (q : Receipt). cond (is_copy place l q) 1 0) r rs in
    let none : cond (is_copy place l r) 1 0 ≡ 0 = ap {B = ℕ} (λ (b : Bool). cond b 1 0) here in
    cons ∙ omega (arith, rest, none)

-- where the places rise, at most the receipt that has the place is a copy
pub one_copied : (place : ℕ) (l : Line) (low : ℕ) (rs : List Receipt) (end i : ℕ) (d : Receipt) → Rise low rs end → i < length rs → (get_or rs i d).place ≡ place
    → count_by (λ r. is_copy place l r) rs ≡ (if is_copy place l (get_or rs i d) then 1 else 0)
one_copied place l low [] end i d rise h same = absurd (omega arith)
one_copied place l low (r ∷ rs) end zero d rise h same =
    let rest = none_copied place l rs d (λ k within equal. let above = low_at (r.place + 1) rs end k d rise.1 within in omega (arith, above, equal, same)) in
    sum_by-cons (λ (q : Receipt). cond (is_copy place l q) 1 0) r rs ∙ omega (arith, rest)
one_copied place l low (r ∷ rs) end (suc i) d rise h same =
    let above = low_at (r.place + 1) rs end i d rise.1 (omega arith) in
    let here = other_place place l r (λ equal. omega (arith, above, equal, same)) in
    let rest = one_copied place l (r.place + 1) rs end i d rise.1 (omega arith) same in
    let cons = sum_by-cons (λ (q : Receipt). cond (is_copy place l q) 1 0) r rs in
    let none : cond (is_copy place l r) 1 0 ≡ 0 = ap {B = ℕ} (λ (b : Bool). cond b 1 0) here in
    cons ∙ omega (arith, rest, none)

-- the comparisons rise along the list, as a binary search asks
comparisons_rise : (place : ℕ) (rs : List Receipt) (end : ℕ) (d : Receipt) → Rise 0 rs end → IsNonDecreasingBy (λ r. ordering_index (nat_cmp r.place place)) rs
comparisons_rise place rs end d rise = IsNonDecreasingBy-from_default (λ (r : Receipt). ordering_index (nat_cmp r.place place)) rs d (λ i j le in_range.
    let up : (get_or rs i d).place ≤ (get_or rs j d).place =
    grind (arith, rise_at 0 rs end i j d rise, λ (same : i ≡ j). ap (λ (k : ℕ). (get_or rs k d).place) same) in
    grind (arith, nat_tests))

-- a binary search for a place ends at the receipt that has it
pub search_finds : (place : ℕ) (rs : List Receipt) (end i : ℕ) (d : Receipt) → Rise 0 rs end → IsBinarySearchResult (λ r. nat_cmp r.place place) rs (Ok i) → (get_or rs i d).place ≡ place
search_finds place rs end i d rise equal = ranked _ place _ (sym (equal d))

-- or no receipt has it
pub search_misses : (place : ℕ) (rs : List Receipt) (end i : ℕ) (d : Receipt) → Rise 0 rs end → IsBinarySearchResult (λ r. nat_cmp r.place place) rs (Err i)
    → (k : ℕ) → k < length rs → (get_or rs k d).place ≢ place
search_misses place rs end i d rise parted k h same =
    let part = parted (comparisons_rise place rs end d rise) in
    elim (cases_lt k i) [
      | inl below ↦ (let less = ranked _ place _ (sym (part.0 k d (omega arith) below)) in omega (arith, less, same))
      | inr above ↦ (let more = ranked _ place _ (sym (part.1 k d above h)) in omega (arith, more, same))
    ]

-- one or none is the same as far as two
pub as_far_as_two : (b : Bool) (r n : ℕ) → r ≡ (if b then 1 else 0) → n ≡ (if b then 1 else 0) → r ≡ min 2 n
as_far_as_two true r n is counted = omega arith
as_far_as_two false r n is counted = omega arith

-- a receipt of nothing
abbrev pub nothing : Receipt
nothing = record { place = 0; attempt = Start (record { 0 = 0 }); reply = Finished }
