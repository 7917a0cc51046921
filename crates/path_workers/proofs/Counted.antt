-- If there are as many receipts as lines, and each line has one, each has just one.
use Rattle.std.proofs.Common.{◌≡◌, ◌≢◌, inl, inr, ℕ, ◌+◌, ◌-◌, ◌<◌, ◌≤◌, suc, zero, Bool, true, false, List, [], ◌∷◌, length, cond, get_or, refl, ap, sym, subst, arith, below_more}
use Rattle.std.specs.Prelude.{if◌then◌else◌, ◌==◌}
use Rattle.std.specs.List.{count_by}
use Rattle.std.proofs.lemmas.Bool.{cases_lt}
use Rattle.std.proofs.lemmas.List.{get_or_default}
use Rattle.std.proofs.lemmas.List.Sums.{sum_by-cons}
use Rattle.path_model.specs.declared.journal.Line.{Line}
use Rattle.path_workers.specs.declared.answer.Receipt.{Receipt}
use Rattle.path_workers.specs.Attempts.{Held}
use Rattle.path_workers.specs.Settled.{is_copy, copies_in, copies, receipts_of, AllCopied, IsSettled}
use Rattle.path_workers.specs.Inner.Holdings.{EachHasCopy}
use Rattle.path_workers.proofs.Rising.{other_place}

-- the sum of a number for each of m lines from number b on
abbrev over : (ℕ → ℕ) → ℕ → ℕ → ℕ
over f b zero = 0
over f b (suc m) = over f b m + f (b + m)

over_zero : (b m : ℕ) → over (λ k. 0) b m ≡ 0
over_zero b zero = refl
over_zero b (suc m) = let rest = over_zero b m in omega arith

over_plus : (f g h : ℕ → ℕ) (b m : ℕ) → ((k : ℕ) → h k ≡ f k + g k) → over h b m ≡ over f b m + over g b m
over_plus f g h b zero e = refl
over_plus f g h b (suc m) e = let rest = over_plus f g h b m e in let last = e (b + m) in omega arith

over_le : (f g : ℕ → ℕ) (b m : ℕ) → ((k : ℕ) → f k ≤ g k) → over f b m ≤ over g b m
over_le f g b zero e = omega arith
over_le f g b (suc m) e = let rest = over_le f g b m e in let last = e (b + m) in omega arith

-- each below is one at least, so the sum is as many as there are
over_low : (f : ℕ → ℕ) (b m : ℕ) → ((i : ℕ) → i < m → 1 ≤ f (b + i)) → m ≤ over f b m
over_low f b zero e = omega arith
over_low f b (suc m) e = let rest = over_low f b m (λ i h. e i (omega arith)) in let last = e m (omega arith) in omega arith

-- and one that is more makes the sum more
over_one : (f : ℕ → ℕ) (b m j : ℕ) → ((i : ℕ) → i < m → 1 ≤ f (b + i)) → j < m → m + f (b + j) ≤ over f b m + 1
over_one f b zero j e h = absurd (omega arith)
over_one f b (suc m) j e h = elim (cases_lt j m) [
  | inl below ↦ (let rest = over_one f b m j (λ i lt. e i (omega arith)) below in let last = e m (omega arith) in omega arith)
  | inr above ↦ (let same : j ≡ m = omega arith in let equal : f (b + j) ≡ f (b + m) = ap (λ (i : ℕ). f (b + i)) same in let rest = over_low f b m (λ i lt. e i (omega arith)) in omega arith)
]

-- whether the receipt is a copy of the line at place k
abbrev hit : List Line → Line → Receipt → ℕ → ℕ
hit lines d r k = cond (is_copy k (get_or lines k d) r) 1 0

hit_elsewhere : (lines : List Line) (d : Line) (r : Receipt) (k : ℕ) → r.place ≢ k → hit lines d r k ≡ 0
hit_elsewhere lines d r k other = ap {B = ℕ} (λ (b : Bool). cond b 1 0) (other_place k (get_or lines k d) r other)

at_most_one : (b : Bool) → cond b 1 0 ≤ 1
at_most_one true = omega arith
at_most_one false = omega arith

no_hit : (lines : List Line) (d : Line) (r : Receipt) (b m : ℕ) → b + m ≤ r.place → over (hit lines d r) b m ≡ 0
no_hit lines d r b zero above = refl
no_hit lines d r b (suc m) above =
    let rest = no_hit lines d r b m (omega arith) in
    let last = hit_elsewhere lines d r (b + m) (λ same. omega arith) in
    omega arith

-- a receipt is a copy of one line at most
one_hit : (lines : List Line) (d : Line) (r : Receipt) (b m : ℕ) → over (hit lines d r) b m ≤ 1
one_hit lines d r b zero = omega arith
one_hit lines d r b (suc m) = elim (cases_lt r.place (b + m)) [
  | inl below ↦ (let rest = one_hit lines d r b m in let last = hit_elsewhere lines d r (b + m) (λ same. omega arith) in omega arith)
  | inr above ↦ (let rest = no_hit lines d r b m above in let last = at_most_one (is_copy (b + m) (get_or lines (b + m) d) r) in omega arith)
]

-- the copies of one receipt more
receipt_more : (lines : List Line) (d : Line) (r : Receipt) (rs : List Receipt) (b m : ℕ)
    → over (λ k. count_by (λ q. is_copy k (get_or lines k d) q) (r ∷ rs)) b m ≡ over (hit lines d r) b m + over (λ k. count_by (λ q. is_copy k (get_or lines k d) q) rs) b m
receipt_more lines d r rs b m = over_plus (hit lines d r) (λ k. count_by (λ q. is_copy k (get_or lines k d) q) rs) (λ k. count_by (λ q. is_copy k (get_or lines k d) q) (r ∷ rs)) b m
    (λ k. sum_by-cons (λ (q : Receipt). cond (is_copy k (get_or lines k d) q) 1 0) r rs)

-- so the receipts of a pass are copies of no more lines than they are
hits : (lines : List Line) (d : Line) (rs : List Receipt) (b m : ℕ) → over (λ k. count_by (λ r. is_copy k (get_or lines k d) r) rs) b m ≤ length rs
hits lines d [] b m = let none = over_zero b m in omega arith
hits lines d (r ∷ rs) b m =
    let rest = hits lines d rs b m in
    let first = one_hit lines d r b m in
    let both = receipt_more lines d r rs b m in
    omega (arith, rest, first, both)

no_more : (b : Bool) (n : ℕ) → (if b then n else 0) ≤ n
no_more true n = omega arith
no_more false n = omega arith

-- one pass more: what its own copies leave over, and what those of the others leave over
pass_more : (lines : List Line) (d : Line) (h : Held) (hs : List Held) (b m spare others : ℕ) → over (λ k. count_by (λ r. is_copy k (get_or lines k d) r) h.receipts) b m + spare ≤ length h.receipts
    → over (λ k. copies k (get_or lines k d) hs) b m + others ≤ receipts_of hs → over (λ k. copies k (get_or lines k d) (h ∷ hs)) b m + (spare + others) ≤ receipts_of (h ∷ hs)
pass_more lines d h hs b m spare others own rest =
    let less = over_le (λ k. copies_in k (get_or lines k d) h) (λ k. count_by (λ r. is_copy k (get_or lines k d) r) h.receipts) b m (λ k. no_more (h.worker == (get_or lines k d).worker) _) in
    let both = over_plus (λ k. copies_in k (get_or lines k d) h) (λ k. copies k (get_or lines k d) hs) (λ k. copies k (get_or lines k d) (h ∷ hs)) b m
    (λ k. sum_by-cons (λ (g : Held). copies_in k (get_or lines k d) g) h hs) in
    let counted = sum_by-cons (λ (g : Held). length g.receipts) h hs in
    omega (arith, rest, own, less, both, counted)

-- and so those of all passes
all_hits : (lines : List Line) (d : Line) (hs : List Held) (b m : ℕ) → over (λ k. copies k (get_or lines k d) hs) b m ≤ receipts_of hs
all_hits lines d [] b m = let none = over_zero b m in omega arith
all_hits lines d (h ∷ hs) b m =
    let own = hits lines d h.receipts b m in
    let rest = all_hits lines d hs b m in
    let more = pass_more lines d h hs b m 0 0 (omega (arith, own)) (omega (arith, rest)) in
    omega (arith, more)

-- as many receipts as lines, and one for each: just one for each
pub all_copied : (b : ℕ) (lines : List Line) (hs : List Held) → receipts_of hs ≡ length lines - b → EachHasCopy b lines hs → AllCopied b lines hs
all_copied b lines hs count each k d le lt =
    let m : ℕ = length lines - b in
    let f : ℕ → ℕ = (λ i. copies i (get_or lines i d) hs) in
    let most = all_hits lines d hs b m in
    let one = over_one f b m (k - b) (λ i h. each (b + i) d (omega arith) (omega arith)) (omega arith) in
    let place : b + (k - b) ≡ k = omega arith in
    let here : f (b + (k - b)) ≡ f k = ap f place in
    let some = each k d le lt in
    omega (arith, most, one, here, some, count)

-- below one more
pub found_more : (lines : List Line) (hs : List Held) (b i : ℕ) → ((k : ℕ) (d : Line) → b ≤ k → k < i → 1 ≤ copies k (get_or lines k d) hs) → ((d : Line) → 1 ≤ copies i (get_or lines i d) hs)
    → (k : ℕ) (d : Line) → b ≤ k → k < i + 1 → 1 ≤ copies k (get_or lines k d) hs
found_more lines hs b i below here k d le lt =
    below_more (λ (j : ℕ). (e : Line) → b ≤ j → 1 ≤ copies j (get_or lines j e) hs) i (λ j low e from. below j e from low) (λ e from. here e) k lt d le

-- whatever stands for a line past the end
pub found_there : (lines : List Line) (hs gs : List Held) (k : ℕ) (d e : Line) → gs ≡ hs → k < length lines → 1 ≤ copies k (get_or lines k e) gs → 1 ≤ copies k (get_or lines k d) hs
found_there lines hs gs k d e equal lt some =
    let same : copies k (get_or lines k d) hs ≡ copies k (get_or lines k e) hs = ap (λ (l : Line). copies k l hs) (get_or_default lines k d e lt) in
    let there : copies k (get_or lines k e) gs ≡ copies k (get_or lines k e) hs = ap (λ (fs : List Held). copies k (get_or lines k e) fs) equal in
    omega arith

over_ones : (f : ℕ → ℕ) (b m : ℕ) → ((i : ℕ) → i < m → f (b + i) ≡ 1) → over f b m ≡ m
over_ones f b zero e = refl
over_ones f b (suc m) e = let rest = over_ones f b m (λ i h. e i (omega arith)) in let last = e m (omega arith) in omega arith

-- a sum that isn't 0 has a number that isn't
somewhere : (f : ℕ → ℕ) (b m : ℕ) → over f b m ≢ 0 → (k : ℕ) × (b ≤ k) × (k < b + m) × (f k ≢ 0)
somewhere f b zero some = absurd (some refl)
somewhere f b (suc m) some = elim (cases_lt (f (b + m)) 1) [
  | inl none ↦ (let rest = somewhere f b m (λ zero_there. some (omega (arith, none, zero_there))) in (rest.0, rest.1, omega (arith, rest.2), rest.3))
  | inr one ↦ (b + m, omega arith, omega arith, λ none. omega (arith, one, none))
]

-- a receipt that is a copy of none of the lines is one too many
hits_but : (lines : List Line) (d : Line) (rs : List Receipt) (b m j : ℕ) (e : Receipt) → j < length rs → over (hit lines d (get_or rs j e)) b m ≡ 0
    → over (λ k. count_by (λ r. is_copy k (get_or lines k d) r) rs) b m + 1 ≤ length rs
hits_but lines d [] b m j e lt none = absurd (omega arith)
hits_but lines d (r ∷ rs) b m zero e lt none =
    let rest = hits lines d rs b m in
    let both = receipt_more lines d r rs b m in
    omega (arith, rest, none, both)
hits_but lines d (r ∷ rs) b m (suc j) e lt none =
    let rest = hits_but lines d rs b m j e (omega arith) none in
    let first = one_hit lines d r b m in
    let both = receipt_more lines d r rs b m in
    omega (arith, rest, first, both)

all_but : (lines : List Line) (d : Line) (hs : List Held) (b m i j : ℕ) (f : Held) (e : Receipt) → i < length hs → j < length (get_or hs i f).receipts
    → over (hit lines d (get_or (get_or hs i f).receipts j e)) b m ≡ 0 → over (λ k. copies k (get_or lines k d) hs) b m + 1 ≤ receipts_of hs
all_but lines d [] b m i j f e lt in_range none = absurd (omega arith)
all_but lines d (h ∷ hs) b m zero j f e lt in_range none =
    let own = hits_but lines d h.receipts b m j e in_range none in
    let rest = all_hits lines d hs b m in
    let more = pass_more lines d h hs b m 1 0 own (omega (arith, rest)) in
    omega (arith, more)
all_but lines d (h ∷ hs) b m (suc i) j f e lt in_range none =
    let own = hits lines d h.receipts b m in
    let rest = all_but lines d hs b m i j f e (omega arith) in_range none in
    let more = pass_more lines d h hs b m 0 1 (omega (arith, own)) rest in
    omega (arith, more)

is_one : (x : Bool) → ◌≢◌ {A = ℕ} (cond x 1 0) 0 → x ≡ true
is_one true some = refl
is_one false some = absurd (some refl)

-- of a settled desk each receipt is a copy of the line at its place, which was written since the desk was opened
pub each_receipt_is_a_line : (b : ℕ) (lines : List Line) (hs : List Held) → IsSettled b lines hs → (i j : ℕ) (f : Held) (e : Receipt) (d : Line) → i < length hs → j < length (get_or hs i f).receipts
    → (b ≤ (get_or (get_or hs i f).receipts j e).place) × ((get_or (get_or hs i f).receipts j e).place < length lines)
    × (is_copy (get_or (get_or hs i f).receipts j e).place (get_or lines (get_or (get_or hs i f).receipts j e).place d) (get_or (get_or hs i f).receipts j e) ≡ true)
each_receipt_is_a_line b lines hs settled i j f e d lt in_range =
    let r : Receipt = get_or (get_or hs i f).receipts j e in
    let m : ℕ = length lines - b in
    let ones = over_ones (λ k. copies k (get_or lines k d) hs) b m (λ k h. settled.1 (b + k) d (omega arith) (omega (arith, h))) in
    let there = somewhere (hit lines d r) b m (λ none. let few = all_but lines d hs b m i j f e lt in_range none in omega (arith, few, ones, settled.0)) in
    let k : ℕ = there.0 in
    let copy : is_copy k (get_or lines k d) r ≡ true = is_one (is_copy k (get_or lines k d) r) there.3 in
    let place : r.place ≡ k = elim (cases_lt r.place k) [
      | inl below ↦ absurd (let other = other_place k (get_or lines k d) r (λ same. omega (arith, below, same)) in cc)
      | inr above ↦ (elim (cases_lt k r.place) [
        | inl over ↦ absurd (let other = other_place k (get_or lines k d) r (λ same. omega (arith, over, same)) in cc)
        | inr under ↦ omega (arith, above, under)
      ])
    ] in
    (omega (arith, place, there.1), omega (arith, place, there.2), subst (λ (n : ℕ). is_copy n (get_or lines n d) r ≡ true) (sym place) copy)
