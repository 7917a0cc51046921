-- The receipts of a settled run: each process has one for each line of its worker, in their order.
use Rattle.std.proofs.Common.{◌≡◌, ◌≢◌, ◌⊎◌, ◌==◌, ◌<◌, ◌≤◌, ◌+◌, ℕ, zero, suc, Bool, true, false, cond, List, [], ◌∷◌, length, get_or, take, refl, sym, ap, ◌∙◌, subst, inl, inr, arith, add-one}
use Rattle.std.specs.Prelude.{All}
use Rattle.std.specs.List.{sum_by, count_by}
use Rattle.std.proofs.lemmas.Bool.{cases_Bool, cases_eq, cases_lt, eqb-true, eq-eqb, ne_eqb, and_parts}
use Rattle.std.proofs.lemmas.List.{get_or_default}
use Rattle.std.proofs.Math.Seq.{take-length}
use Rattle.std.proofs.lemmas.List.Sums.{sum_by-cons, sum_by_more}
use Rattle.std.proofs.lemmas.List.Elements.{All-head, All-tail}
use Rattle.path_model.specs.declared.journal.Line.{Line}
use Rattle.path_workers.specs.declared.answer.Receipt.{Receipt}
use Rattle.path_workers.specs.Attempts.{Held}
use Rattle.path_workers.specs.Settled.{is_copy, copies_in, IsSettled}

-- one of the receipts is a copy of the line at this place
abbrev Has : ℕ → Line → List Receipt → Type 0
Has k l [] = ⊥
Has k l (r ∷ rs) = (is_copy k l r ≡ true) ⊎ Has k l rs

-- the places rise, from low on
abbrev pub Rises : ℕ → List Receipt → Type 0
Rises low [] = Unit {0}
Rises low (r ∷ rs) = (low ≤ r.place) × Rises (r.place + 1) rs

-- each of the lines that is the worker's has a copy among the receipts; the first line has this place
abbrev EachHas : ℕ → ℕ → List Line → List Receipt → Type 0
EachHas w k [] rs = Unit {0}
EachHas w k (l ∷ ls) rs = (l.worker ≡ w → Has k l rs) × EachHas w (k + 1) ls rs

-- how many lines are the worker's
abbrev own_count : ℕ → List Line → ℕ
own_count w [] = 0
own_count w (l ∷ ls) = cond (l.worker == w) 1 0 + own_count w ls

-- the receipts are copies of the lines of the worker, one of each, in their order; the first line has this place
abbrev pub Matches : ℕ → ℕ → List Line → List Receipt → Type 0
Matches w k [] rs = rs ≡ []
Matches w k (l ∷ ls) rs =
    ((l.worker ≢ w) × Matches w (k + 1) ls rs)
    ⊎ ((l.worker ≡ w) × ((r : Receipt) × (rest : List Receipt) × (rs ≡ r ∷ rest) × (is_copy k l r ≡ true) × Matches w (k + 1) ls rest))

copy_place : (k : ℕ) (l : Line) (r : Receipt) → is_copy k l r ≡ true → r.place ≡ k
copy_place k l r h = eqb-true r.place k (and_parts (r.place == k) _ h).0

has_above : (low k : ℕ) (l : Line) (rs : List Receipt) → Rises low rs → Has k l rs → low ≤ k
has_above low k l [] rises h = absurd h
has_above low k l (r ∷ rs) rises (inl copy) = let place = copy_place k l r copy in let from = rises.0 in omega (arith, place, from)
has_above low k l (r ∷ rs) rises (inr more) = let above = has_above (r.place + 1) k l rs rises.1 more in let from = rises.0 in omega (arith, above, from)

-- what stands behind the copy of a line has the copies of all later lines
record Behind (k : ℕ) (rs : List Receipt) : Type 0 where
  rest : List Receipt
  shorter : length rest + 1 ≤ length rs
  rising : Rises (k + 1) rest
  kept : (j : ℕ) (m : Line) → k < j → Has j m rs → Has j m rest

-- a receipt before a later line's copy isn't that copy
later_has : (k : ℕ) (r : Receipt) (rs : List Receipt) (j : ℕ) (m : Line) → r.place ≤ k → k < j → Has j m (r ∷ rs) → Has j m rs
later_has k r rs j m low lt (inl copy) = absurd (let place = copy_place j m r copy in omega (arith, place, low, lt))
later_has k r rs j m low lt (inr more) = more

behind : (low k : ℕ) (l : Line) (rs : List Receipt) → Rises low rs → Has k l rs → Behind k rs
behind low k l [] rises h = absurd h
behind low k l (r ∷ rs) rises (inl copy) =
    let place : r.place ≡ k = copy_place k l r copy in
    record {
      rest = rs;
      shorter = omega arith;
      rising = subst (λ (p : ℕ). Rises (p + 1) rs) place rises.1;
      kept = λ j m lt h. later_has k r rs j m (omega (arith, place)) lt h;
    }
behind low k l (r ∷ rs) rises (inr more) =
    let b = behind (r.place + 1) k l rs rises.1 more in
    let above = has_above (r.place + 1) k l rs rises.1 more in
    record {
      rest = b.rest;
      shorter = (let s = b.shorter in omega (arith, s));
      rising = b.rising;
      kept = λ j m lt h. b.kept j m lt (later_has k r rs j m (omega (arith, above)) lt h);
    }

each_kept : (w j : ℕ) (ls : List Line) (rs rest : List Receipt) → ((i : ℕ) (m : Line) → j ≤ i → Has i m rs → Has i m rest) → EachHas w j ls rs → EachHas w j ls rest
each_kept w j [] rs rest kept h = tt
each_kept w j (l ∷ ls) rs rest kept h =
    (λ same. kept j l (omega arith) (h.0 same), each_kept w (j + 1) ls rs rest (λ i m le k. kept i m (omega (arith, le)) k) h.1)

own_more : (w : ℕ) (l : Line) (ls : List Line) → l.worker ≡ w → own_count w (l ∷ ls) ≡ 1 + own_count w ls
own_more w l ls same = ap (λ b. cond b 1 0 + own_count w ls) (eq-eqb l.worker w same)

other_more : (w : ℕ) (l : Line) (ls : List Line) → l.worker ≢ w → own_count w (l ∷ ls) ≡ own_count w ls
other_more w l ls other = let e = ap (λ b. cond b 1 0 + own_count w ls) (ne_eqb l.worker w other) in omega (arith, e)

-- so there are no fewer receipts than lines of the worker
fits : (w low k : ℕ) (ls : List Line) (rs : List Receipt) → Rises low rs → EachHas w k ls rs → own_count w ls ≤ length rs
fits w low k [] rs rises h = omega arith
fits w low k (l ∷ ls) rs rises h = elim (cases_eq l.worker w) [
  | inl same ↦ (
      let b = behind low k l rs rises (h.0 same) in
      let rest = fits w (k + 1) (k + 1) ls b.rest b.rising (each_kept w (k + 1) ls rs b.rest (λ i m le has. b.kept i m (omega (arith, le)) has) h.1) in
      let s = b.shorter in
      let count = own_more w l ls same in
      omega (arith, rest, s, count))
  | inr other ↦ (
      let rest = fits w low (k + 1) ls rs rises h.1 in
      let count = other_more w l ls other in
      omega (arith, rest, count))
]

-- and where there are no more, each receipt is the copy of a line
matches_own :
    (w low k : ℕ) (l : Line) (ls : List Line) (rs : List Receipt) → l.worker ≡ w → Rises low rs → Has k l rs → EachHas w (k + 1) ls rs → length rs ≤ own_count w (l ∷ ls)
    → (r : Receipt) × (rest : List Receipt) × (rs ≡ r ∷ rest) × (is_copy k l r ≡ true) × Rises (r.place + 1) rest × EachHas w (k + 1) ls rest × (length rest ≤ own_count w ls)
matches_own w low k l ls [] same rises h each few = absurd h
matches_own w low k l ls (r ∷ rs) same rises (inl copy) each few =
    let place = copy_place k l r copy in
    let count = own_more w l ls same in
    (r, rs, refl, copy, rises.1, each_kept w (k + 1) ls (r ∷ rs) rs (λ i m le has. later_has k r rs i m (omega (arith, place)) (omega (arith, le)) has) each, omega (arith, count, few))
matches_own w low k l ls (r ∷ rs) same rises (inr more) each few = absurd (
    let b = behind (r.place + 1) k l rs rises.1 more in
    let above = has_above (r.place + 1) k l rs rises.1 more in
    let kept = each_kept w (k + 1) ls (r ∷ rs) b.rest (λ i m le has. b.kept i m (omega (arith, le)) (later_has k r rs i m (omega (arith, above)) (omega (arith, le)) has)) each in
    let rest = fits w (k + 1) (k + 1) ls b.rest b.rising kept in
    let s = b.shorter in
    let count = own_more w l ls same in
    omega (arith, rest, s, count, few))

matches : (w low k : ℕ) (ls : List Line) (rs : List Receipt) → Rises low rs → EachHas w k ls rs → length rs ≤ own_count w ls → Matches w k ls rs
matches w low k [] [] rises h few = refl
matches w low k [] (r ∷ rs) rises h few = absurd (omega (arith, few))
matches w low k (l ∷ ls) rs rises h few = elim (cases_eq l.worker w) [
  | inl same ↦ (
      let m = matches_own w low k l ls rs same rises (h.0 same) h.1 few in
      inr (same, (m.0, m.1, m.2, m.3, matches w (m.0.place + 1) (k + 1) ls m.1 m.4 m.5 m.6)))
  | inr other ↦ (
      let count = other_more w l ls other in
      inl (other, matches w low (k + 1) ls rs rises h.1 (omega (arith, few, count))))
]

-- the sum of a number for each below n
abbrev up_to : (ℕ → ℕ) → ℕ → ℕ
up_to f zero = 0
up_to f (suc n) = up_to f n + f n

up_to_none : (f : ℕ → ℕ) (n : ℕ) → ((w : ℕ) → w < n → f w ≡ 0) → up_to f n ≡ 0
up_to_none f zero h = refl
up_to_none f (suc n) h = let rest = up_to_none f n (λ w lt. h w (omega (arith, lt))) in let last = h n (omega arith) in omega (arith, rest, last)

up_to_plus : (f g : ℕ → ℕ) (n : ℕ) → up_to (λ w. f w + g w) n ≡ up_to f n + up_to g n
up_to_plus f g zero = refl
up_to_plus f g (suc n) = let rest = up_to_plus f g n in omega (arith, rest)

up_to_le : (f g : ℕ → ℕ) (n : ℕ) → ((w : ℕ) → w < n → f w ≤ g w) → up_to f n ≤ up_to g n
up_to_le f g zero h = omega arith
up_to_le f g (suc n) h = let rest = up_to_le f g n (λ w lt. h w (omega (arith, lt))) in let last = h n (omega arith) in omega (arith, rest, last)

up_to_same : (f g : ℕ → ℕ) (n : ℕ) → ((w : ℕ) → w < n → f w ≡ g w) → up_to f n ≡ up_to g n
up_to_same f g zero h = refl
up_to_same f g (suc n) h = let rest = up_to_same f g n (λ w lt. h w (omega (arith, lt))) in let last = h n (omega arith) in omega (arith, rest, last)

-- where none is more and the sum isn't less, none is less
up_to_tight : (f g : ℕ → ℕ) (n : ℕ) → ((w : ℕ) → w < n → f w ≤ g w) → up_to g n ≤ up_to f n → (w : ℕ) → w < n → g w ≤ f w
up_to_tight f g zero h sums w lt = absurd (omega (arith, lt))
up_to_tight f g (suc n) h sums w lt =
    let rest = up_to_le f g n (λ v low. h v (omega (arith, low))) in
    let last = h n (omega arith) in
    elim (cases_lt w n) [
      | inl low ↦ up_to_tight f g n (λ v below. h v (omega (arith, below))) (omega (arith, last, sums)) w low
      | inr high ↦ (let same : n ≡ w = omega (arith, high, lt) in subst (λ v. g v ≤ f v) same (omega (arith, rest, sums)))
    ]

-- one of those below n is the worker of a line
abbrev one_for : Line → ℕ → ℕ
one_for l w = cond (l.worker == w) 1 0

one_below : (l : Line) (n : ℕ) → l.worker < n → up_to (one_for l) n ≡ 1
one_below l zero lt = absurd (omega (arith, lt))
one_below l (suc n) lt = elim (cases_eq l.worker n) [
  | inl same ↦ (
      let rest = up_to_none (one_for l) n (λ w low. ap (λ b. cond b 1 0) (ne_eqb l.worker w (λ e. omega (arith, e, same, low)))) in
      let last : one_for l n ≡ 1 = ap (λ b. cond b 1 0) (eq-eqb l.worker n same) in
      omega (arith, rest, last))
  | inr other ↦ (
      let rest = one_below l n (omega (arith, lt, other)) in
      let last : one_for l n ≡ 0 = ap (λ b. cond b 1 0) (ne_eqb l.worker n other) in
      omega (arith, rest, last))
]

-- the lines of all workers below n are all lines, if each has such a worker
own_total : (n : ℕ) (ls : List Line) → All (λ l. l.worker < n) ls → up_to (λ w. own_count w ls) n ≡ length ls
own_total n [] below = up_to_none (λ w. 0) n (λ w lt. refl)
own_total n (l ∷ ls) below =
    let rest = own_total n ls (All-tail (λ (m : Line). m.worker < n) l ls below) in
    let one = one_below l n (All-head (λ (m : Line). m.worker < n) l ls below) in
    let both = up_to_plus (one_for l) (λ w. own_count w ls) n in
    omega (arith, rest, one, both)

-- a sum over a list is the sum over its indices
sum_front : {X : Type 0} (f : X → ℕ) (xs : List X) (d : X) (m : ℕ) → m ≤ length xs → sum_by f (take m xs) ≡ up_to (λ i. f (get_or xs i d)) m
sum_front f xs d zero le = refl
sum_front f xs d (suc m) le =
    let rest = sum_front f xs d m (omega (arith, le)) in
    let more = sum_by_more f xs m d le in
    rw (← add-one m) (omega (arith, rest, more))

sum_all : {X : Type 0} (f : X → ℕ) (xs : List X) (d : X) → sum_by f xs ≡ up_to (λ i. f (get_or xs i d)) (length xs)
sum_all f xs d = ap (sum_by f) (sym (take-length xs)) ∙ sum_front f xs d (length xs) (omega arith)

-- a sum that isn't 0 has a number that isn't
some_of : {X : Type 0} (f : X → ℕ) (xs : List X) → 1 ≤ sum_by f xs → (i : ℕ) × (i < length xs) × ((d : X) → 1 ≤ f (get_or xs i d))
some_of f [] some = absurd (omega (arith, some))
some_of f (x ∷ xs) some = elim (cases_lt 0 (f x)) [
  | inl here ↦ (0, omega arith, λ d. here)
  | inr none ↦ (
      let more = sum_by-cons f x xs in
      let rest = some_of f xs (omega (arith, more, none, some)) in
      (suc rest.0, (let lt = rest.1 in omega (arith, lt)), rest.2))
]

has_of : (k : ℕ) (l : Line) (rs : List Receipt) → 1 ≤ count_by (λ r. is_copy k l r) rs → Has k l rs
has_of k l [] some = absurd (omega (arith, some))
has_of k l (r ∷ rs) some = elim (cases_Bool (is_copy k l r)) [
  | inl copy ↦ inl copy
  | inr other ↦ (
      let more = sum_by-cons (λ (q : Receipt). cond (is_copy k l q) 1 0) r rs in
      let none : ◌≡◌ {A = ℕ} (cond (is_copy k l r) 1 0) 0 = ap (λ b. cond b 1 0) other in
      inr (has_of k l rs (omega (arith, more, none, some))))
]

-- a pass with a copy is the worker's
own_copy : (b : Bool) (n : ℕ) → 1 ≤ cond b n 0 → (b ≡ true) × (1 ≤ n)
own_copy true n some = (refl, some)
own_copy false n some = absurd (omega (arith, some))

each_has : (w k : ℕ) (ls : List Line) (rs : List Receipt) → ((i : ℕ) (d : Line) → i < length ls → (get_or ls i d).worker ≡ w → Has (k + i) (get_or ls i d) rs) → EachHas w k ls rs
each_has w k [] rs h = tt
each_has w k (l ∷ ls) rs h = (
  λ same. (let at : k + 0 ≡ k = omega arith in subst (λ j. Has j l rs) at (h 0 l (omega arith) same)),
  each_has w (k + 1) ls rs (λ i d lt same. (let at : k + suc i ≡ (k + 1) + i = omega arith in subst (λ j. Has j (get_or ls i d) rs) at (h (suc i) d (omega (arith, lt)) same))),
)

-- the receipts of the process of this number
abbrev pub receipts_at : List Held → ℕ → List Receipt
receipts_at hs w = (get_or hs w (record { worker = w; receipts = [] })).receipts

module _ (hs : List Held) (ls : List Line) (settled : IsSettled 0 ls hs) (own : (i : ℕ) (h : Held) → i < length hs → (get_or hs i h).worker ≡ i)
    (rises : (w : ℕ) → w < length hs → Rises 0 (receipts_at hs w)) where
  -- each line has a copy in the pass of its worker
  line_has : (k : ℕ) (d : Line) → k < length ls → ((get_or ls k d).worker < length hs) × Has k (get_or ls k d) (receipts_at hs (get_or ls k d).worker)
  line_has k d lt =
      let l : Line = get_or ls k d in
      let one = settled.1 k d (omega arith) lt in
      let found = some_of (copies_in k l) hs (omega (arith, one)) in
      let i : ℕ = found.0 in
      let empty : Held = record { worker = l.worker; receipts = [] } in
      let copy = own_copy ((get_or hs i empty).worker == l.worker) _ (found.2 empty) in
      let same : i ≡ l.worker = sym (own i empty found.1) ∙ eqb-true (get_or hs i empty).worker l.worker copy.0 in
      (subst (λ (w : ℕ). w < length hs) same found.1, subst (λ (w : ℕ). Has k l (get_or hs w empty).receipts) same (has_of k l (get_or hs i empty).receipts copy.1))

  pub workers_within : All (λ l. l.worker < length hs) ls
  workers_within = λ k d lt. (line_has k d lt).0

  own_has : (w : ℕ) → EachHas w 0 ls (receipts_at hs w)
  own_has w = each_has w 0 ls (receipts_at hs w)
      (λ i d lt same. (let at : i ≡ 0 + i = omega arith in
      subst (λ j. Has j (get_or ls i d) (receipts_at hs w)) at (subst (λ v. Has i (get_or ls i d) (receipts_at hs v)) same (line_has i d lt).1)))

  few : (w : ℕ) → w < length hs → length (receipts_at hs w) ≤ own_count w ls
  few w lt =
      let empty : Held = record { worker = 0; receipts = [] } in
      let lines = own_total (length hs) ls workers_within in
      let all = sum_all (λ (h : Held). length h.receipts) hs empty in
      let same = up_to_same (λ i. length (get_or hs i empty).receipts) (λ i. length (receipts_at hs i)) (length hs)
      (λ v low. ap (λ (h : Held). length h.receipts) (get_or_default hs v empty (record { worker = v; receipts = [] }) low)) in
      let count = settled.0 in
      up_to_tight (λ v. own_count v ls) (λ v. length (receipts_at hs v)) (length hs) (λ v low. fits v 0 0 ls (receipts_at hs v) (rises v low) (own_has v)) (omega (arith, lines, all, same, count)) w lt

  pub each_matches : (w : ℕ) → w < length hs → Matches w 0 ls (receipts_at hs w)
  each_matches w lt = matches w 0 0 ls (receipts_at hs w) (rises w lt) (own_has w) (few w lt)
