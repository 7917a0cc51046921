-- A count up to 2 says whether there is exactly one.
use Rattle.std.proofs.Common.{◌≡◌, ℕ, ◌+◌, ◌<◌, ◌≤◌, List, length, min, get_or, ap, arith, below_more}
use Rattle.std.proofs.lemmas.List.{get_or_default}
use Rattle.path_model.specs.declared.journal.Line.{Line}
use Rattle.path_workers.specs.Attempts.{Held}
use Rattle.path_workers.specs.Settled.{copies}

pub one_there : (lines : List Line) (hs : List Held) (k : ℕ) (d e : Line) (r : ℕ) → k < length lines → r ≡ min 2 (copies k (get_or lines k e) hs) → r ≡ 1 → copies k (get_or lines k d) hs ≡ 1
one_there lines hs k d e r lt is one =
    let same : copies k (get_or lines k d) hs ≡ copies k (get_or lines k e) hs = ap (λ (l : Line). copies k l hs) (get_or_default lines k d e lt) in
    omega arith

pub one_counted : (lines : List Line) (hs : List Held) (k : ℕ) (d e : Line) (r : ℕ) → k < length lines → r ≡ min 2 (copies k (get_or lines k e) hs) → copies k (get_or lines k d) hs ≡ 1 → r ≡ 1
one_counted lines hs k d e r lt is one =
    let same : copies k (get_or lines k d) hs ≡ copies k (get_or lines k e) hs = ap (λ (l : Line). copies k l hs) (get_or_default lines k d e lt) in
    omega arith

-- below one more
pub copied_more : (lines : List Line) (hs : List Held) (b i : ℕ) → ((k : ℕ) (d : Line) → b ≤ k → k < i → copies k (get_or lines k d) hs ≡ 1) → ((d : Line) → copies i (get_or lines i d) hs ≡ 1)
    → (k : ℕ) (d : Line) → b ≤ k → k < i + 1 → copies k (get_or lines k d) hs ≡ 1
copied_more lines hs b i below here k d le lt =
    below_more (λ (j : ℕ). (e : Line) → b ≤ j → copies j (get_or lines j e) hs ≡ 1) i (λ j low e from. below j e from low) (λ e from. here e) k lt d le
