-- Where no path keeps a value there is 0 at the opening.
use Rattle.std.proofs.Common.{◌≡◌, ◌⊎◌, ◌+◌, ◌-◌, ◌<◌, ◌≤◌, ℕ, zero, suc, cond, Bool, true, false, List, [], ◌∷◌, map, get_or, drop, arith, refl, ap, ◌∙◌, inl, inr}
use Rattle.std.specs.Prelude.{nat_lt}
use Rattle.std.proofs.lemmas.Bool.{cases_eq, cases_lt, cond-true, cond-false, lt-ltb, le-ltb}
use Rattle.path_model.specs.Trees.{Tree, op, seq, alt, burst, any, most}
use Rattle.path_model.specs.Machine.{semicolons, braces}
use Rattle.path_model.specs.Legal as legal
use Rattle.path_model.specs.Flat.{counted_braces, rank, HasBound, semaphores_in, Sited}
use Rattle.path_model.specs.Trimmed.{is_burst}
use Rattle.path_model.proofs.CallerLemmas.{rank_before, rank_after, bound_within}
use Rattle.path_code.specs.PathCodes.{semaphores_of}
use Rattle.path_trim.specs.LeanTable.{LeanRow, lean_row, semaphores_left}
use Rattle.path_gate.specs.Sites.{LeavesSemaphore}
use Rattle.path_gate.specs.Inner.Initial.{put_value, put_all, at_zero, semaphores_put, counters_put}
use Rattle.path_gate.proofs.OpeningValues.{length_values, put_here, put_there, rest, whole}

-- each number below that of the bounds is the rank of one
ranked_both : (s t : Tree) (m r : ℕ) → r < counted_braces s + counted_braces t → ((j : ℕ) → j < counted_braces s → (c : ℕ) × HasBound s m c × (rank s m c ≡ j))
    → ((j : ℕ) → j < counted_braces t → (c : ℕ) × HasBound t (m + braces s) c × (rank t (m + braces s) c ≡ j))
    → (c : ℕ) × (HasBound s m c ⊎ HasBound t (m + braces s) c) × (rank s m c + rank t (m + braces s) c ≡ r)
ranked_both s t m r l f g = elim (cases_lt r (counted_braces s)) [
  | inl low ↦ (let x = f r low in let w = bound_within s m x.0 x.1 in let y = rank_before t (m + braces s) x.0 (let w1 = w.1 in omega (arith, w1)) in (x.0, inl x.1, (let e = x.2 in omega (arith, e, y))))
  | inr high ↦ (let x = g (r - counted_braces s) (omega (arith, l, high)) in let w = bound_within t (m + braces s) x.0 x.1 in let y = rank_after s m x.0 w.0 in (x.0, inr x.1, (let e = x.2 in omega (arith, e, y, high))))
]

ranked : (s : Tree) (m r : ℕ) → r < counted_braces s → (c : ℕ) × HasBound s m c × (rank s m c ≡ r)
ranked (op a) m r l = absurd (omega (arith, l))
ranked (seq s t) m r l = ranked_both s t m r l (ranked s m) (ranked t (m + braces s))
ranked (alt s t) m r l = ranked_both s t m r l (ranked s m) (ranked t (m + braces s))
ranked (burst any s) m r l =
    let x = ranked s (m + 1) r (omega (arith, l)) in
    let w = bound_within s (m + 1) x.0 x.1 in
    let b : ◌≡◌ {A = ℕ} (cond (nat_lt m x.0) 0 0) 0 = cond-true (nat_lt m x.0) 0 0 (lt-ltb m x.0 (let w0 = w.0 in omega (arith, w0))) in
    (x.0, inr x.1, (let e = x.2 in omega (arith, b, e)))
ranked (burst (most n) s) m zero l =
    let b : ◌≡◌ {A = ℕ} (cond (nat_lt m m) 1 0) 0 = cond-false (nat_lt m m) 1 0 (le-ltb m m (omega arith)) in
    let y = rank_before s (m + 1) m (omega arith) in
    (m, inl (tt, refl), omega (arith, b, y))
ranked (burst (most n) s) m (suc r) l =
    let x = ranked s (m + 1) r (omega (arith, l)) in
    let w = bound_within s (m + 1) x.0 x.1 in
    let b : ◌≡◌ {A = ℕ} (cond (nat_lt m x.0) 1 0) 1 = cond-true (nat_lt m x.0) 1 0 (lt-ltb m x.0 (let w0 = w.0 in omega (arith, w0))) in
    (x.0, inr x.1, (let e = x.2 in omega (arith, b, e)))

module _ (i : ℕ) (x : Sited) (free : LeavesSemaphore i x) where
  -- a number of the path that it doesn't keep is its own semaphore, where one pair of braces is the whole path
  outside : (i < x.own) ⊎ (x.own + semaphores_in x.tree ≤ i) ⊎ ((is_burst x.tree ≡ true) × (i ≡ x.own))
  outside = elim (cases_lt i x.own) [
    | inl below ↦ inl below
    | inr from ↦ elim (cases_lt i (x.own + semaphores_in x.tree)) [
      | inr beyond ↦ inr (inl beyond)
      | inl within ↦ elim (cases_lt i (x.own + 1 + semicolons x.tree)) [
        | inl plain ↦ inr (inr (own_one (i - x.own) (omega (arith, from)) (omega (arith, from, plain)) (is_burst x.tree) refl))
        | inr bound ↦ absurd (let r = ranked x.tree 0 (i - (x.own + 1 + semicolons x.tree)) (omega (arith, bound, within)) in free.limits r.0 r.1 (let e = r.2 in omega (arith, e, bound)))
      ]
    ]
  ]
    where
      own_one : (q : ℕ) → i ≡ x.own + q → q ≤ semicolons x.tree → (b : Bool) → is_burst x.tree ≡ b → (is_burst x.tree ≡ true) × (i ≡ x.own)
      own_one zero e l true is = (is, omega (arith, e))
      own_one zero e l false is = absurd (free.own zero l (λ yes. absurd (cc)) e)
      own_one (suc q) e l b is = absurd (free.own (suc q) l (λ yes. omega arith) e)

  path_leaves : (old : List ℕ) → get_or (put_all (semaphores_left x) old) i 0 ≡ get_or old i 0
  path_leaves old = go (is_burst x.tree) refl
    where
      go : (b : Bool) → is_burst x.tree ≡ b → get_or (put_all (cond b (drop 1 (semaphores_of x)) (semaphores_of x)) old) i 0 ≡ get_or old i 0
      go true is = elim outside [
        | inl below ↦ (rest x old).there i (inl (omega (arith, below)))
        | inr (inl beyond) ↦ (rest x old).there i (inr (let z = length_values x.tree in omega (arith, beyond, z)))
        | inr (inr own) ↦ (rest x old).there i (inl (let e = own.1 in omega (arith, e)))
      ]
      go false is = elim outside [
        | inl below ↦ (whole x old).there i (inl below)
        | inr (inl beyond) ↦ (whole x old).there i (inr (let z = length_values x.tree in omega (arith, beyond, z)))
        | inr (inr own) ↦ absurd (let yes = own.0 in cc)
      ]

pub semaphores_zero : (i : ℕ) (ys : List (ℕ × Sited)) (old : List ℕ) → legal.Every (LeavesSemaphore i) ys → get_or (semaphores_put (map lean_row ys) old) i 0 ≡ get_or old i 0
semaphores_zero i [] old free = refl
semaphores_zero i (y ∷ ys) old free = semaphores_zero i ys (put_all (semaphores_left y.1) old) free.1 ∙ path_leaves i y.1 free.0 old

-- all counters are 0
zeros_put : (i : ℕ) (cs old : List ℕ) → get_or old i 0 ≡ 0 → get_or (put_all (map at_zero cs) old) i 0 ≡ 0
zeros_put i [] old z = z
zeros_put i (c ∷ cs) old z = zeros_put i cs (put_value old c 0) (elim (cases_eq i c) [
  | inl here ↦ ap (λ j. get_or (put_value old c 0) j 0) here ∙ put_here old c 0
  | inr there ↦ put_there old c i 0 there ∙ z
])

pub counters_zero : (i : ℕ) (rs : List LeanRow) (old : List ℕ) → get_or old i 0 ≡ 0 → get_or (counters_put rs old) i 0 ≡ 0
counters_zero i [] old z = z
counters_zero i (r ∷ rs) old z = counters_zero i rs (put_all (map at_zero r.counters) old) (zeros_put i r.counters old z)
