-- What is written at the opening: at the numbers of each path its opening values, and nothing elsewhere.
use Rattle.std.proofs.Common.{◌≡◌, ◌⊎◌, ◌==◌, ◌+◌, ◌-◌, ◌<◌, ◌≤◌, ℕ, zero, suc, cond, Bool, true, false, List, [], ◌∷◌, ◌++◌, length, map, get_or, replicate, drop, arith, refl, sym, ap, ◌∙◌, subst, inl, inr}
use Rattle.std.specs.Prelude.{nat_lt}
use Rattle.std.proofs.lemmas.List.{get_or-set_other, get_or-set_same, length-set, length-append, length-replicate, get_or-append-add, get_or-replicate, get_or_past}
use Rattle.std.proofs.lemmas.Bool.{cases_lt, cond-true, cond-false, eq-eqb, ne_eqb, lt-ltb, le-ltb}
use Rattle.path_model.specs.Trees.{Tree, op, seq, alt, burst, any, most}
use Rattle.path_model.specs.Machine.{semicolons, braces, bound_at, opening}
use Rattle.path_model.specs.Legal as legal
use Rattle.path_model.specs.Flat.{counted_braces, rank, HasBound, semaphores_in, Sited, bound_number}
use Rattle.path_model.specs.Trimmed.{is_burst, KeepsSemaphore, KeepsCounter}
use Rattle.path_model.proofs.CallerLemmas.{rank_before, rank_after, rank_low, bound_within, bounds_out}
use Rattle.path_code.specs.PathCodes.{bounds_in, numbered_values, numbers_from, opening_values, semaphores_of, braces_of}
use Rattle.path_trim.specs.LeanTable.{lean_row, semaphores_left, counters_left}
use Rattle.path_gate.specs.Levels.{levels}
use Rattle.path_gate.specs.Sites.{Shows, HasPlaces}
use Rattle.path_gate.specs.Inner.Initial.{put_value, put_all, at_zero, semaphores_put, counters_put}
use Rattle.path_gate.proofs.Passes.{Rising}

true_false : true ≡ false → ⊥
true_false z = cc

within_first : (xs ys : List ℕ) (i : ℕ) → i < length xs → get_or (xs ++ ys) i 0 ≡ get_or xs i 0
within_first [] ys i l = absurd (omega arith)
within_first (x ∷ xs) ys zero l = refl
within_first (x ∷ xs) ys (suc i) l = within_first xs ys i (omega arith)

pub zeros : (n i : ℕ) → ◌≡◌ {A = ℕ} (get_or (replicate n 0) i 0) 0
zeros n i = elim (cases_lt i n) [ inl l ↦ get_or-replicate n i 0 0 l | inr l ↦ get_or_past (replicate n 0) i 0 (let e : length {A = ℕ} (replicate n 0) ≡ n = length-replicate n 0 in omega arith) ]

-- places with 0 are like no places
padded : (xs : List ℕ) (n i : ℕ) → get_or (xs ++ replicate n 0) i 0 ≡ get_or xs i 0
padded xs n i = elim (cases_lt i (length xs)) [
  | inl l ↦ within_first xs (replicate n 0) i l
  | inr l ↦
      let j : ℕ = i - length xs in
      let e : i ≡ length xs + j = omega arith in
      ap (λ k. get_or (xs ++ replicate n 0) k 0) e ∙ get_or-append-add xs (replicate n 0) j 0 ∙ zeros n j ∙ sym (get_or_past xs i 0 l)
]

-- one value is written
put_place : (xs : List ℕ) (i x : ℕ) → i < length (put_value xs i x)
put_place xs i x =
    let a = length-set (xs ++ replicate (i + 1 - length xs) 0) i x in
    let b = length-append xs (replicate (i + 1 - length xs) 0) in
    let c : length {A = ℕ} (replicate (i + 1 - length xs) 0) ≡ i + 1 - length xs = length-replicate (i + 1 - length xs) 0 in
    omega arith

put_grows : (xs : List ℕ) (i x : ℕ) → length xs ≤ length (put_value xs i x)
put_grows xs i x =
    let a = length-set (xs ++ replicate (i + 1 - length xs) 0) i x in
    let b = length-append xs (replicate (i + 1 - length xs) 0) in
    omega arith

pub put_here : (xs : List ℕ) (i x : ℕ) → get_or (put_value xs i x) i 0 ≡ x
put_here xs i x = get_or-set_same (xs ++ replicate (i + 1 - length xs) 0) i x 0 (let a = length-set (xs ++ replicate (i + 1 - length xs) 0) i x in let b = put_place xs i x in omega arith)

pub put_there : (xs : List ℕ) (i j x : ℕ) → (j ≡ i → ⊥) → get_or (put_value xs i x) j 0 ≡ get_or xs j 0
put_there xs i j x n = get_or-set_other (xs ++ replicate (i + 1 - length xs) 0) i j x 0 n ∙ padded xs (i + 1 - length xs) j

-- several values from the number n on
pub record Put (n : ℕ) (vs old new : List ℕ) : Type 0 where
  pub here : (q : ℕ) → q < length vs → get_or new (n + q) 0 ≡ get_or vs q 0
  pub there : (j : ℕ) → (j < n) ⊎ (n + length vs ≤ j) → get_or new j 0 ≡ get_or old j 0
  pub place : (q : ℕ) → q < length vs → n + q < length new
  pub grows : length old ≤ length new

module _ (n v : ℕ) (vs old : List ℕ) (r : Put (n + 1) vs (put_value old n v) (put_all (numbered_values (n + 1) vs) (put_value old n v))) where
  more_here : (q : ℕ) → q < length (v ∷ vs) → get_or (put_all (numbered_values (n + 1) vs) (put_value old n v)) (n + q) 0 ≡ get_or (v ∷ vs) q 0
  more_here zero l =
      ap (λ k. get_or (put_all (numbered_values (n + 1) vs) (put_value old n v)) k 0) (let z : n + 0 ≡ n = omega arith in z)
      ∙ r.there n (inl (omega arith)) ∙ put_here old n v
  more_here (suc q) l =
      ap (λ k. get_or (put_all (numbered_values (n + 1) vs) (put_value old n v)) k 0) (let z : n + suc q ≡ n + 1 + q = omega arith in z)
      ∙ r.here q (omega arith)

  more_there : (j : ℕ) → (j < n) ⊎ (n + length (v ∷ vs) ≤ j) → get_or (put_all (numbered_values (n + 1) vs) (put_value old n v)) j 0 ≡ get_or old j 0
  more_there j (inl l) = r.there j (inl (omega arith)) ∙ put_there old n j v (λ e. omega arith)
  more_there j (inr l) = r.there j (inr (omega arith)) ∙ put_there old n j v (λ e. omega arith)

  more_place : (q : ℕ) → q < length (v ∷ vs) → n + q < length (put_all (numbered_values (n + 1) vs) (put_value old n v))
  more_place zero l = let a = put_place old n v in let b = r.grows in omega arith
  more_place (suc q) l = let a = r.place q (omega arith) in omega arith

  put_more : Put n (v ∷ vs) old (put_all (numbered_values (n + 1) vs) (put_value old n v))
  put_more = record { here = more_here; there = more_there; place = more_place; grows = (let a = put_grows old n v in let b = r.grows in omega arith) }

put_numbered : (n : ℕ) (vs old : List ℕ) → Put n vs old (put_all (numbered_values n vs) old)
put_numbered n [] old = record { here = λ q l. absurd (omega arith); there = λ j o. refl; place = λ q l. absurd (omega arith); grows = omega arith }
put_numbered n (v ∷ vs) old = put_more n v vs old (put_numbered (n + 1) vs (put_value old n v))

-- zeros from a number on
zero_numbers : (n k : ℕ) → map at_zero (numbers_from n k) ≡ numbered_values n (replicate k 0)
zero_numbers n zero = refl
zero_numbers n (suc k) = ap (λ ps. (n, 0) ∷ ps) (zero_numbers (n + 1) k)

-- the opening values of a path by their numbers
length_bounds : (s : Tree) → length (bounds_in s) ≡ counted_braces s
length_bounds (op a) = refl
length_bounds (seq s t) = let x = length-append (bounds_in s) (bounds_in t) in let y = length_bounds s in let z = length_bounds t in omega arith
length_bounds (alt s t) = let x = length-append (bounds_in s) (bounds_in t) in let y = length_bounds s in let z = length_bounds t in omega arith
length_bounds (burst any s) = let y = length_bounds s in omega arith
length_bounds (burst (most n) s) = let y = length_bounds s in omega arith

bounds_both : (s t : Tree) (m c : ℕ) → HasBound s m c ⊎ HasBound t (m + braces s) c
    → (HasBound s m c → get_or (bounds_in s) (rank s m c) 0 ≡ bound_at s m c) → (HasBound t (m + braces s) c → get_or (bounds_in t) (rank t (m + braces s) c) 0 ≡ bound_at t (m + braces s) c)
    → get_or (bounds_in s ++ bounds_in t) (rank s m c + rank t (m + braces s) c) 0 ≡ bound_at s m c + bound_at t (m + braces s) c
bounds_both s t m c (inl h) f g =
    let w = bound_within s m c h in
    let y = rank_before t (m + braces s) c (let w1 = w.1 in omega arith) in
    let l = rank_low s m c h in
    let n = length_bounds s in
    let z = bounds_out t (m + braces s) c (inl w.1) in
    let i : rank s m c + rank t (m + braces s) c ≡ rank s m c = omega arith in
    let e : bound_at s m c ≡ bound_at s m c + bound_at t (m + braces s) c = omega arith in
    ap (λ k. get_or (bounds_in s ++ bounds_in t) k 0) i ∙ within_first (bounds_in s) (bounds_in t) (rank s m c) (omega arith) ∙ f h ∙ e
bounds_both s t m c (inr h) f g =
    let w = bound_within t (m + braces s) c h in
    let y = rank_after s m c w.0 in
    let n = length_bounds s in
    let z = bounds_out s m c (inr w.0) in
    let i : rank s m c + rank t (m + braces s) c ≡ length (bounds_in s) + rank t (m + braces s) c = omega arith in
    let e : bound_at t (m + braces s) c ≡ bound_at s m c + bound_at t (m + braces s) c = omega arith in
    ap (λ k. get_or (bounds_in s ++ bounds_in t) k 0) i ∙ get_or-append-add (bounds_in s) (bounds_in t) (rank t (m + braces s) c) 0 ∙ g h ∙ e

bound_found : (s : Tree) (m c : ℕ) → HasBound s m c → get_or (bounds_in s) (rank s m c) 0 ≡ bound_at s m c
bound_found (op a) m c h = absurd h
bound_found (seq s t) m c h = bounds_both s t m c h (bound_found s m c) (bound_found t (m + braces s) c)
bound_found (alt s t) m c h = bounds_both s t m c h (bound_found s m c) (bound_found t (m + braces s) c)
bound_found (burst any s) m c (inl h) = absurd h.0
bound_found (burst any s) m c (inr h) =
    let w = bound_within s (m + 1) c h in
    let b : ◌≡◌ {A = ℕ} (cond (nat_lt m c) 0 0) 0 = cond-true (nat_lt m c) 0 0 (lt-ltb m c (let w0 = w.0 in omega arith)) in
    let i : cond (nat_lt m c) 0 0 + rank s (m + 1) c ≡ rank s (m + 1) c = omega (arith, b) in
    ap (λ k. get_or (bounds_in s) k 0) i ∙ bound_found s (m + 1) c h ∙ sym (cond-false (c == m) 0 (bound_at s (m + 1) c) (ne_eqb c m (λ z. let w0 = w.0 in omega arith)))
bound_found (burst (most n) s) m c (inl h) =
    let e = h.1 in
    let b : ◌≡◌ {A = ℕ} (cond (nat_lt m c) 1 0) 0 = cond-false (nat_lt m c) 1 0 (le-ltb m c (omega arith)) in
    let r = rank_before s (m + 1) c (omega arith) in
    let i : cond (nat_lt m c) 1 0 + rank s (m + 1) c ≡ 0 = omega (arith, b, r) in
    ap (λ k. get_or (n ∷ bounds_in s) k 0) i ∙ sym (cond-true (c == m) n (bound_at s (m + 1) c) (eq-eqb c m e))
bound_found (burst (most n) s) m c (inr h) =
    let w = bound_within s (m + 1) c h in
    let b : ◌≡◌ {A = ℕ} (cond (nat_lt m c) 1 0) 1 = cond-true (nat_lt m c) 1 0 (lt-ltb m c (let w0 = w.0 in omega arith)) in
    let i : cond (nat_lt m c) 1 0 + rank s (m + 1) c ≡ suc (rank s (m + 1) c) = omega (arith, b) in
    ap (λ k. get_or (n ∷ bounds_in s) k 0) i ∙ bound_found s (m + 1) c h ∙ sym (cond-false (c == m) n (bound_at s (m + 1) c) (ne_eqb c m (λ z. let w0 = w.0 in omega arith)))

pub length_values : (s : Tree) → length (opening_values s) ≡ semaphores_in s
length_values s =
    let a = length-append (replicate (semicolons s) 0) (bounds_in s) in
    let b : length {A = ℕ} (replicate (semicolons s) 0) ≡ semicolons s = length-replicate (semicolons s) 0 in
    let c = length_bounds s in
    omega arith

value_plain : (s : Tree) (q : ℕ) → q ≤ semicolons s → get_or (opening_values s) q 0 ≡ (opening s).semaphore q
value_plain s zero l = refl
value_plain s (suc q) l =
    let b : length {A = ℕ} (replicate (semicolons s) 0) ≡ semicolons s = length-replicate (semicolons s) 0 in
    within_first (replicate (semicolons s) 0) (bounds_in s) q (omega arith) ∙ get_or-replicate (semicolons s) q 0 0 (omega arith) ∙ sym (cond-false (suc q == 0) 1 0 (ne_eqb (suc q) 0 (λ z. omega arith)))

value_bound : (s : Tree) (c : ℕ) → HasBound s 0 c → get_or (opening_values s) (1 + semicolons s + rank s 0 c) 0 ≡ bound_at s 0 c
value_bound s c h =
    let b : length {A = ℕ} (replicate (semicolons s) 0) ≡ semicolons s = length-replicate (semicolons s) 0 in
    let i : 1 + semicolons s + rank s 0 c ≡ suc (length {A = ℕ} (replicate (semicolons s) 0) + rank s 0 c) = omega arith in
    ap (λ k. get_or (opening_values s) k 0) i ∙ get_or-append-add (replicate (semicolons s) 0) (bounds_in s) (rank s 0 c) 0 ∙ bound_found s 0 c h

-- the path's semaphores stand in the list
pub record SemaphoresOpen (values : List ℕ) (x : Sited) : Type 0 where
  pub semaphores : (q : ℕ) → q ≤ semicolons x.tree → KeepsSemaphore x.tree q → (x.own + q < length values) × (get_or values (x.own + q) 0 ≡ (opening x.tree).semaphore q)
  pub limits : (c : ℕ) → HasBound x.tree 0 c → (bound_number x c < length values) × (get_or values (bound_number x c) 0 ≡ (opening x.tree).bound c)

pub record CountersOpen (values : List ℕ) (x : Sited) : Type 0 where
  pub counters : (c : ℕ) → c < braces x.tree → KeepsCounter x.tree c → (x.first + c < length values) × (get_or values (x.first + c) 0 ≡ 0)

-- values from a number on are written, and nothing else
pub record Wrote (n m : ℕ) (old new : List ℕ) : Type 0 where
  pub there : (j : ℕ) → (j < n) ⊎ (m ≤ j) → get_or new j 0 ≡ get_or old j 0
  pub grows : length old ≤ length new

module _ (x : Sited) (old : List ℕ) where
  pub whole : Put x.own (opening_values x.tree) old (put_all (semaphores_of x) old)
  whole = put_numbered x.own (opening_values x.tree) old

  pub rest : Put (x.own + 1) (replicate (semicolons x.tree) 0 ++ bounds_in x.tree) old (put_all (drop 1 (semaphores_of x)) old)
  rest = put_numbered (x.own + 1) (replicate (semicolons x.tree) 0 ++ bounds_in x.tree) old

  path_wrote : Wrote x.own (x.own + semaphores_in x.tree) old (put_all (semaphores_left x) old)
  path_wrote = elim (is_burst x.tree) as (λ b. Wrote x.own (x.own + semaphores_in x.tree) old (put_all (cond b (drop 1 (semaphores_of x)) (semaphores_of x)) old)) [
    | true ↦ record { there = λ j o. rest.there j (after j o); grows = rest.grows }
    | false ↦ record { there = λ j o. whole.there j (beyond j o); grows = whole.grows }
  ]
    where
      beyond : (j : ℕ) → (j < x.own) ⊎ (x.own + semaphores_in x.tree ≤ j) → (j < x.own) ⊎ (x.own + length (opening_values x.tree) ≤ j)
      beyond j (inl l) = inl l
      beyond j (inr l) = inr (let z = length_values x.tree in omega arith)

      after : (j : ℕ) → (j < x.own) ⊎ (x.own + semaphores_in x.tree ≤ j) → (j < x.own + 1) ⊎ (x.own + 1 + length (replicate (semicolons x.tree) 0 ++ bounds_in x.tree) ≤ j)
      after j (inl l) = inl (omega arith)
      after j (inr l) = inr (let z = length_values x.tree in omega arith)

  path_open : SemaphoresOpen (put_all (semaphores_left x) old) x
  path_open = go (is_burst x.tree) refl
    where
      at_bound : (c : ℕ) → HasBound x.tree 0 c → x.own + (1 + semicolons x.tree + rank x.tree 0 c) ≡ bound_number x c
      at_bound c h = omega arith

      go : (b : Bool) → is_burst x.tree ≡ b → SemaphoresOpen (put_all (cond b (drop 1 (semaphores_of x)) (semaphores_of x)) old) x
      go false e = record {
        semaphores = λ q l k. (let z = length_values x.tree in (whole.place q (omega arith), whole.here q (omega arith) ∙ value_plain x.tree q l));
        limits = λ c h.
            (let z = length_values x.tree in
            let l = rank_low x.tree 0 c h in
            let i = at_bound c h in
            let p = whole.place (1 + semicolons x.tree + rank x.tree 0 c) (omega arith) in
            (omega arith, ap (λ j. get_or (put_all (semaphores_of x) old) j 0) (sym i) ∙ whole.here (1 + semicolons x.tree + rank x.tree 0 c) (omega arith) ∙ value_bound x.tree c h));
      }
      go true e = record {
        semaphores = λ q l k. inner q l (k e);
        limits = λ c h.
            (let z = length_values x.tree in
            let l = rank_low x.tree 0 c h in
            let i : x.own + 1 + (semicolons x.tree + rank x.tree 0 c) ≡ bound_number x c = omega arith in
            let p = rest.place (semicolons x.tree + rank x.tree 0 c) (omega arith) in
            let j : 1 + semicolons x.tree + rank x.tree 0 c ≡ suc (semicolons x.tree + rank x.tree 0 c) = omega arith in
            (omega arith, ap (λ j. get_or (put_all (drop 1 (semaphores_of x)) old) j 0) (sym i) ∙ rest.here (semicolons x.tree + rank x.tree 0 c) (omega arith) ∙ ap (λ k. get_or (opening_values x.tree) k 0) (sym j) ∙ value_bound x.tree c h));
      }
        where
          inner : (q : ℕ) → q ≤ semicolons x.tree → 0 < q → (x.own + q < length (put_all (drop 1 (semaphores_of x)) old)) × (get_or (put_all (drop 1 (semaphores_of x)) old) (x.own + q) 0 ≡ (opening x.tree).semaphore q)
          inner zero l k = absurd (omega arith)
          inner (suc q) l k =
              let z = length_values x.tree in
              let i : x.own + suc q ≡ x.own + 1 + q = omega arith in
              let p = rest.place q (omega arith) in
              (omega arith, ap (λ j. get_or (put_all (drop 1 (semaphores_of x)) old) j 0) i ∙ rest.here q (omega arith) ∙ value_plain x.tree (suc q) l)

  all_counters : Put x.first (replicate (braces x.tree) 0) old (put_all (map at_zero (braces_of x)) old)
  all_counters = subst (λ ps. Put x.first (replicate (braces x.tree) 0) old (put_all ps old)) (sym (zero_numbers x.first (braces x.tree))) (put_numbered x.first (replicate (braces x.tree) 0) old)

  counters_wrote : Wrote x.first (x.first + braces x.tree) old (put_all (map at_zero (counters_left x)) old)
  counters_wrote = elim (is_burst x.tree) as (λ b. Wrote x.first (x.first + braces x.tree) old (put_all (map at_zero (cond b [] (braces_of x))) old)) [
    | true ↦ record { there = λ j o. refl; grows = omega arith }
    | false ↦ record { there = λ j o. all_counters.there j (beyond j o); grows = all_counters.grows }
  ]
    where
      beyond : (j : ℕ) → (j < x.first) ⊎ (x.first + braces x.tree ≤ j) → (j < x.first) ⊎ (x.first + length {A = ℕ} (replicate (braces x.tree) 0) ≤ j)
      beyond j (inl l) = inl l
      beyond j (inr l) = inr (let z : length {A = ℕ} (replicate (braces x.tree) 0) ≡ braces x.tree = length-replicate (braces x.tree) 0 in omega arith)

  counters_open : CountersOpen (put_all (map at_zero (counters_left x)) old) x
  counters_open = go (is_burst x.tree) refl
    where
      go : (b : Bool) → is_burst x.tree ≡ b → CountersOpen (put_all (map at_zero (cond b [] (braces_of x))) old) x
      go true e = record { counters = λ c l k. absurd (true_false (sym e ∙ k)) }
      go false e = record {
        counters = λ c l k.
            (let z : length {A = ℕ} (replicate (braces x.tree) 0) ≡ braces x.tree = length-replicate (braces x.tree) 0 in
            (all_counters.place c (omega arith), all_counters.here c (omega arith) ∙ zeros (braces x.tree) c));
      }

-- what is written later leaves what stands below
still_semaphores : (x : Sited) (old new : List ℕ) → ((j : ℕ) → j < x.own + semaphores_in x.tree → get_or new j 0 ≡ get_or old j 0) → length old ≤ length new → SemaphoresOpen old x → SemaphoresOpen new x
still_semaphores x old new same grows S = record {
  semaphores = λ q l k. (let s = S.semaphores q l k in let a = s.0 in (omega arith, same (x.own + q) (omega arith) ∙ s.1));
  limits = λ c h. (let s = S.limits c h in let a = s.0 in let r = rank_low x.tree 0 c h in (omega arith, same (bound_number x c) (omega arith) ∙ s.1));
}

still_counters : (x : Sited) (old new : List ℕ) → ((j : ℕ) → j < x.first + braces x.tree → get_or new j 0 ≡ get_or old j 0) → length old ≤ length new → CountersOpen old x → CountersOpen new x
still_counters x old new same grows S = record {
  counters = λ c l k. (let s = S.counters c l k in let a = s.0 in (omega arith, same (x.first + c) (omega arith) ∙ s.1));
}

-- all paths
pub semaphores_opened : (ys : List (ℕ × Sited)) (k c : ℕ) → Rising k c ys → (old : List ℕ)
    → legal.Every (SemaphoresOpen (semaphores_put (map lean_row ys) old)) ys × ((j : ℕ) → j < k → get_or (semaphores_put (map lean_row ys) old) j 0 ≡ get_or old j 0) × (length old ≤ length (semaphores_put (map lean_row ys) old))
semaphores_opened [] k c r old = (tt, (λ j l. refl), omega arith)
semaphores_opened (y ∷ ys) k c r old =
    let w = path_wrote y.1 old in
    let d = semaphores_opened ys (y.1.own + semaphores_in y.1.tree) (y.1.first + braces y.1.tree) r.2 (put_all (semaphores_left y.1) old) in
    let r0 = r.0 in
    let g = w.grows in
    let g2 = d.2 in (
      (still_semaphores y.1 (put_all (semaphores_left y.1) old) (semaphores_put (map lean_row ys) (put_all (semaphores_left y.1) old)) d.1 d.2 (path_open y.1 old), d.0),
      (λ j l. d.1 j (omega arith) ∙ w.there j (inl (omega arith))),
      omega arith,
    )

pub counters_opened : (ys : List (ℕ × Sited)) (k c : ℕ) → Rising k c ys → (old : List ℕ)
    → legal.Every (CountersOpen (counters_put (map lean_row ys) old)) ys × ((j : ℕ) → j < c → get_or (counters_put (map lean_row ys) old) j 0 ≡ get_or old j 0) × (length old ≤ length (counters_put (map lean_row ys) old))
counters_opened [] k c r old = (tt, (λ j l. refl), omega arith)
counters_opened (y ∷ ys) k c r old =
    let w = counters_wrote y.1 old in
    let d = counters_opened ys (y.1.own + semaphores_in y.1.tree) (y.1.first + braces y.1.tree) r.2 (put_all (map at_zero (counters_left y.1)) old) in
    let r1 = r.1 in
    let g = w.grows in
    let g2 = d.2 in (
      (still_counters y.1 (put_all (map at_zero (counters_left y.1)) old) (counters_put (map lean_row ys) (put_all (map at_zero (counters_left y.1)) old)) d.1 d.2 (counters_open y.1 old), d.0),
      (λ j l. d.1 j (omega arith) ∙ w.there j (inl (omega arith))),
      omega arith,
    )

pub shows_opened : (s c : List ℕ) (x : Sited) → SemaphoresOpen s x → CountersOpen c x → Shows (levels s c) (opening x.tree) x
shows_opened s c x S C = record {
  semaphores = λ q l k. (S.semaphores q l k).1;
  counters = λ d l k. (C.counters d l k).1;
  limits = λ d h. (S.limits d h).1;
}

pub places_opened : (s c : List ℕ) (x : Sited) → SemaphoresOpen s x → CountersOpen c x → HasPlaces (length s) (length c) x
places_opened s c x S C = record {
  semaphores = λ q l k. (S.semaphores q l k).0;
  counters = λ d l k. (C.counters d l k).0;
  limits = λ d h. (S.limits d h).0;
}
