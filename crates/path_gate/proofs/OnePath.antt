-- One path in the table: its trimmed terms test and change its own values, and touch no other path's.
use Rattle.std.proofs.Common.{◌≡◌, ◌⊎◌, ◌==◌, ◌&&◌, ◌+◌, ◌-◌, ◌<◌, ◌≤◌, ◌^◌, ℕ, cond, Bool, true, false, List, length, get_or, arith, refl, sym, ap, ◌∙◌, subst, inl, inr}
use Rattle.std.specs.Prelude.{nat_lt}
use Rattle.std.proofs.Math.ListN.{set}
use Rattle.std.proofs.lemmas.List.{get_or-set_other, get_or-set_same, length-set}
use Rattle.std.proofs.lemmas.Bool.{cases_eq, cases_lt, cond-true, cond-false, eq-eqb, ne_eqb, lt-ltb, le-ltb, or_cases, or_left, or_right, and_parts}
use Rattle.path_model.specs.Machine.{semicolons, braces, Plain, Braced, Counted, Values, put, take_one}
use Rattle.path_model.specs.Flat.{semaphores_in, Sited, HasBound, bound_number}
use Rattle.path_model.specs.Trimmed.{LeanTerm, nothing, does, limits, KeepsSemaphore, KeepsCounter, LeanPasses, lean_started, lean_finished}
use Rattle.path_model.specs.KeptTerms.{TouchesKept}
use Rattle.path_model.proofs.CallerLemmas.{rank_low, rank_apart}
use Rattle.path_trim.specs.LeanTable.{prologue_left, epilogue_left}
use Rattle.path_gate.specs.Levels.{Levels, taken, given, is_open, can_pass, entered, left, started, finished, PrologueWithin, EpilogueWithin, CanEnter, CanLeave, CanStart, CanFinish}
use Rattle.path_gate.specs.Sites.{Shows, HasPlaces}

put_here : (f : ℕ → ℕ) (k y i : ℕ) → i ≡ k → put f k y i ≡ y
put_here f k y i e = cond-true (i == k) y (f i) (eq-eqb i k e)

put_there : (f : ℕ → ℕ) (k y i : ℕ) → (i ≡ k → ⊥) → put f k y i ≡ f i
put_there f k y i n = cond-false (i == k) y (f i) (ne_eqb i k n)

-- one value of a path is set in the list as in the path
set_shift : (xs : List ℕ) (g : ℕ → ℕ) (k q y z i : ℕ) → k + q < length xs → y ≡ z → get_or xs (k + i) 0 ≡ g i → get_or (set xs (k + q) y) (k + i) 0 ≡ put g q z i
set_shift xs g k q y z i l e d = elim (cases_eq i q) [
  | inl s ↦ subst (λ j. get_or (set xs (k + q) y) (k + j) 0 ≡ z) (sym s) (get_or-set_same xs (k + q) y 0 l ∙ e) ∙ sym (put_here g q z i s)
  | inr n ↦ get_or-set_other xs (k + q) (k + i) y 0 (λ s. n (omega (arith, s))) ∙ d ∙ sym (put_there g q z i n)
]

module _ (x : Sited) where
  beyond : (q d : ℕ) → q ≤ semicolons x.tree → bound_number x d ≡ x.own + q → ⊥
  beyond q d l e = omega (arith, l, e)

  module _ (v : Levels) (w : Values) (S : Shows v w x) where
    -- a semaphore, a bound or a counter is set
    shows_semaphore : (q y z : ℕ) → q ≤ semicolons x.tree → x.own + q < length v.semaphores → y ≡ z
        → Shows (record v { semaphores = set v.semaphores (x.own + q) y }) (record w { semaphore = put w.semaphore q z }) x
    shows_semaphore q y z m l e = record {
      semaphores = λ i n k. set_shift v.semaphores w.semaphore x.own q y z i l e (S.semaphores i n k);
      counters = S.counters;
      limits = λ d h. get_or-set_other v.semaphores (x.own + q) (bound_number x d) y 0 (beyond q d m) ∙ S.limits d h;
    }

    shows_bound : (d y z : ℕ) → HasBound x.tree 0 d → bound_number x d < length v.semaphores → y ≡ z
        → Shows (record v { semaphores = set v.semaphores (bound_number x d) y }) (record w { bound = put w.bound d z }) x
    shows_bound d y z h l e = record {
      semaphores = λ i n k. get_or-set_other v.semaphores (bound_number x d) (x.own + i) y 0 (λ p. beyond i d n (sym p)) ∙ S.semaphores i n k;
      counters = S.counters;
      limits = λ j g. elim (cases_eq j d) [
        | inl s ↦ subst (λ i. get_or (set v.semaphores (bound_number x d) y) (bound_number x i) 0 ≡ z) (sym s) (get_or-set_same v.semaphores (bound_number x d) y 0 l ∙ e) ∙ sym (put_here w.bound d z j s)
        | inr n ↦ get_or-set_other v.semaphores (bound_number x d) (bound_number x j) y 0 (λ s. n (rank_apart x.tree j d g h (omega (arith, s)))) ∙ S.limits j g ∙ sym (put_there w.bound d z j n)
      ];
    }

    shows_counter : (d y z : ℕ) → x.first + d < length v.counters → y ≡ z
        → Shows (record v { counters = set v.counters (x.first + d) y }) (record w { counter = put w.counter d z }) x
    shows_counter d y z l e = record {
      semaphores = S.semaphores;
      counters = λ i n k. set_shift v.counters w.counter x.first d y z i l e (S.counters i n k);
      limits = S.limits;
    }

  module _ (v : Levels) (w : Values) (S : Shows v w x) (places : HasPlaces (length v.semaphores) (length v.counters) x) (d q : ℕ)
      (c : (d < braces x.tree) × KeepsCounter x.tree d) (m : q ≤ semicolons x.tree) (k : KeepsSemaphore x.tree q) where
    -- a counter is set, and a semaphore too where b says so
    both_set : (b : Bool) (y z s t : ℕ) → y ≡ z → s ≡ t
        → Shows (record { semaphores = cond b (set v.semaphores (x.own + q) y) v.semaphores; counters = set v.counters (x.first + d) s })
        (record { semaphore = cond b (put w.semaphore q z) w.semaphore; counter = put w.counter d t; bound = w.bound }) x
    both_set true y z s t e f = shows_counter (record v { semaphores = set v.semaphores (x.own + q) y }) (record w { semaphore = put w.semaphore q z }) (shows_semaphore v w S q y z m (places.semaphores q m k) e) d s t (places.counters d c.0 c.1) f
    both_set false y z s t e f = shows_counter v w S d s t (places.counters d c.0 c.1) f

    shows_entered : Shows (entered (x.first + d) (x.own + q) v) (lean_started (does (Braced d q)) w) x
    shows_entered =
        let e = S.counters d c.0 c.1 in
        let f = S.semaphores q m k in
        subst (λ n. Shows (entered (x.first + d) (x.own + q) v) (record { semaphore = cond (n == 0) (put w.semaphore q (w.semaphore q - 1)) w.semaphore; counter = put w.counter d (w.counter d + 1); bound = w.bound }) x) e
        (both_set (get_or v.counters (x.first + d) 0 == 0) (get_or v.semaphores (x.own + q) 0 - 1) (w.semaphore q - 1) (get_or v.counters (x.first + d) 0 + 1) (w.counter d + 1) (ap (λ n. n - 1) f) (ap (λ n. n + 1) e))

    shows_left : Shows (left (x.first + d) (x.own + q) v) (lean_finished (does (Braced d q)) w) x
    shows_left =
        let e = S.counters d c.0 c.1 in
        let f = S.semaphores q m k in
        subst (λ n. Shows (left (x.first + d) (x.own + q) v) (record { semaphore = cond (n == 1) (put w.semaphore q (w.semaphore q + 1)) w.semaphore; counter = put w.counter d (w.counter d - 1); bound = w.bound }) x) e
        (both_set (get_or v.counters (x.first + d) 0 == 1) (get_or v.semaphores (x.own + q) 0 + 1) (w.semaphore q + 1) (get_or v.counters (x.first + d) 0 - 1) (w.counter d - 1) (ap (λ n. n + 1) f) (ap (λ n. n - 1) e))

    -- braces let an execution begin
    open_to : is_open (x.first + d) (x.own + q) v ≡ true → (0 < w.counter d) ⊎ (0 < w.semaphore q)
    open_to h = elim (or_cases (nat_lt 0 (get_or v.counters (x.first + d) 0)) (nat_lt 0 (get_or v.semaphores (x.own + q) 0)) h) [
      | inl l ↦ inl (let y = ltb_to _ _ l in let e = S.counters d c.0 c.1 in omega (arith, y, e))
      | inr l ↦ inr (let y = ltb_to _ _ l in let e = S.semaphores q m k in omega (arith, y, e))
    ]
      where
        ltb_to : (i j : ℕ) → nat_lt i j ≡ true → i < j
        ltb_to i j l = elim (cases_lt i j) [ inl y ↦ y | inr y ↦ absurd (let z = le-ltb i j y in (cc)) ]

    open_from : (0 < w.counter d) ⊎ (0 < w.semaphore q) → is_open (x.first + d) (x.own + q) v ≡ true
    open_from (inl l) = or_left (nat_lt 0 (get_or v.counters (x.first + d) 0)) (nat_lt 0 (get_or v.semaphores (x.own + q) 0)) (lt-ltb 0 _ (let e = S.counters d c.0 c.1 in omega (arith, l, e)))
    open_from (inr l) = or_right (nat_lt 0 (get_or v.counters (x.first + d) 0)) (nat_lt 0 (get_or v.semaphores (x.own + q) 0)) (lt-ltb 0 _ (let e = S.semaphores q m k in omega (arith, l, e)))

    can_enter : (0 < w.counter d) ⊎ (0 < w.semaphore q) → w.counter d + 1 < 2 ^ 64 → CanEnter (x.first + d) (x.own + q) v
    can_enter o l = (λ z. some o z, let e = S.counters d c.0 c.1 in omega (arith, l, e))
      where
        some : (0 < w.counter d) ⊎ (0 < w.semaphore q) → get_or v.counters (x.first + d) 0 ≡ 0 → 0 < get_or v.semaphores (x.own + q) 0
        some (inl y) z = absurd (let e = S.counters d c.0 c.1 in omega (arith, y, z, e))
        some (inr y) z = let e = S.semaphores q m k in omega (arith, y, e)

    can_leave : 0 < w.counter d → w.semaphore q + 1 < 2 ^ 64 → CanLeave (x.first + d) (x.own + q) v
    can_leave o l = ((let e = S.counters d c.0 c.1 in omega (arith, o, e)), (let e = S.semaphores q m k in omega (arith, l, e)))

-- what a start wants of the path's values beside that it passes, and what a finish wants of them
abbrev pub StartFits : LeanTerm → Values → Type 0
StartFits nothing w = Unit {0}
StartFits (does (Plain q)) w = Unit {0}
StartFits (does (Braced c q)) w = w.counter c + 1 < 2 ^ 64
StartFits (does (Counted c q)) w = w.counter c + 1 < 2 ^ 64
StartFits (limits c) w = Unit {0}

abbrev pub FinishFits : LeanTerm → Values → Type 0
FinishFits nothing w = Unit {0}
FinishFits (does (Plain q)) w = w.semaphore q + 1 < 2 ^ 64
FinishFits (does (Braced c q)) w = (0 < w.counter c) × (w.semaphore q + 1 < 2 ^ 64)
FinishFits (does (Counted c q)) w = (0 < w.counter c) × (w.semaphore q + 1 < 2 ^ 64) × (w.bound c + 1 < 2 ^ 64)
FinishFits (limits c) w = w.bound c + 1 < 2 ^ 64

true_false : true ≡ false → ⊥
true_false z = cc

lt_to : (i j : ℕ) → nat_lt i j ≡ true → i < j
lt_to i j l = elim (cases_lt i j) [ inl y ↦ y | inr y ↦ absurd (true_false (sym l ∙ le-ltb i j y)) ]

and_both : (a b : Bool) → a ≡ true → b ≡ true → (a && b) ≡ true
and_both a b e f = rw (e, f) refl

module _ (x : Sited) (v : Levels) (w : Values) (S : Shows v w x) (places : HasPlaces (length v.semaphores) (length v.counters) x) where
  -- the values with one taken from a bound's semaphore
  less : (d : ℕ) → HasBound x.tree 0 d → Shows (record v { semaphores = taken v.semaphores (bound_number x d) }) (record w { bound = take_one w.bound d }) x
  less d h = shows_bound x v w S d _ _ h (places.limits d h) (ap (λ n. n - 1) (S.limits d h))

  less_places : (d : ℕ) → HasPlaces (length (taken v.semaphores (bound_number x d))) (length v.counters) x
  less_places d = subst (λ n. HasPlaces n (length v.counters) x) (sym (length-set v.semaphores (bound_number x d) (get_or v.semaphores (bound_number x d) 0 - 1))) places

  pub passes_to : (t : LeanTerm) → TouchesKept x.tree t → can_pass (prologue_left x t) v ≡ true → LeanPasses t w
  passes_to nothing k p = tt
  passes_to (does (Plain q)) k p = let y = lt_to 0 _ p in let e = S.semaphores q k.0 k.1 in omega (arith, y, e)
  passes_to (does (Braced c q)) k p = open_to x v w S places c q k.0 k.1 k.2 p
  passes_to (does (Counted c q)) k p =
      let b = and_parts (nat_lt 0 (get_or v.semaphores (bound_number x c) 0)) (is_open (x.first + c) (x.own + q) v) p in
      (open_to x v w S places c q k.0 k.1.0 k.1.1 b.1, (let y = lt_to 0 _ b.0 in let e = S.limits c k.2 in omega (arith, y, e)))
  passes_to (limits c) k p = let y = lt_to 0 _ p in let e = S.limits c k in omega (arith, y, e)

  pub passes_from : (t : LeanTerm) → TouchesKept x.tree t → LeanPasses t w → can_pass (prologue_left x t) v ≡ true
  passes_from nothing k p = refl
  passes_from (does (Plain q)) k p = lt-ltb 0 _ (let e = S.semaphores q k.0 k.1 in omega (arith, p, e))
  passes_from (does (Braced c q)) k p = open_from x v w S places c q k.0 k.1 k.2 p
  passes_from (does (Counted c q)) k p = and_both _ _ (lt-ltb 0 _ (let y = p.1 in let e = S.limits c k.2 in omega (arith, y, e))) (open_from x v w S places c q k.0 k.1.0 k.1.1 p.0)
  passes_from (limits c) k p = lt-ltb 0 _ (let e = S.limits c k in omega (arith, p, e))

  pub shows_started : (t : LeanTerm) → TouchesKept x.tree t → Shows (started (prologue_left x t) v) (lean_started t w) x
  shows_started nothing k = S
  shows_started (does (Plain q)) k = shows_semaphore x v w S q _ _ k.0 (places.semaphores q k.0 k.1) (ap (λ n. n - 1) (S.semaphores q k.0 k.1))
  shows_started (does (Braced c q)) k = shows_entered x v w S places c q k.0 k.1 k.2
  shows_started (does (Counted c q)) k =
      shows_entered x (record v { semaphores = taken v.semaphores (bound_number x c) }) (record w { bound = take_one w.bound c }) (less c k.2) (less_places c) c q k.0 k.1.0 k.1.1
  shows_started (limits c) k = less c k

  pub can_start : (t : LeanTerm) → TouchesKept x.tree t → LeanPasses t w → StartFits t w → CanStart (prologue_left x t) v
  can_start nothing k p f = tt
  can_start (does (Plain q)) k p f = let e = S.semaphores q k.0 k.1 in omega (arith, p, e)
  can_start (does (Braced c q)) k p f = can_enter x v w S places c q k.0 k.1 k.2 p f
  can_start (does (Counted c q)) k p f = (
    (let y = p.1 in let e = S.limits c k.2 in omega (arith, y, e)),
    can_enter x (record v { semaphores = taken v.semaphores (bound_number x c) }) (record w { bound = take_one w.bound c }) (less c k.2) (less_places c) c q k.0 k.1.0 k.1.1 p.0 f,
  )
  can_start (limits c) k p f = let e = S.limits c k in omega (arith, p, e)

  -- the values after an execution of braces has ended
  left_places : (c q : ℕ) → HasPlaces (length (left c q v).semaphores) (length (left c q v).counters) x
  left_places c q =
      subst (λ n. HasPlaces (length (left c q v).semaphores) n x) (sym (length-set v.counters c (get_or v.counters c 0 - 1)))
      (go (get_or v.counters c 0 == 1))
    where
      go : (b : Bool) → HasPlaces (length (cond b (given v.semaphores q) v.semaphores)) (length v.counters) x
      go true = subst (λ n. HasPlaces n (length v.counters) x) (sym (length-set v.semaphores q (get_or v.semaphores q 0 + 1))) places
      go false = places

  pub shows_finished : (t : LeanTerm) → TouchesKept x.tree t → Shows (finished (epilogue_left x t) v) (lean_finished t w) x
  shows_finished nothing k = S
  shows_finished (does (Plain q)) k = shows_semaphore x v w S q _ _ k.0 (places.semaphores q k.0 k.1) (ap (λ n. n + 1) (S.semaphores q k.0 k.1))
  shows_finished (does (Braced c q)) k = shows_left x v w S places c q k.0 k.1 k.2
  shows_finished (does (Counted c q)) k =
      let B = shows_left x v w S places c q k.0 k.1.0 k.1.1 in
      shows_bound x (left (x.first + c) (x.own + q) v) (lean_finished (does (Braced c q)) w) B c _ _ k.2 ((left_places (x.first + c) (x.own + q)).limits c k.2) (ap (λ n. n + 1) (B.limits c k.2))
  shows_finished (limits c) k = shows_bound x v w S c _ _ k (places.limits c k) (ap (λ n. n + 1) (S.limits c k))

  pub can_finish : (t : LeanTerm) → TouchesKept x.tree t → FinishFits t w → CanFinish (epilogue_left x t) v
  can_finish nothing k f = tt
  can_finish (does (Plain q)) k f = let e = S.semaphores q k.0 k.1 in omega (arith, f, e)
  can_finish (does (Braced c q)) k f = can_leave x v w S places c q k.0 k.1 k.2 f.0 f.1
  can_finish (does (Counted c q)) k f = (
    can_leave x v w S places c q k.0 k.1.0 k.1.1 f.0 f.1,
    (let B = shows_left x v w S places c q k.0 k.1.0 k.1.1 in let e = B.limits c k.2 in let y = f.2 in omega (arith, y, e)),
  )
  can_finish (limits c) k f = let e = S.limits c k in omega (arith, f, e)

-- the numbers of its terms stand in the table
module _ (x : Sited) (n m : ℕ) (places : HasPlaces n m x) where
  pub prologue_within : (t : LeanTerm) → TouchesKept x.tree t → PrologueWithin n m (prologue_left x t)
  prologue_within nothing k = tt
  prologue_within (does (Plain q)) k = places.semaphores q k.0 k.1
  prologue_within (does (Braced c q)) k = (places.counters c k.0.0 k.0.1, places.semaphores q k.1 k.2)
  prologue_within (does (Counted c q)) k = (places.counters c k.0.0 k.0.1, places.semaphores q k.1.0 k.1.1, places.limits c k.2)
  prologue_within (limits c) k = places.limits c k

  pub epilogue_within : (t : LeanTerm) → TouchesKept x.tree t → EpilogueWithin n m (epilogue_left x t)
  epilogue_within nothing k = tt
  epilogue_within (does (Plain q)) k = places.semaphores q k.0 k.1
  epilogue_within (does (Braced c q)) k = (places.counters c k.0.0 k.0.1, places.semaphores q k.1 k.2)
  epilogue_within (does (Counted c q)) k = (places.counters c k.0.0 k.0.1, places.semaphores q k.1.0 k.1.1, places.limits c k.2)
  epilogue_within (limits c) k = places.limits c k

-- outside the numbers of a path the values agree, and there are as many
pub record Off (x : Sited) (v w : Levels) : Type 0 where
  pub semaphores : (i : ℕ) → (i < x.own) ⊎ (x.own + semaphores_in x.tree ≤ i) → get_or v.semaphores i 0 ≡ get_or w.semaphores i 0
  pub counters : (i : ℕ) → (i < x.first) ⊎ (x.first + braces x.tree ≤ i) → get_or v.counters i 0 ≡ get_or w.counters i 0
  pub places : (length v.semaphores ≡ length w.semaphores) × (length v.counters ≡ length w.counters)

out_not : (k n q i : ℕ) → (i < k) ⊎ (k + n ≤ i) → k ≤ q → q < k + n → i ≡ q → ⊥
out_not k n q i (inl l) a b z = omega (arith, l, a, z)
out_not k n q i (inr l) a b z = omega (arith, l, b, z)

module _ (x : Sited) where
  off_refl : (v : Levels) → Off x v v
  off_refl v = record { semaphores = λ i o. refl; counters = λ i o. refl; places = (refl, refl) }

  off_trans : (u v w : Levels) → Off x u v → Off x v w → Off x u w
  off_trans u v w o p = record { semaphores = λ i q. o.semaphores i q ∙ p.semaphores i q; counters = λ i q. o.counters i q ∙ p.counters i q; places = (o.places.0 ∙ p.places.0, o.places.1 ∙ p.places.1) }

  off_semaphore : (q y : ℕ) (v : Levels) → x.own ≤ q → q < x.own + semaphores_in x.tree → Off x (record v { semaphores = set v.semaphores q y }) v
  off_semaphore q y v a b = record { semaphores = λ i o. get_or-set_other v.semaphores q i y 0 (out_not x.own (semaphores_in x.tree) q i o a b); counters = λ i o. refl; places = (length-set v.semaphores q y, refl) }

  off_counter : (d y : ℕ) (v : Levels) → d < braces x.tree → Off x (record v { counters = set v.counters (x.first + d) y }) v
  off_counter d y v l = record { semaphores = λ i o. refl; counters = λ i o. get_or-set_other v.counters (x.first + d) i y 0 (out_not x.first (braces x.tree) (x.first + d) i o (omega arith) (omega (arith, l))); places = (refl, length-set v.counters (x.first + d) y) }

  off_bound : (d y : ℕ) (v : Levels) → HasBound x.tree 0 d → Off x (record v { semaphores = set v.semaphores (bound_number x d) y }) v
  off_bound d y v h = let l = rank_low x.tree 0 d h in off_semaphore (bound_number x d) y v (omega arith) (omega (arith, l))

  off_both : (b : Bool) (d q y s : ℕ) (v : Levels) → d < braces x.tree → q ≤ semicolons x.tree
      → Off x (record { semaphores = cond b (set v.semaphores (x.own + q) y) v.semaphores; counters = set v.counters (x.first + d) s }) v
  off_both true d q y s v l m =
      let u : Levels = record v { semaphores = set v.semaphores (x.own + q) y } in
      off_trans (record u { counters = set u.counters (x.first + d) s }) u v (off_counter d s u l) (off_semaphore (x.own + q) y v (omega arith) (omega (arith, m)))
  off_both false d q y s v l m = off_counter d s v l

  pub off_started : (t : LeanTerm) → TouchesKept x.tree t → (v : Levels) → Off x (started (prologue_left x t) v) v
  off_started nothing k v = off_refl v
  off_started (does (Plain q)) k v = let m = k.0 in off_semaphore (x.own + q) _ v (omega arith) (omega (arith, m))
  off_started (does (Braced c q)) k v = off_both _ c q _ _ v k.0.0 k.1
  off_started (does (Counted c q)) k v =
      let u : Levels = record v { semaphores = taken v.semaphores (bound_number x c) } in
      off_trans (entered (x.first + c) (x.own + q) u) u v (off_both _ c q _ _ u k.0.0 k.1.0) (off_bound c _ v k.2)
  off_started (limits c) k v = off_bound c _ v k

  pub off_finished : (t : LeanTerm) → TouchesKept x.tree t → (v : Levels) → Off x (finished (epilogue_left x t) v) v
  off_finished nothing k v = off_refl v
  off_finished (does (Plain q)) k v = let m = k.0 in off_semaphore (x.own + q) _ v (omega arith) (omega (arith, m))
  off_finished (does (Braced c q)) k v = off_both _ c q _ _ v k.0.0 k.1
  off_finished (does (Counted c q)) k v =
      let u : Levels = left (x.first + c) (x.own + q) v in
      off_trans (record u { semaphores = given u.semaphores (bound_number x c) }) u v (off_bound c _ u k.2) (off_both _ c q _ _ v k.0.0 k.1.0)
  off_finished (limits c) k v = off_bound c _ v k
