-- One table with numbers that count through the paths holds the values of each path.
use Rattle.std.proofs.Common.{◌≡◌, ◌==◌, if◌then◌else◌, ◌<◌, ◌≤◌, ◌+◌, ◌-◌, ◌↔◌, ℕ, List, [], ◌∷◌, Bool, true, false, refl, sym, ap, ◌∙◌, inl, inr, arith}
use Rattle.std.proofs.lemmas.Bool.{eq-eqb, ne_eqb, cond-true, cond-false, cases_eq, cases_lt}
use Rattle.path_model.specs.declared.history.Event.{Event}
use Rattle.path_model.specs.declared.history.Event.TheVariants.{Began, Ended}
use Rattle.path_model.specs.Trees.{Tree, NoBraces, has}
use Rattle.path_model.specs.Histories.{op_of}
use Rattle.path_model.specs.Machine.{semicolons, braces, Term, Plain, Braced, Counted, prologue, epilogue, Values, put, take_one, started, finished, Passes, bound_at, opening, changed}
use Rattle.path_model.specs.AmongOthers.{values_among}
use Rattle.path_model.specs.Legal.{Every}
use Rattle.path_model.specs.Flat.{counted_braces, rank, HasBound, semaphores_in, Sited, sited, first_bound, bound_number, BracedAt, in_table, Table, TablePasses, table_started, table_finished, one_given, at_site, flat_changed, flat_from, owns, bound_openings, flat_opening, Shows, OneTableShowsAll}
use Rattle.path_model.proofs.Upward.{has_names}
use Rattle.path_model.proofs.Moves.{Out, put_other}
use Rattle.path_model.proofs.FlatNumbers.{InTable, prologue_has, epilogue_has, rank_low, rank_apart, opening_out, opening_of, none_counted}

-- the table v holds the path's own values w
pub record Held (x : Sited) (v : Table) (w : Values) : Type 0 where
  pub semaphores : (q : ℕ) → q ≤ semicolons x.tree → v.semaphore (x.own + q) ≡ w.semaphore q
  pub counters : (c : ℕ) → c < braces x.tree → v.counter (x.first + c) ≡ w.counter c
  pub limits : (c : ℕ) → HasBound x.tree 0 c → v.semaphore (bound_number x c) ≡ w.bound c

-- a change at a shifted number
same_eqb : (k i q : ℕ) → (k + i == k + q) ≡ (i == q)
same_eqb k i q = elim (cases_eq i q) [
  | inl e ↦ eq-eqb (k + i) (k + q) (omega (arith, e)) ∙ sym (eq-eqb i q e)
  | inr n ↦ ne_eqb (k + i) (k + q) (λ z. n (omega (arith, z))) ∙ sym (ne_eqb i q n)
]

put_shift : (f g : ℕ → ℕ) (k q y z i : ℕ) → y ≡ z → f (k + i) ≡ g i → put f (k + q) y (k + i) ≡ put g q z i
put_shift f g k q y z i e d = ap (λ b. if b then y else f (k + i)) (same_eqb k i q) ∙ ap (λ u. if i == q then u else f (k + i)) e ∙ ap (λ u. if i == q then z else u) d

put_if : (b : Bool) (f : ℕ → ℕ) (k y i : ℕ) → (i ≡ k → ⊥) → (if b then put f k y else f) i ≡ f i
put_if true f k y i n = put_other f k y i n
put_if false f k y i n = refl

module _ (x : Sited) (v : Table) (w : Values) (S : Held x v w) where
  abbrev k : ℕ
  k = x.own

  abbrev c : ℕ
  c = x.first

  beyond : (q d : ℕ) → q ≤ semicolons x.tree → bound_number x d ≡ k + q → ⊥
  beyond q d l e = omega (arith, l, e)

  -- a bound's semaphore has no other's number
  limit_put : (d e : ℕ) (y z : ℕ) → HasBound x.tree 0 d → HasBound x.tree 0 e → y ≡ z → put v.semaphore (bound_number x d) y (bound_number x e) ≡ put w.bound d z e
  limit_put d e y z g h p = elim (cases_eq e d) [
    | inl q ↦
        cond-true (bound_number x e == bound_number x d) y (v.semaphore (bound_number x e)) (eq-eqb (bound_number x e) (bound_number x d) (ap (bound_number x) q))
        ∙ p ∙ sym (cond-true (e == d) z (w.bound e) (eq-eqb e d q))
    | inr n ↦
        put_other v.semaphore (bound_number x d) y (bound_number x e) (λ q. n (rank_apart x.tree e d h g (omega (arith, q))))
        ∙ S.limits e h ∙ sym (put_other w.bound d z e n)
  ]

  held_bound : (d y z : ℕ) → HasBound x.tree 0 d → y ≡ z → Held x (record v { semaphore = put v.semaphore (bound_number x d) y }) (record w { bound = put w.bound d z })
  held_bound d y z h e = record {
    semaphores = λ q l. put_other v.semaphore (bound_number x d) y (k + q) (λ p. beyond q d l (sym p)) ∙ S.semaphores q l;
    counters = S.counters;
    limits = λ i g. limit_put d i y z h g e;
  }

  -- through a counter that has the value e
  sem_if : (e d q : ℕ) (y z : ℕ) → d < braces x.tree → q ≤ semicolons x.tree → y ≡ z → (i : ℕ) → i ≤ semicolons x.tree
      → (if v.counter (c + d) == e then put v.semaphore (k + q) y else v.semaphore) (k + i) ≡ (if w.counter d == e then put w.semaphore q z else w.semaphore) i
  sem_if e d q y z l m p i n =
      ap (λ u. (if u == e then put v.semaphore (k + q) y else v.semaphore) (k + i)) (S.counters d l)
      ∙ elim (w.counter d == e) as (λ b. (if b then put v.semaphore (k + q) y else v.semaphore) (k + i) ≡ (if b then put w.semaphore q z else w.semaphore) i) [ true ↦ put_shift v.semaphore w.semaphore k q y z i p (S.semaphores i n) | false ↦ S.semaphores i n ]

  held_plain : (q y z : ℕ) → q ≤ semicolons x.tree → y ≡ z → Held x (record v { semaphore = put v.semaphore (k + q) y }) (record w { semaphore = put w.semaphore q z })
  held_plain q y z l e = record {
    semaphores = λ i n. put_shift v.semaphore w.semaphore k q y z i e (S.semaphores i n);
    counters = S.counters;
    limits = λ i h. put_other v.semaphore (k + q) y (bound_number x i) (beyond q i l) ∙ S.limits i h;
  }

  held_started_braced : (d q : ℕ) → d < braces x.tree → q ≤ semicolons x.tree → Held x (table_started (BracedAt (c + d) (k + q)) v) (started (Braced d q) w)
  held_started_braced d q l m = record {
    semaphores = λ i n. sem_if 0 d q _ _ l m (ap (λ u. u - 1) (S.semaphores q m)) i n;
    counters = λ i n. put_shift v.counter w.counter c d _ _ i (ap (λ u. u + 1) (S.counters d l)) (S.counters i n);
    limits = λ i h. put_if (v.counter (c + d) == 0) v.semaphore (k + q) _ (bound_number x i) (beyond q i m) ∙ S.limits i h;
  }

  held_finished_braced : (d q : ℕ) → d < braces x.tree → q ≤ semicolons x.tree → Held x (table_finished (BracedAt (c + d) (k + q)) v) (finished (Braced d q) w)
  held_finished_braced d q l m = record {
    semaphores = λ i n. sem_if 1 d q _ _ l m (ap (λ u. u + 1) (S.semaphores q m)) i n;
    counters = λ i n. put_shift v.counter w.counter c d _ _ i (ap (λ u. u - 1) (S.counters d l)) (S.counters i n);
    limits = λ i h. put_if (v.counter (c + d) == 1) v.semaphore (k + q) _ (bound_number x i) (beyond q i m) ∙ S.limits i h;
  }

held_started : (x : Sited) (v : Table) (w : Values) → Held x v w → (t : Term) → InTable x.tree t → Held x (table_started (in_table x t) v) (started t w)
held_started x v w S (Plain q) l = held_plain x v w S q _ _ l (ap (λ u. u - 1) (S.semaphores q l))
held_started x v w S (Braced d q) l = held_started_braced x v w S d q l.0 l.1
held_started x v w S (Counted d q) l =
    held_started_braced x (record v { semaphore = take_one v.semaphore (bound_number x d) }) (record w { bound = take_one w.bound d })
    (held_bound x v w S d _ _ l.2 (ap (λ u. u - 1) (S.limits d l.2))) d q l.0 l.1

held_finished : (x : Sited) (v : Table) (w : Values) → Held x v w → (t : Term) → InTable x.tree t → Held x (table_finished (in_table x t) v) (finished t w)
held_finished x v w S (Plain q) l = held_plain x v w S q _ _ l (ap (λ u. u + 1) (S.semaphores q l))
held_finished x v w S (Braced d q) l = held_finished_braced x v w S d q l.0 l.1
held_finished x v w S (Counted d q) l =
    let B = held_finished_braced x v w S d q l.0 l.1 in
    held_bound x (table_finished (BracedAt (x.first + d) (x.own + q)) v) (finished (Braced d q) w) B d _ _ l.2 (ap (λ u. u + 1) (B.limits d l.2))

-- a term asks of the table what it asks of the path's own values
module _ (x : Sited) (v : Table) (w : Values) (S : Held x v w) where
  held_either : (d q : ℕ) → d < braces x.tree → q ≤ semicolons x.tree → TablePasses (BracedAt (x.first + d) (x.own + q)) v ↔ Passes (Braced d q) w
  held_either d q l m = (to, from)
    where
      to : TablePasses (BracedAt (x.first + d) (x.own + q)) v → Passes (Braced d q) w
      to (inl p) = inl (let e = S.counters d l in omega (arith, p, e))
      to (inr p) = inr (let e = S.semaphores q m in omega (arith, p, e))

      from : Passes (Braced d q) w → TablePasses (BracedAt (x.first + d) (x.own + q)) v
      from (inl p) = inl (let e = S.counters d l in omega (arith, p, e))
      from (inr p) = inr (let e = S.semaphores q m in omega (arith, p, e))

  held_passes : (t : Term) → InTable x.tree t → TablePasses (in_table x t) v ↔ Passes t w
  held_passes (Plain q) l = let e = S.semaphores q l in (λ p. omega (arith, p, e), λ p. omega (arith, p, e))
  held_passes (Braced d q) l = held_either d q l.0 l.1
  held_passes (Counted d q) l =
      let e = S.limits d l.2 in
      let i = held_either d q l.0 l.1 in
      (λ p. (i.0 p.0, (let y = p.1 in omega (arith, y, e))), λ p. (i.1 p.0, (let y = p.1 in omega (arith, y, e))))

  held_shows : Shows x v w
  held_shows = record { semaphores = S.semaphores; counters = S.counters; limits = S.limits; passes = λ a n. held_passes (prologue x.tree a) (prologue_has x.tree a (has_names x.tree a n)) }

-- outside k to k + n and c to c + j the values agree
pub record Off (k n c j : ℕ) (v w : Table) : Type 0 where
  pub semaphores : (i : ℕ) → Out k n i → v.semaphore i ≡ w.semaphore i
  pub counters : (i : ℕ) → Out c j i → v.counter i ≡ w.counter i

off_refl : (k n c j : ℕ) (v : Table) → Off k n c j v v
off_refl k n c j v = record { semaphores = λ i o. refl; counters = λ i o. refl }

off_trans : (k n c j : ℕ) (u v w : Table) → Off k n c j u v → Off k n c j v w → Off k n c j u w
off_trans k n c j u v w o p = record { semaphores = λ i q. o.semaphores i q ∙ p.semaphores i q; counters = λ i q. o.counters i q ∙ p.counters i q }

out_not : (k n q i : ℕ) → Out k n i → k ≤ q → q < k + n → i ≡ q → ⊥
out_not k n q i (inl l) a b z = omega (arith, l, a, z)
out_not k n q i (inr l) a b z = omega (arith, l, b, z)

module _ (x : Sited) where
  -- the two tables agree but at the path's own numbers
  abbrev Apart : Table → Table → Type 0
  Apart v w = Off x.own (semaphores_in x.tree) x.first (braces x.tree) v w

  apart_put : (q y : ℕ) (v : Table) → x.own ≤ q → q < x.own + semaphores_in x.tree → Apart (record v { semaphore = put v.semaphore q y }) v
  apart_put q y v a b = record { semaphores = λ i o. put_other v.semaphore q y i (out_not x.own (semaphores_in x.tree) q i o a b); counters = λ i o. refl }

  apart_limit : (d y : ℕ) (v : Table) → HasBound x.tree 0 d → Apart (record v { semaphore = put v.semaphore (bound_number x d) y }) v
  apart_limit d y v h = let l = rank_low x.tree 0 d h in apart_put (bound_number x d) y v (omega arith) (omega (arith, l))

  apart_started : (d q : ℕ) (v : Table) → d < braces x.tree → q ≤ semicolons x.tree → Apart (table_started (BracedAt (x.first + d) (x.own + q)) v) v
  apart_started d q v l m = record {
    semaphores = λ i o. put_if (v.counter (x.first + d) == 0) v.semaphore (x.own + q) _ i (out_not x.own (semaphores_in x.tree) (x.own + q) i o (omega arith) (omega (arith, m)));
    counters = λ i o. put_other v.counter (x.first + d) _ i (out_not x.first (braces x.tree) (x.first + d) i o (omega arith) (omega (arith, l)));
  }

  apart_finished : (d q : ℕ) (v : Table) → d < braces x.tree → q ≤ semicolons x.tree → Apart (table_finished (BracedAt (x.first + d) (x.own + q)) v) v
  apart_finished d q v l m = record {
    semaphores = λ i o. put_if (v.counter (x.first + d) == 1) v.semaphore (x.own + q) _ i (out_not x.own (semaphores_in x.tree) (x.own + q) i o (omega arith) (omega (arith, m)));
    counters = λ i o. put_other v.counter (x.first + d) _ i (out_not x.first (braces x.tree) (x.first + d) i o (omega arith) (omega (arith, l)));
  }

  off_started : (t : Term) (v : Table) → InTable x.tree t → Apart (table_started (in_table x t) v) v
  off_started (Plain q) v l = apart_put (x.own + q) _ v (omega arith) (omega (arith, l))
  off_started (Braced d q) v l = apart_started d q v l.0 l.1
  off_started (Counted d q) v l =
      let u : Table = record v { semaphore = take_one v.semaphore (bound_number x d) } in
      off_trans x.own (semaphores_in x.tree) x.first (braces x.tree) (table_started (BracedAt (x.first + d) (x.own + q)) u) u v (apart_started d q u l.0 l.1) (apart_limit d _ v l.2)

  off_finished : (t : Term) (v : Table) → InTable x.tree t → Apart (table_finished (in_table x t) v) v
  off_finished (Plain q) v l = apart_put (x.own + q) _ v (omega arith) (omega (arith, l))
  off_finished (Braced d q) v l = apart_finished d q v l.0 l.1
  off_finished (Counted d q) v l =
      let u : Table = table_finished (BracedAt (x.first + d) (x.own + q)) v in
      off_trans x.own (semaphores_in x.tree) x.first (braces x.tree) (one_given (bound_number x d) u) u v (apart_limit d _ u l.2) (apart_finished d q v l.0 l.1)

  -- one path's share of an event
  abbrev shared : Event → Table → Table
  shared e v = if has x.tree (op_of e) then at_site x e v else v

  share_off : (e : Event) (v : Table) → Apart (shared e v) v
  share_off e v = go (has x.tree (op_of e)) refl
    where
      on : (e : Event) → has x.tree (op_of e) ≡ true → Apart (at_site x e v) v
      on (Began a) h = off_started (prologue x.tree a) v (prologue_has x.tree a h)
      on (Ended a) h = off_finished (epilogue x.tree a) v (epilogue_has x.tree a h)

      go : (b : Bool) → has x.tree (op_of e) ≡ b → Apart (if b then at_site x e v else v) v
      go true h = on e h
      go false h = off_refl x.own (semaphores_in x.tree) x.first (braces x.tree) v

  share_held : (e : Event) (v : Table) (w : Values) → Held x v w → Held x (shared e v) (if has x.tree (op_of e) then changed x.tree e w else w)
  share_held e v w S = go (has x.tree (op_of e)) refl
    where
      on : (e : Event) → has x.tree (op_of e) ≡ true → Held x (at_site x e v) (changed x.tree e w)
      on (Began a) h = held_started x v w S (prologue x.tree a) (prologue_has x.tree a h)
      on (Ended a) h = held_finished x v w S (epilogue x.tree a) (epilogue_has x.tree a h)

      go : (b : Bool) → has x.tree (op_of e) ≡ b → Held x (if b then at_site x e v else v) (if b then changed x.tree e w else w)
      go true h = on e h
      go false h = S

abbrev site : Tree → ℕ → ℕ → Sited
site s k c = record { tree = s; own = k; first = c }

-- the paths from k and c on touch nothing below
pub record Low (k c : ℕ) (v w : Table) : Type 0 where
  pub semaphores : (i : ℕ) → i < k → v.semaphore i ≡ w.semaphore i
  pub counters : (i : ℕ) → i < c → v.counter i ≡ w.counter i

flat_low : (xs : List (ℕ × Tree)) (k c : ℕ) (e : Event) (v : Table) → Low k c (flat_changed (sited k c xs) e v) v
flat_low [] k c e v = record { semaphores = λ i l. refl; counters = λ i l. refl }
flat_low (x ∷ xs) k c e v =
    let r = flat_low xs (k + semaphores_in x.1) (c + braces x.1) e (shared (site x.1 k c) e v) in
    let o = share_off (site x.1 k c) e v in
    record {
      semaphores = λ i l. r.semaphores i (omega (arith, l)) ∙ o.semaphores i (inl l);
      counters = λ i l. r.counters i (omega (arith, l)) ∙ o.counters i (inl l);
    }

-- what the later paths hold doesn't change by what is below
held_above : (g : Tree → Values) (xs : List (ℕ × Tree)) (k c n j k' c' : ℕ) (v w : Table) → Off k n c j v w → k + n ≤ k' → c + j ≤ c'
    → Every (λ x. Held x w (g x.tree)) (sited k' c' xs) → Every (λ x. Held x v (g x.tree)) (sited k' c' xs)
held_above g [] k c n j k' c' v w o a b S = tt
held_above g (x ∷ xs) k c n j k' c' v w o a b S = (
  record {
    semaphores = λ q l. o.semaphores (k' + q) (inr (omega (arith, a))) ∙ S.0.semaphores q l;
    counters = λ d l. o.counters (c' + d) (inr (omega (arith, b))) ∙ S.0.counters d l;
    limits = λ d h. o.semaphores (bound_number (site x.1 k' c') d) (inr (omega (arith, a))) ∙ S.0.limits d h;
  },
  held_above g xs k c n j (k' + semaphores_in x.1) (c' + braces x.1) v w o (omega (arith, a)) (omega (arith, b)) S.1,
)

abbrev next : Event → (Tree → Values) → Tree → Values
next e g s = if has s (op_of e) then changed s e (g s) else g s

flat_step : (g : Tree → Values) (e : Event) (xs : List (ℕ × Tree)) (k c : ℕ) (v : Table) → Every (λ x. Held x v (g x.tree)) (sited k c xs)
    → Every (λ x. Held x (flat_changed (sited k c xs) e v) (next e g x.tree)) (sited k c xs)
flat_step g e [] k c v S = tt
flat_step g e (x ∷ xs) k c v S = (head, flat_step g e xs (k + semaphores_in x.1) (c + braces x.1) (shared (site x.1 k c) e v) (held_above g xs k c (semaphores_in x.1) (braces x.1) (k + semaphores_in x.1) (c + braces x.1) (shared (site x.1 k c) e v) v (share_off (site x.1 k c) e v) (omega arith) (omega arith) S.1))
  where
    own : Held (site x.1 k c) (shared (site x.1 k c) e v) (next e g x.1)
    own = share_held (site x.1 k c) e v (g x.1) S.0

    r : Low (k + semaphores_in x.1) (c + braces x.1) (flat_changed (sited (k + semaphores_in x.1) (c + braces x.1) xs) e (shared (site x.1 k c) e v)) (shared (site x.1 k c) e v)
    r = flat_low xs (k + semaphores_in x.1) (c + braces x.1) e (shared (site x.1 k c) e v)

    head : Held (site x.1 k c) (flat_changed (sited (k + semaphores_in x.1) (c + braces x.1) xs) e (shared (site x.1 k c) e v)) (next e g x.1)
    head = record {
      semaphores = λ q l. r.semaphores (k + q) (omega (arith, l)) ∙ own.semaphores q l;
      counters = λ d l. r.counters (c + d) (omega (arith, l)) ∙ own.counters d l;
      limits = λ d h. (let l = rank_low x.1 0 d h in r.semaphores (bound_number (site x.1 k c) d) (omega (arith, l))) ∙ own.limits d h;
    }

flat_run : (xs : List (ℕ × Tree)) (h : List Event) (g : Tree → Values) (v : Table) → Every (λ x. Held x v (g x.tree)) (sited 0 0 xs)
    → Every (λ x. Held x (flat_from (sited 0 0 xs) v h) (values_among x.tree (g x.tree) h)) (sited 0 0 xs)
flat_run xs [] g v S = S
flat_run xs (e ∷ h) g v S = flat_run xs h (next e g) (flat_changed (sited 0 0 xs) e v) (flat_step g e xs 0 0 v S)

-- the opening values
pub owns_low : (xs : List (ℕ × Tree)) (k c i : ℕ) → i < k → owns (sited k c xs) i ≡ 0
owns_low [] k c i l = refl
owns_low (x ∷ xs) k c i l =
    let z : ◌≡◌ {A = ℕ} (if i == k then 1 else 0) 0 = cond-false (i == k) 1 0 (ne_eqb i k (λ q. omega (arith, l, q))) in
    let r = owns_low xs (k + semaphores_in x.1) (c + braces x.1) i (omega (arith, l)) in
    omega (arith, z, r)

pub bounds_low : (xs : List (ℕ × Tree)) (k c i : ℕ) → i < k → bound_openings (sited k c xs) i ≡ 0
bounds_low [] k c i l = refl
bounds_low (x ∷ xs) k c i l =
    let z = opening_out x.1 (first_bound (site x.1 k c)) i (inl (omega (arith, l))) in
    let r = bounds_low xs (k + semaphores_in x.1) (c + braces x.1) i (omega (arith, l)) in
    omega (arith, z, r)

same_own : (k q : ℕ) → (k + q == k) ≡ (q == 0)
same_own k q = elim (cases_eq q 0) [
  | inl e ↦ eq-eqb (k + q) k (omega (arith, e)) ∙ sym (eq-eqb q 0 e)
  | inr n ↦ ne_eqb (k + q) k (λ z. n (omega (arith, z))) ∙ sym (ne_eqb q 0 n)
]

opening_held : (xs : List (ℕ × Tree)) (k c : ℕ) (v : Table) → ((i : ℕ) → k ≤ i → v.semaphore i ≡ owns (sited k c xs) i + bound_openings (sited k c xs) i) → ((i : ℕ) → v.counter i ≡ 0)
    → Every (λ x. Held x v (opening x.tree)) (sited k c xs)
opening_held [] k c v f g = tt
opening_held (x ∷ xs) k c v f g = (head, opening_held xs (k + semaphores_in x.1) (c + braces x.1) v f' g)
  where
    f' : (i : ℕ) → (k + semaphores_in x.1) ≤ i → v.semaphore i ≡ owns (sited (k + semaphores_in x.1) (c + braces x.1) xs) i + bound_openings (sited (k + semaphores_in x.1) (c + braces x.1) xs) i
    f' i l =
        let y = f i (omega (arith, l)) in
        let z : ◌≡◌ {A = ℕ} (if i == k then 1 else 0) 0 = cond-false (i == k) 1 0 (ne_eqb i k (λ q. omega (arith, l, q))) in
        let o = opening_out x.1 (first_bound (site x.1 k c)) i (inr (omega (arith, l))) in
        omega (arith, y, z, o)

    sem : (q : ℕ) → q ≤ semicolons x.1 → v.semaphore (k + q) ≡ (if q == 0 then 1 else 0)
    sem q l =
        let y = f (k + q) (omega arith) in
        let z = owns_low xs (k + semaphores_in x.1) (c + braces x.1) (k + q) (omega (arith, l)) in
        let u = bounds_low xs (k + semaphores_in x.1) (c + braces x.1) (k + q) (omega (arith, l)) in
        let o = opening_out x.1 (first_bound (site x.1 k c)) (k + q) (inl (omega (arith, l))) in
        let w : ◌≡◌ {A = ℕ} (if k + q == k then 1 else 0) (if q == 0 then 1 else 0) = ap (λ a. if a then 1 else 0) (same_own k q) in
        omega (arith, y, z, u, o, w)

    lim : (d : ℕ) → HasBound x.1 0 d → v.semaphore ((first_bound (site x.1 k c)) + rank x.1 0 d) ≡ bound_at x.1 0 d
    lim d h =
        let l = rank_low x.1 0 d h in
        let y = f ((first_bound (site x.1 k c)) + rank x.1 0 d) (omega arith) in
        let n : ◌≡◌ {A = ℕ} (if (first_bound (site x.1 k c)) + rank x.1 0 d == k then 1 else 0) 0 = cond-false ((first_bound (site x.1 k c)) + rank x.1 0 d == k) 1 0 (ne_eqb ((first_bound (site x.1 k c)) + rank x.1 0 d) k (λ q. omega (arith, q))) in
        let z = owns_low xs (k + semaphores_in x.1) (c + braces x.1) ((first_bound (site x.1 k c)) + rank x.1 0 d) (omega (arith, l)) in
        let u = bounds_low xs (k + semaphores_in x.1) (c + braces x.1) ((first_bound (site x.1 k c)) + rank x.1 0 d) (omega (arith, l)) in
        let o = opening_of x.1 (first_bound (site x.1 k c)) 0 d ((first_bound (site x.1 k c)) + rank x.1 0 d) h refl in
        omega (arith, y, n, z, u, o)

    head : Held (site x.1 k c) v (opening x.1)
    head = record { semaphores = sem; counters = λ d l. g (c + d); limits = lim }

shows_all : (g : Tree → Values) (v : Table) (xs : List (ℕ × Sited)) → Every (λ x. Held x v (g x.tree)) xs → Every (λ x. Shows x v (g x.tree)) xs
shows_all g v [] S = tt
shows_all g v (x ∷ xs) S = (held_shows x.1 v (g x.1.tree) S.0, shows_all g v xs S.1)

pub one_table_shows_all : OneTableShowsAll
one_table_shows_all xs h =
    shows_all (λ s. values_among s (opening s) h) (flat_from (sited 0 0 xs) (flat_opening (sited 0 0 xs)) h) (sited 0 0 xs)
    (flat_run xs h (λ s. opening s) (flat_opening (sited 0 0 xs)) (opening_held xs 0 0 (flat_opening (sited 0 0 xs)) (λ i l. refl) (λ i. refl)))

-- paths without braces: their tables open with their own semaphores alone
pub plain_openings : (xs : List (ℕ × Tree)) → Every NoBraces xs → (k c i : ℕ) → bound_openings (sited k c xs) i ≡ 0
plain_openings [] n k c i = refl
plain_openings (x ∷ xs) n k c i =
    let e = none_counted x.1 n.0 in
    let o : Out (first_bound (site x.1 k c)) (counted_braces x.1) i = elim (cases_lt i (first_bound (site x.1 k c))) [ inl l ↦ inl l | inr l ↦ inr (omega (arith, l, e)) ] in
    let z = opening_out x.1 (first_bound (site x.1 k c)) i o in
    let r = plain_openings xs n.1 (k + semaphores_in x.1) (c + braces x.1) i in
    omega (arith, z, r)
