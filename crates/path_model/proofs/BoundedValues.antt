-- No semaphore exceeds the number of starts by more than 1, no counter exceeds that number, and no bound's semaphore exceeds the bound.
use Rattle.std.proofs.Common.{◌≡◌, ◌==◌, ◌<◌, ◌≤◌, ◌+◌, ◌-◌, ℕ, List, [], ◌∷◌, ◌++◌, refl, sym, ap, ◌∙◌, subst, inl, inr, arith}
use Rattle.std.proofs.lemmas.Bool.{eqb-true, eq-eqb, ne_eqb, cond-true, cond-false, cond_both}
use Rattle.path_model.specs.declared.ids.OpId.{OpId}
use Rattle.path_model.specs.declared.history.Event.{Event}
use Rattle.path_model.specs.declared.history.Event.TheVariants.{Began, Ended}
use Rattle.path_model.specs.Trees.{any, most, Tree, op, seq, alt, burst, Names, NoRepeats, WellFormed, has}
use Rattle.path_model.specs.Histories.{op_of, starts_in}
use Rattle.path_model.proofs.Counts.{entry, exit, ins, outs, inn, out, May, ins-append, outs-append, May-names, Named, foreign_entry, foreign_exit}
use Rattle.std.proofs.lemmas.Bool.{cases_eq}
use Rattle.path_model.specs.Machine.{semicolons, braces, size, bound_at, Term, Plain, Braced, Counted, prologue, epilogue, Values, put, take_one, add_one, started, finished, opening, changed, values_from, values_after}
use Rattle.path_model.specs.Projection.{projection, LegalOn}
use Rattle.path_model.specs.Legal.{Every, Legal}
use Rattle.path_model.specs.Flat.{HasBound, semaphores_in, Sited, sited, Table, flat_from, flat_opening, Shows}
use Rattle.path_model.specs.BoundedValues.{Bounded, EachValueIsBounded, ValuesAmongAreBounded, BoundedInTable, TableValuesAreBounded}
use Rattle.path_model.proofs.Upward.{Holds, has_names}
use Rattle.path_model.proofs.Moves.{put_other}
use Rattle.path_model.proofs.Path.{meets, Live, start, step, behaves_live}
use Rattle.path_model.proofs.OnePath.{rooted, end_may}
use Rattle.path_model.proofs.AllPaths.{now}
use Rattle.path_model.proofs.FlatNumbers.{InTable, prologue_has, epilogue_has, bound_within, bound_or}
use Rattle.path_model.proofs.Flat.{one_table_shows_all}
use Rattle.path_model.proofs.Agreement.{alone}

ends_in : List Event → ℕ
ends_in [] = 0
ends_in (Began a ∷ h) = ends_in h
ends_in (Ended a ∷ h) = ends_in h + 1

-- the counts of all operations of a tree
abbrev begs : Tree → List Event → ℕ
begs (op b) h = ins (op b) h
begs (seq s t) h = begs s h + begs t h
begs (alt s t) h = begs s h + begs t h
begs (burst bd s) h = begs s h

abbrev fins : Tree → List Event → ℕ
fins (op b) h = outs (op b) h
fins (seq s t) h = fins s h + fins t h
fins (alt s t) h = fins s h + fins t h
fins (burst bd s) h = fins s h

fewer_fins : (s : Tree) (h : List Event) → ((a : OpId) → outs (op a) h ≤ ins (op a) h) → fins s h ≤ begs s h
fewer_fins (op b) h k = k b
fewer_fins (seq s t) h k = omega (arith, fewer_fins s h k, fewer_fins t h k)
fewer_fins (alt s t) h k = omega (arith, fewer_fins s h k, fewer_fins t h k)
fewer_fins (burst bd s) h k = fewer_fins s h k

begs_other : (s : Tree) (e : Event) (h : List Event) → (Names s (op_of e) → ⊥) → (begs s (e ∷ h) ≡ begs s h) × (fins s (e ∷ h) ≡ fins s h)
begs_other (op b) e h n = (omega (arith, foreign_entry (op b) e n), omega (arith, foreign_exit (op b) e n))
begs_other (seq s t) e h n = let x = begs_other s e h (λ k. n (inl k)) in let y = begs_other t e h (λ k. n (inr k)) in (omega (arith, x.0, y.0), omega (arith, x.1, y.1))
begs_other (alt s t) e h n = let x = begs_other s e h (λ k. n (inl k)) in let y = begs_other t e h (λ k. n (inr k)) in (omega (arith, x.0, y.0), omega (arith, x.1, y.1))
begs_other (burst bd s) e h n = begs_other s e h n

begs_began : (s : Tree) → NoRepeats s → (a : OpId) (h : List Event) → Names s a → (begs s (Began a ∷ h) ≡ begs s h + 1) × (fins s (Began a ∷ h) ≡ fins s h)
begs_began (op b) nr a h k = let e : ◌≡◌ {A = ℕ} (entry (op b) (Began a)) 1 = cond-true _ _ _ (eq-eqb a.0 b.0 (ap (λ x. x.0) k)) in (omega (arith, e), omega arith)
begs_began (seq s t) nr a h (inl k) = let x = begs_began s nr.0 a h k in let y = begs_other t (Began a) h (nr.2 a k) in (omega (arith, x.0, y.0), omega (arith, x.1, y.1))
begs_began (seq s t) nr a h (inr k) = let x = begs_began t nr.1 a h k in let y = begs_other s (Began a) h (λ z. nr.2 a z k) in (omega (arith, x.0, y.0), omega (arith, x.1, y.1))
begs_began (alt s t) nr a h (inl k) = let x = begs_began s nr.0 a h k in let y = begs_other t (Began a) h (nr.2 a k) in (omega (arith, x.0, y.0), omega (arith, x.1, y.1))
begs_began (alt s t) nr a h (inr k) = let x = begs_began t nr.1 a h k in let y = begs_other s (Began a) h (λ z. nr.2 a z k) in (omega (arith, x.0, y.0), omega (arith, x.1, y.1))
begs_began (burst bd s) nr a h k = begs_began s nr a h k

fins_ended : (s : Tree) → NoRepeats s → (a : OpId) (h : List Event) → Names s a → (begs s (Ended a ∷ h) ≡ begs s h) × (fins s (Ended a ∷ h) ≡ fins s h + 1)
fins_ended (op b) nr a h k = let e : ◌≡◌ {A = ℕ} (exit (op b) (Ended a)) 1 = cond-true _ _ _ (eq-eqb a.0 b.0 (ap (λ x. x.0) k)) in (omega arith, omega (arith, e))
fins_ended (seq s t) nr a h (inl k) = let x = fins_ended s nr.0 a h k in let y = begs_other t (Ended a) h (nr.2 a k) in (omega (arith, x.0, y.0), omega (arith, x.1, y.1))
fins_ended (seq s t) nr a h (inr k) = let x = fins_ended t nr.1 a h k in let y = begs_other s (Ended a) h (λ z. nr.2 a z k) in (omega (arith, x.0, y.0), omega (arith, x.1, y.1))
fins_ended (alt s t) nr a h (inl k) = let x = fins_ended s nr.0 a h k in let y = begs_other t (Ended a) h (nr.2 a k) in (omega (arith, x.0, y.0), omega (arith, x.1, y.1))
fins_ended (alt s t) nr a h (inr k) = let x = fins_ended t nr.1 a h k in let y = begs_other s (Ended a) h (λ z. nr.2 a z k) in (omega (arith, x.0, y.0), omega (arith, x.1, y.1))
fins_ended (burst bd s) nr a h k = fins_ended s nr a h k

begs_nil : (s : Tree) → (begs s [] ≡ 0) × (fins s [] ≡ 0)
begs_nil (op b) = (refl, refl)
begs_nil (seq s t) = let x = begs_nil s in let y = begs_nil t in (omega (arith, x.0, y.0), omega (arith, x.1, y.1))
begs_nil (alt s t) = let x = begs_nil s in let y = begs_nil t in (omega (arith, x.0, y.0), omega (arith, x.1, y.1))
begs_nil (burst bd s) = begs_nil s

all_named : (s : Tree) → NoRepeats s → (h : List Event) → Named s h → (begs s h ≡ starts_in h) × (fins s h ≡ ends_in h)
unfolding ends_in
all_named s nr [] n = begs_nil s
all_named s nr (Began a ∷ h) n = let x = begs_began s nr a h n.0 in let y = all_named s nr h n.1 in (omega (arith, x.0, y.0), omega (arith, x.1, y.1))
all_named s nr (Ended a ∷ h) n = let x = fins_ended s nr a h n.0 in let y = all_named s nr h n.1 in (omega (arith, x.0, y.0), omega (arith, x.1, y.1))

named_snoc : (s : Tree) (w : List Event) (e : Event) → Named s w → Names s (op_of e) → Named s (w ++ e ∷ [])
named_snoc s [] e n k = (k, tt)
named_snoc s (d ∷ w) e n k = (n.0, named_snoc s w e n.1 k)

live_named : (s : Tree) {h : List Event} → Live s h → Named s h
live_named s start = tt
live_named s (step w e r m k) = subst (Named s) (sym k) (named_snoc s w e (live_named s r) (May-names s w e _ m))

pub live_ends : (s : Tree) {h : List Event} → Live s h → (c : OpId) → outs (op c) h ≤ ins (op c) h
live_ends s start c = omega arith
live_ends s (step w e r m k) c = omega (arith, ap (outs (op c)) k, ap (ins (op c)) k, ins-append (op c) w (e ∷ []), outs-append (op c) w (e ∷ []), go e m (live_ends s r c))
  where
    go : (e : Event) → May s w e (inn s w ≤ out s w) → outs (op c) w ≤ ins (op c) w → outs (op c) w + exit (op c) e ≤ ins (op c) w + entry (op c) e
    go (Began a) m l = omega (arith, l)
    go (Ended a) m l = elim (cases_eq a.0 c.0) [
      | inl q ↦
          let d : a ≡ c = ap (λ x. record { 0 = x }) q in
          let lt : outs (op c) w < ins (op c) w = subst (λ x. outs (op x) w < ins (op x) w) d (end_may s w a _ m) in
          let one : exit (op c) (Ended a) ≤ 1 = cond_both (a.0 == c.0) _ _ (λ x. x ≤ 1) (λ _. omega arith) (λ _. omega arith) in
          omega (arith, lt, one)
      | inr n ↦ let z : ◌≡◌ {A = ℕ} (exit (op c) (Ended a)) 0 = cond-false _ _ _ (ne_eqb a.0 c.0 n) in omega (arith, z, l)
    ]

-- the machine alone: an end adds at most one to a semaphore, a start at most one to a counter
put_up : (f : ℕ → ℕ) (k x i y : ℕ) → x ≤ y → f i ≤ y → put f k x i ≤ y
put_up f k x i y a b = cond_both (i == k) x (f i) (λ z. z ≤ y) (λ _. a) (λ _. b)

started_semaphore : (t : Term) (v : Values) (q : ℕ) → (started t v).semaphore q ≤ v.semaphore q
started_semaphore (Plain k) v q = cond_both (q == k) (v.semaphore k - 1) (v.semaphore q) (λ z. z ≤ v.semaphore q) (λ e. let d = ap v.semaphore (eqb-true q k e) in omega (arith, d)) (λ _. omega arith)
started_semaphore (Braced c k) v q =
    cond_both (v.counter c == 0) (take_one v.semaphore k) v.semaphore (λ f. f q ≤ v.semaphore q)
    (λ _. cond_both (q == k) (v.semaphore k - 1) (v.semaphore q) (λ z. z ≤ v.semaphore q) (λ e. let d = ap v.semaphore (eqb-true q k e) in omega (arith, d)) (λ _. omega arith))
    (λ _. omega arith)
started_semaphore (Counted c k) v q =
    cond_both (v.counter c == 0) (take_one v.semaphore k) v.semaphore (λ f. f q ≤ v.semaphore q)
    (λ _. cond_both (q == k) (v.semaphore k - 1) (v.semaphore q) (λ z. z ≤ v.semaphore q) (λ e. let d = ap v.semaphore (eqb-true q k e) in omega (arith, d)) (λ _. omega arith))
    (λ _. omega arith)

started_counter : (t : Term) (v : Values) (q : ℕ) → (started t v).counter q ≤ v.counter q + 1
started_counter (Plain k) v q = omega arith
started_counter (Braced c k) v q = cond_both (q == c) (v.counter c + 1) (v.counter q) (λ z. z ≤ v.counter q + 1) (λ e. let d = ap v.counter (eqb-true q c e) in omega (arith, d)) (λ _. omega arith)
started_counter (Counted c k) v q = cond_both (q == c) (v.counter c + 1) (v.counter q) (λ z. z ≤ v.counter q + 1) (λ e. let d = ap v.counter (eqb-true q c e) in omega (arith, d)) (λ _. omega arith)

finished_semaphore : (t : Term) (v : Values) (q : ℕ) → (finished t v).semaphore q ≤ v.semaphore q + 1
finished_semaphore (Plain k) v q = cond_both (q == k) (v.semaphore k + 1) (v.semaphore q) (λ z. z ≤ v.semaphore q + 1) (λ e. let d = ap v.semaphore (eqb-true q k e) in omega (arith, d)) (λ _. omega arith)
finished_semaphore (Braced c k) v q =
    cond_both (v.counter c == 1) (add_one v.semaphore k) v.semaphore (λ f. f q ≤ v.semaphore q + 1)
    (λ _. cond_both (q == k) (v.semaphore k + 1) (v.semaphore q) (λ z. z ≤ v.semaphore q + 1) (λ e. let d = ap v.semaphore (eqb-true q k e) in omega (arith, d)) (λ _. omega arith))
    (λ _. omega arith)
finished_semaphore (Counted c k) v q =
    cond_both (v.counter c == 1) (add_one v.semaphore k) v.semaphore (λ f. f q ≤ v.semaphore q + 1)
    (λ _. cond_both (q == k) (v.semaphore k + 1) (v.semaphore q) (λ z. z ≤ v.semaphore q + 1) (λ e. let d = ap v.semaphore (eqb-true q k e) in omega (arith, d)) (λ _. omega arith))
    (λ _. omega arith)

finished_counter : (t : Term) (v : Values) (q : ℕ) → (finished t v).counter q ≤ v.counter q
finished_counter (Plain k) v q = omega arith
finished_counter (Braced c k) v q = cond_both (q == c) (v.counter c - 1) (v.counter q) (λ z. z ≤ v.counter q) (λ e. let d = ap v.counter (eqb-true q c e) in omega (arith, d)) (λ _. omega arith)
finished_counter (Counted c k) v q = cond_both (q == c) (v.counter c - 1) (v.counter q) (λ z. z ≤ v.counter q) (λ e. let d = ap v.counter (eqb-true q c e) in omega (arith, d)) (λ _. omega arith)

semaphore_bound : (s : Tree) (v : Values) (h : List Event) (q : ℕ) → (values_from s v h).semaphore q ≤ v.semaphore q + ends_in h
unfolding ends_in
semaphore_bound s v [] q = omega arith
semaphore_bound s v (Began a ∷ h) q = omega (arith, semaphore_bound s (changed s (Began a) v) h q, started_semaphore (prologue s a) v q)
semaphore_bound s v (Ended a ∷ h) q = omega (arith, semaphore_bound s (changed s (Ended a) v) h q, finished_semaphore (epilogue s a) v q)

counter_bound : (s : Tree) (v : Values) (h : List Event) (q : ℕ) → (values_from s v h).counter q ≤ v.counter q + starts_in h
counter_bound s v [] q = omega arith
counter_bound s v (Began a ∷ h) q = omega (arith, counter_bound s (changed s (Began a) v) h q, started_counter (prologue s a) v q)
counter_bound s v (Ended a ∷ h) q = omega (arith, counter_bound s (changed s (Ended a) v) h q, finished_counter (epilogue s a) v q)

-- a bound's semaphore is the bound less what is underway
limit_held : (s : Tree) (n m : ℕ) (h : List Event) (v : Values) → Holds s n m h v → (c : ℕ) → HasBound s m c → v.bound c ≤ bound_at s m c
limit_held (op b) n m h v H c k = absurd k
limit_held (seq s t) n m h v H c (inl k) = omega (arith, limit_held s n m h v H.0 c k)
limit_held (seq s t) n m h v H c (inr k) = omega (arith, limit_held t (n + semicolons s + 1) (m + braces s) h v H.1 c k)
limit_held (alt s t) n m h v H c (inl k) = omega (arith, limit_held s n m h v H.0 c k)
limit_held (alt s t) n m h v H c (inr k) = omega (arith, limit_held t (n + semicolons s) (m + braces s) h v H.1 c k)
limit_held (burst any s) n m h v H c (inl k) = absurd k.0
limit_held (burst (most b) s) n m h v H c (inl k) =
    let e = cond-true (c == m) b (bound_at s (m + 1) c) (eq-eqb c m k.1) in
    let d = ap v.bound k.1 in
    omega (arith, e, d, H.2)
limit_held (burst bd s) n m h v H c (inr k) =
    let w = bound_within s (m + 1) c k in
    let e = cond-false (c == m) (size bd) (bound_at s (m + 1) c) (ne_eqb c m (λ z. omega (arith, w.0, z))) in
    omega (arith, e, limit_held s n (m + 1) h v H.0 c k)

-- without a bound it stays as it is
module _ (s : Tree) (c : ℕ) (n : HasBound s 0 c → ⊥) where
  limit_started : (t : Term) (v : Values) → InTable s t → (started t v).bound c ≡ v.bound c
  limit_started (Plain q) v l = refl
  limit_started (Braced d q) v l = refl
  limit_started (Counted d q) v l = put_other v.bound d (v.bound d - 1) c (λ e. n (subst (HasBound s 0) (sym e) l.2))

  limit_finished : (t : Term) (v : Values) → InTable s t → (finished t v).bound c ≡ v.bound c
  limit_finished (Plain q) v l = refl
  limit_finished (Braced d q) v l = refl
  limit_finished (Counted d q) v l = put_other v.bound d (v.bound d + 1) c (λ e. n (subst (HasBound s 0) (sym e) l.2))

  limit_stays : (h : List Event) → Named s h → (v : Values) → (values_from s v h).bound c ≡ v.bound c
  limit_stays [] k v = refl
  limit_stays (Began a ∷ h) k v = limit_stays h k.1 (changed s (Began a) v) ∙ limit_started (prologue s a) v (prologue_has s a (has_names s a k.0))
  limit_stays (Ended a ∷ h) k v = limit_stays h k.1 (changed s (Ended a) v) ∙ limit_finished (epilogue s a) v (epilogue_has s a (has_names s a k.0))

pub each_value_is_bounded : EachValueIsBounded
each_value_is_bounded s wf h k = record { semaphores = sems; counters = λ c. omega (arith, counter_bound s (opening s) h c); limits = lims }
  where
    r : Live s h
    r = behaves_live s (meets s wf.names_once wf.not_nested) h k

    sems : (q : ℕ) → (values_after s h).semaphore q ≤ 1 + starts_in h
    sems q =
        let n = all_named s wf.names_once h (live_named s r) in
        let one : (opening s).semaphore q ≤ 1 = cond_both (q == 0) _ _ (λ x. x ≤ 1) (λ _. omega arith) (λ _. omega arith) in
        omega (arith, semaphore_bound s (opening s) h q, one, n.0, n.1, fewer_fins s h (live_ends s r))

    lims : (c : ℕ) → (values_after s h).bound c ≤ bound_at s 0 c
    lims c = elim (bound_or s 0 c) [
      | inl y ↦ limit_held s 1 0 h (values_after s h) (rooted s wf.names_once wf.not_nested r).holds c y
      | inr n ↦ omega (arith, limit_stays s c n h (live_named s r) (opening s))
    ]

-- a path sees no more starts than there are
starts_projection : (s : Tree) (h : List Event) → starts_in (projection s h) ≤ starts_in h
starts_projection s [] = omega arith
starts_projection s (Began b ∷ h) =
    let r = starts_projection s h in
    cond_both (has s b) (Began b ∷ projection s h) (projection s h) (λ u. starts_in u ≤ starts_in h + 1) (λ _. omega (arith, r)) (λ _. omega (arith, r))
starts_projection s (Ended b ∷ h) =
    let r = starts_projection s h in
    cond_both (has s b) (Ended b ∷ projection s h) (projection s h) (λ u. starts_in u ≤ starts_in h) (λ _. r) (λ _. r)

pub values_among_are_bounded : ValuesAmongAreBounded
values_among_are_bounded s wf h l = subst (λ v. Bounded s v (starts_in h)) (sym (alone s h)) (record {
  semaphores = λ q. omega (arith, b.semaphores q, starts_projection s h);
  counters = λ c. omega (arith, b.counters c, starts_projection s h);
  limits = b.limits;
})
  where
    b : Bounded s (values_after s (projection s h)) (starts_in (projection s h))
    b = each_value_is_bounded s wf (projection s h) l

module _ (h : List Event) (v : Table) where
  bounded_there : (x : Sited) → WellFormed x.tree → LegalOn x.tree h → Shows x v (now h x.tree) → BoundedInTable x v (starts_in h)
  bounded_there x w l S = record {
    semaphores = λ q k. omega (arith, S.semaphores q k, b.semaphores q);
    counters = λ c k. omega (arith, S.counters c k, b.counters c);
    limits = λ c k. omega (arith, S.limits c k, b.limits c);
  }
    where
      b : Bounded x.tree (now h x.tree) (starts_in h)
      b = values_among_are_bounded x.tree w h l

  all_bounded : (xs : List (ℕ × Tree)) (k c : ℕ) → Every WellFormed xs → Legal xs h → Every (λ x. Shows x v (now h x.tree)) (sited k c xs) → Every (λ x. BoundedInTable x v (starts_in h)) (sited k c xs)
  all_bounded [] k c w l S = tt
  all_bounded (x ∷ xs) k c w l S =
      (bounded_there (record { tree = x.1; own = k; first = c }) w.0 l.0 S.0, all_bounded xs (k + semaphores_in x.1) (c + braces x.1) w.1 l.1 S.1)

pub table_values_are_bounded : TableValuesAreBounded
table_values_are_bounded xs w h l = all_bounded h (flat_from (sited 0 0 xs) (flat_opening (sited 0 0 xs)) h) xs 0 0 w l (one_table_shows_all xs h)
