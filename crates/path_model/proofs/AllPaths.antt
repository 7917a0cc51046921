-- The semaphores of all paths judge starts and finishes as their words do; starts only block, and finishes unblock.
use Rattle.std.proofs.Common.{◌≡◌, ◌⊎◌, ◌==◌, if◌then◌else◌, ◌<◌, ◌≤◌, ◌+◌, ℕ, List, [], ◌∷◌, ◌++◌, ◌↔◌, Bool, true, false, refl, sym, ap, ◌∙◌, subst, inl, inr, arith}
use Rattle.std.proofs.lemmas.List.{append-nil, append_assoc}
use Rattle.std.proofs.lemmas.Bool.{ne_eqb, cond-false, cases_Bool, cases_lt}
use Rattle.path_model.specs.declared.ids.OpId.{OpId}
use Rattle.path_model.specs.declared.history.Event.{Event}
use Rattle.path_model.specs.declared.history.Event.TheVariants.{Began, Ended}
use Rattle.path_model.specs.Trees.{Tree, has, Names, WellFormed}
use Rattle.path_model.specs.Histories.{op_of, begun, ended, InProgress, starts_of, HasFinish}
use Rattle.path_model.specs.Behaviour.{Behaves}
use Rattle.path_model.specs.Projection.{projection, LegalOn}
use Rattle.path_model.specs.Machine.{Term, Plain, Braced, Counted, Values, Passes, prologue, opening, changed}
use Rattle.path_model.specs.AmongOthers.{values_among, Lets}
use Rattle.path_model.specs.Legal.{numbered, Every, First, NoneOf, Legal, Forbids}
use Rattle.path_model.specs.AllPaths.{Running, opened, moved, run, after, Blocks, Judged, AllPathsJudge, ProjectionsKeepProgress, EachEventMoves, FirstIsOne, FinishesUnblock, StartsOnlyBlock, EachBlockStays}
use Rattle.path_model.proofs.Upward.{has_names, names_has}
use Rattle.path_model.proofs.Labelled.{projection_append}
use Rattle.path_model.proofs.AmongOthers.{each_path_guards, front}
use Rattle.path_model.proofs.Counts.{op_same}

-- lists of what is numbered
module _ {A : Type 0} where
  pub every_map : {P Q : A → Type 0} → ((a : A) → P a → Q a) → (xs : List (ℕ × A)) → Every P xs → Every Q xs
  every_map f [] e = tt
  every_map f (x ∷ xs) e = (f x.1 e.0, every_map f xs e.1)

  pub every_both : {P Q R : A → Type 0} → ((a : A) → P a → Q a → R a) → (xs : List (ℕ × A)) → Every P xs → Every Q xs → Every R xs
  every_both f [] d e = tt
  every_both f (x ∷ xs) d e = (f x.1 d.0 e.0, every_both f xs d.1 e.1)

  pub first_same : (P Q : A → Type 0) (xs : List (ℕ × A)) → Every (λ a. P a ↔ Q a) xs → (p : ℕ) → First P xs p → First Q xs p
  first_same P Q [] e p f = f
  first_same P Q (x ∷ xs) e p (inl f) = inl (e.0.0 f.0, f.1)
  first_same P Q (x ∷ xs) e p (inr f) = inr (λ q. f.0 (e.0.1 q), first_same P Q xs e.1 p f.1)

  pub none_same : (P Q : A → Type 0) (xs : List (ℕ × A)) → Every (λ a. P a ↔ Q a) xs → NoneOf P xs → NoneOf Q xs
  none_same P Q xs e n = every_both {P = λ a. P a ↔ Q a} {Q = λ a. P a → ⊥} {R = λ a. Q a → ⊥} (λ a i k q. k (i.1 q)) xs e n

  pub turned : (P Q : A → Type 0) (xs : List (ℕ × A)) → Every (λ a. P a ↔ Q a) xs → Every (λ a. Q a ↔ P a) xs
  turned P Q xs e = every_map {P = λ a. P a ↔ Q a} {Q = λ a. Q a ↔ P a} (λ a i. (i.1, i.0)) xs e

  pub none_or_first : (P : A → Type 0) → ((a : A) → P a ⊎ (P a → ⊥)) → (xs : List (ℕ × A)) → NoneOf P xs ⊎ ((p : ℕ) × First P xs p)
  none_or_first P d [] = inl tt
  none_or_first P d (x ∷ xs) = go (d x.1) (none_or_first P d xs)
    where
      go : P x.1 ⊎ (P x.1 → ⊥) → NoneOf P xs ⊎ ((p : ℕ) × First P xs p) → NoneOf P (x ∷ xs) ⊎ ((p : ℕ) × First P (x ∷ xs) p)
      go (inl y) r = inr (x.0, inl (y, refl))
      go (inr n) (inl r) = inl (n, r)
      go (inr n) (inr r) = inr (r.0, inr (n, r.1))

pub at_least : (P : Tree → Type 0) (n : ℕ) (ss : List Tree) (p : ℕ) → First P (numbered n ss) p → n ≤ p
at_least P n [] p f = absurd f
at_least P n (s ∷ ss) p (inl f) = omega (arith, f.1)
at_least P n (s ∷ ss) p (inr f) = let l = at_least P (n + 1) ss p f.1 in omega (arith, l)

-- where more is met, the first is no later
pub earlier : (P Q : Tree → Type 0) → ((s : Tree) → Q s ⊎ (Q s → ⊥)) → (n : ℕ) (ss : List Tree) → Every (λ s. P s → Q s) (numbered n ss) → (p : ℕ) → First P (numbered n ss) p → (q : ℕ) × First Q (numbered n ss) q × (q ≤ p)
earlier P Q d n [] e p f = absurd f
earlier P Q d n (s ∷ ss) e p (inl f) = (n, inl (e.0 f.0, refl), omega (arith, f.1))
earlier P Q d n (s ∷ ss) e p (inr f) = go (d s) (earlier P Q d (n + 1) ss e.1 p f.1)
  where
    go : Q s ⊎ (Q s → ⊥) → (q : ℕ) × First Q (numbered (n + 1) ss) q × (q ≤ p) → (q : ℕ) × First Q (numbered n (s ∷ ss)) q × (q ≤ p)
    go (inl y) r = (n, inl (y, refl), (let l = at_least P (n + 1) ss p f.1 in omega (arith, l)))
    go (inr y) r = (r.0, inr (y, r.1), r.2)

-- the values of all paths are those of each
abbrev pub on_tree : (Tree → Values) → Tree → Running
on_tree f s = record { tree = s; values = f s }

abbrev pub placed : (Tree → Values) → List (ℕ × Tree) → List (ℕ × Running)
placed f [] = []
placed f (x ∷ xs) = (x.0, on_tree f x.1) ∷ placed f xs

pub opened_placed : (xs : List (ℕ × Tree)) → opened xs ≡ placed (λ s. opening s) xs
opened_placed [] = refl
opened_placed (x ∷ xs) = ap (λ l. (x.0, on_tree (λ s. opening s) x.1) ∷ l) (opened_placed xs)

abbrev stepped : Event → (Tree → Values) → Tree → Values
stepped e f s = if has s (op_of e) then changed s e (f s) else f s

moved_placed : (e : Event) (f : Tree → Values) (xs : List (ℕ × Tree)) → moved e (placed f xs) ≡ placed (stepped e f) xs
moved_placed e f [] = refl
moved_placed e f (x ∷ xs) = ap (λ l. (x.0, on_tree (stepped e f) x.1) ∷ l) (moved_placed e f xs)

run_placed : (f : Tree → Values) (xs : List (ℕ × Tree)) (h : List Event) → run (placed f xs) h ≡ placed (λ s. values_among s (f s) h) xs
run_placed f xs [] = refl
run_placed f xs (e ∷ h) = ap (λ m. run m h) (moved_placed e f xs) ∙ run_placed (stepped e f) xs h

pub after_placed : (xs : List (ℕ × Tree)) (h : List Event) → after xs h ≡ placed (λ s. values_among s (opening s) h) xs
after_placed xs h = ap (λ m. run m h) (opened_placed xs) ∙ run_placed (λ s. opening s) xs h

module _ (P : Running → Type 0) (f : Tree → Values) where
  pub first_to : (xs : List (ℕ × Tree)) (p : ℕ) → First P (placed f xs) p → First (λ s. P (on_tree f s)) xs p
  first_to [] p k = k
  first_to (x ∷ xs) p (inl k) = inl k
  first_to (x ∷ xs) p (inr k) = inr (k.0, first_to xs p k.1)

  pub first_from : (xs : List (ℕ × Tree)) (p : ℕ) → First (λ s. P (on_tree f s)) xs p → First P (placed f xs) p
  first_from [] p k = k
  first_from (x ∷ xs) p (inl k) = inl k
  first_from (x ∷ xs) p (inr k) = inr (k.0, first_from xs p k.1)

  pub every_to : (xs : List (ℕ × Tree)) → Every P (placed f xs) → Every (λ s. P (on_tree f s)) xs
  every_to [] k = k
  every_to (x ∷ xs) k = (k.0, every_to xs k.1)

  pub every_from : (xs : List (ℕ × Tree)) → Every (λ s. P (on_tree f s)) xs → Every P (placed f xs)
  every_from [] k = k
  every_from (x ∷ xs) k = (k.0, every_from xs k.1)

braced_or : (c q : ℕ) (v : Values) → Passes (Braced c q) v ⊎ (Passes (Braced c q) v → ⊥)
braced_or c q v = go (cases_lt 0 (v.counter c)) (cases_lt 0 (v.semaphore q))
  where
    go : (0 < v.counter c) ⊎ (v.counter c ≤ 0) → (0 < v.semaphore q) ⊎ (v.semaphore q ≤ 0) → Passes (Braced c q) v ⊎ (Passes (Braced c q) v → ⊥)
    go (inl l) k = inl (inl l)
    go (inr l) (inl k) = inl (inr k)
    go (inr l) (inr k) = inr no
      where
        no : Passes (Braced c q) v → ⊥
        no (inl x) = omega (arith, l, x)
        no (inr x) = omega (arith, k, x)

-- whether a path blocks is decided
pub passes_or : (t : Term) (v : Values) → Passes t v ⊎ (Passes t v → ⊥)
passes_or (Plain q) v = elim (cases_lt 0 (v.semaphore q)) [ inl l ↦ inl l | inr l ↦ inr (λ k. omega (arith, l, k)) ]
passes_or (Braced c q) v = braced_or c q v
passes_or (Counted c q) v = elim (braced_or c q v) [
  | inl k ↦ elim (cases_lt 0 (v.bound c)) [ inl l ↦ inl (k, l) | inr l ↦ inr (λ x. let y = x.1 in omega (arith, l, y)) ]
  | inr k ↦ inr (λ x. k x.0)
]

false_true : false ≡ true → ⊥
false_true z = cc

pub blocks_or : (a : OpId) (r : Running) → Blocks a r ⊎ (Blocks a r → ⊥)
blocks_or a r = elim (cases_Bool (has r.tree a)) [
  | inl k ↦ elim (passes_or (prologue r.tree a) r.values) [ inl p ↦ inr (λ b. b.1 p) | inr n ↦ inl (names_has r.tree a k, n) ]
  | inr k ↦ inr (λ b. false_true (sym k ∙ has_names r.tree a b.0))
]

abbrev pub now : List Event → Tree → Values
now h s = values_among s (opening s) h

-- one path
module _ (s : Tree) (wf : WellFormed s) (h : List Event) (l : LegalOn s h) where
  pub blocks_forbids : (a : OpId) → Blocks a (on_tree (now h) s) ↔ Forbids h a s
  blocks_forbids a = (λ b. (b.0, λ k. b.1 ((((each_path_guards s wf).starts h a l).1 k) b.0)), λ b. (b.0, λ k. b.1 (((each_path_guards s wf).starts h a l).0 (λ _. k))))

  pub lets_legal : (a : OpId) → (Blocks a (on_tree (now h) s) → ⊥) ↔ LegalOn s (h ++ Began a ∷ [])
  lets_legal a = (to, from)
    where
      lets : (Blocks a (on_tree (now h) s) → ⊥) → Lets s h a
      lets n k = elim (passes_or (prologue s a) (now h s)) [ inl p ↦ p | inr q ↦ absurd (n (k, q)) ]

      to : (Blocks a (on_tree (now h) s) → ⊥) → LegalOn s (h ++ Began a ∷ [])
      to n = ((each_path_guards s wf).starts h a l).0 (lets n)

      from : LegalOn s (h ++ Began a ∷ []) → Blocks a (on_tree (now h) s) → ⊥
      from k b = b.1 ((((each_path_guards s wf).starts h a l).1 k) b.0)

module _ (s : Tree) (a : OpId) (k : Names s a) where
  other : (b : OpId) → has s b ≡ false → (b.0 == a.0) ≡ false
  other b e = ne_eqb b.0 a.0 (λ q. false_true (sym e ∙ ap (has s) (op_same b a q) ∙ has_names s a k))

  pub begun_projection : (h : List Event) → begun a (projection s h) ≡ begun a h
  begun_projection [] = refl
  begun_projection (Began b ∷ h) = go (has s b) refl (begun_projection h)
    where
      go : (x : Bool) → has s b ≡ x → begun a (projection s h) ≡ begun a h → begun a (if x then (Began b ∷ projection s h) else projection s h) ≡ (if b.0 == a.0 then (begun a h + 1) else begun a h)
      go true e r = ap (λ n. if b.0 == a.0 then (n + 1) else n) r
      go false e r = r ∙ sym (cond-false _ _ _ (other b e))
  begun_projection (Ended b ∷ h) = go (has s b) (begun_projection h)
    where
      go : (x : Bool) → begun a (projection s h) ≡ begun a h → begun a (if x then (Ended b ∷ projection s h) else projection s h) ≡ begun a h
      go true r = r
      go false r = r

  pub ended_projection : (h : List Event) → ended a (projection s h) ≡ ended a h
  ended_projection [] = refl
  ended_projection (Ended b ∷ h) = go (has s b) refl (ended_projection h)
    where
      go : (x : Bool) → has s b ≡ x → ended a (projection s h) ≡ ended a h → ended a (if x then (Ended b ∷ projection s h) else projection s h) ≡ (if b.0 == a.0 then (ended a h + 1) else ended a h)
      go true e r = ap (λ n. if b.0 == a.0 then (n + 1) else n) r
      go false e r = r ∙ sym (cond-false _ _ _ (other b e))
  ended_projection (Began b ∷ h) = go (has s b) (ended_projection h)
    where
      go : (x : Bool) → ended a (projection s h) ≡ ended a h → ended a (if x then (Began b ∷ projection s h) else projection s h) ≡ ended a h
      go true r = r
      go false r = r

pub projections_keep_progress : ProjectionsKeepProgress
projections_keep_progress s h a k = (λ l. omega (arith, l, begun_projection s a k h, ended_projection s a k h), λ l. omega (arith, l, begun_projection s a k h, ended_projection s a k h))

module _ (xs : List (ℕ × Tree)) (wf : Every WellFormed xs) (h : List Event) (l : Legal xs h) where
  each_blocks : (a : OpId) → Every (λ s. Blocks a (on_tree (now h) s) ↔ Forbids h a s) xs
  each_blocks a = every_both (λ s w k. blocks_forbids s w h k a) xs wf l

  firsts : (a : OpId) (p : ℕ) → First (Blocks a) (after xs h) p ↔ First (Forbids h a) xs p
  firsts a p = (
    λ f. first_same (λ s. Blocks a (on_tree (now h) s)) (Forbids h a) xs (each_blocks a) p (first_to (Blocks a) (now h) xs p (subst (λ m. First (Blocks a) m p) (after_placed xs h) f)),
    λ f. subst (λ m. First (Blocks a) m p) (sym (after_placed xs h)) (first_from (Blocks a) (now h) xs p (first_same (Forbids h a) (λ s. Blocks a (on_tree (now h) s)) xs (turned (λ s. Blocks a (on_tree (now h) s)) (Forbids h a) xs (each_blocks a)) p f)),
  )

  nones : (a : OpId) → NoneOf (Blocks a) (after xs h) ↔ Every (λ s. Blocks a (on_tree (now h) s) → ⊥) xs
  nones a = (
    λ f. every_to (λ r. Blocks a r → ⊥) (now h) xs (subst (λ m. NoneOf (Blocks a) m) (after_placed xs h) f),
    λ f. subst (λ m. NoneOf (Blocks a) m) (sym (after_placed xs h)) (every_from (λ r. Blocks a r → ⊥) (now h) xs f),
  )

  starts : (a : OpId) → NoneOf (Blocks a) (after xs h) ↔ Legal xs (h ++ Began a ∷ [])
  starts a = (
    λ n. every_both {P = λ s. (Blocks a (on_tree (now h) s) → ⊥) ↔ LegalOn s (h ++ Began a ∷ [])} {Q = λ s. Blocks a (on_tree (now h) s) → ⊥} {R = λ s. LegalOn s (h ++ Began a ∷ [])} (λ s i k. i.0 k) xs legal_if ((nones a).0 n),
    λ k. (nones a).1 (every_both {P = λ s. (Blocks a (on_tree (now h) s) → ⊥) ↔ LegalOn s (h ++ Began a ∷ [])} {Q = λ s. LegalOn s (h ++ Began a ∷ [])} {R = λ s. Blocks a (on_tree (now h) s) → ⊥} (λ s i k. i.1 k) xs legal_if k),
  )
    where
      legal_if : Every (λ s. (Blocks a (on_tree (now h) s) → ⊥) ↔ LegalOn s (h ++ Began a ∷ [])) xs
      legal_if = every_both (λ s w k. lets_legal s w h k a) xs wf l

  ends : (a : OpId) → ((s : Tree) → Names s a → InProgress a h) → Legal xs (h ++ Ended a ∷ [])
  ends a g = every_both (λ s w k. ((each_path_guards s w).finishes h a k).0 (λ n. (projections_keep_progress s h a n).1 (g s n))) xs wf l

  judged : Judged xs h
  judged = record {
    first = firsts;
    none = λ a. (λ n. none_same (λ s. Blocks a (on_tree (now h) s)) (Forbids h a) xs (each_blocks a) ((nones a).0 n), λ n. (nones a).1 (none_same (Forbids h a) (λ s. Blocks a (on_tree (now h) s)) xs (turned (λ s. Blocks a (on_tree (now h) s)) (Forbids h a) xs (each_blocks a)) n));
    each = λ a. subst (λ m. Every (λ r. Blocks a r ↔ Forbids h a r.tree) m) (sym (after_placed xs h)) (every_from (λ r. Blocks a r ↔ Forbids h a r.tree) (now h) xs (each_blocks a));
    decided = λ a. none_or_first (Blocks a) (blocks_or a) (after xs h);
    starts = starts;
    finishes = λ a g. ends a (λ s k. g);
    unnamed = unnamed;
  }
    where
      unnamed : (a : OpId) → NoneOf (λ s. Names s a) xs → NoneOf (Blocks a) (after xs h) × Legal xs (h ++ Began a ∷ []) × Legal xs (h ++ Ended a ∷ [])
      unnamed a n = (free, (starts a).0 free, every_both {P = λ s. Names s a → ⊥} {Q = λ s. (Names s a → ⊥) → LegalOn s (h ++ Ended a ∷ [])} {R = λ s. LegalOn s (h ++ Ended a ∷ [])} (λ s p x. x p) xs n (every_both (λ s w k n. ((each_path_guards s w).finishes h a k).0 (λ m. absurd (n m))) xs wf l))
        where
          free : NoneOf (Blocks a) (after xs h)
          free = (nones a).1 (every_map {P = λ s. Names s a → ⊥} {Q = λ s. Blocks a (on_tree (now h) s) → ⊥} (λ s k b. k b.0) xs n)

pub all_paths_judge : AllPathsJudge
all_paths_judge xs wf h l = judged xs wf h l

-- starts only block
pub each_block_stays : EachBlockStays
each_block_stays s wf h a b f = (f.0, λ x. f.1 ((each_path_guards s wf).starts_only_block h a b (subst (LegalOn s) (append_assoc h (Began a ∷ []) (Began b ∷ [])) x)))

stays : (s : Tree) → WellFormed s → (u : List OpId) (h : List Event) (b : OpId) → Forbids h b s → Forbids (h ++ starts_of u) b s
stays s wf [] h b f = subst (λ g. Forbids g b s) (sym (append-nil h)) f
stays s wf (a ∷ u) h b f = subst (λ g. Forbids g b s) (append_assoc h (Began a ∷ []) (starts_of u)) (stays s wf u (h ++ Began a ∷ []) b (each_block_stays s wf h a b f))

pub legal_front : (s : Tree) → WellFormed s → (x y : List Event) → LegalOn s (x ++ y) → LegalOn s x
legal_front s wf x y k = front s wf (projection s x) (projection s y) (subst (Behaves s) (projection_append s x y) k)

pub starts_only_block : StartsOnlyBlock
starts_only_block ss wf h u l b p f = (r.0, back, r.2)
  where
    xs : List (ℕ × Tree)
    xs = numbered 0 ss

    g : List Event
    g = h ++ starts_of u

    l' : Legal xs h
    l' = every_both (λ s w k. legal_front s w h (starts_of u) k) xs wf l

    more : Every (λ s. Blocks b (on_tree (now h) s) → Blocks b (on_tree (now g) s)) xs
    more = every_both {P = λ s. Blocks b (on_tree (now h) s) → Forbids g b s} {Q = λ s. Forbids g b s → Blocks b (on_tree (now g) s)} {R = λ s. Blocks b (on_tree (now h) s) → Blocks b (on_tree (now g) s)} (λ s x y k. y (x k)) xs one two
      where
        one : Every (λ s. Blocks b (on_tree (now h) s) → Forbids g b s) xs
        one = every_both (λ s w k m. stays s w u h b ((blocks_forbids s w h k b).0 m)) xs wf l'

        two : Every (λ s. Forbids g b s → Blocks b (on_tree (now g) s)) xs
        two = every_both (λ s w k. (blocks_forbids s w g k b).1) xs wf l

    r : (q : ℕ) × First (λ s. Blocks b (on_tree (now g) s)) xs q × (q ≤ p)
    r = earlier (λ s. Blocks b (on_tree (now h) s)) (λ s. Blocks b (on_tree (now g) s)) (λ s. blocks_or b (on_tree (now g) s)) 0 ss more p (first_to (Blocks b) (now h) xs p (subst (λ m. First (Blocks b) m p) (after_placed xs h) f))

    back : First (Blocks b) (after xs g) r.0
    back = subst (λ m. First (Blocks b) m r.0) (sym (after_placed xs g)) (first_from (Blocks b) (now g) xs r.0 r.1)

run_append : (m : List (ℕ × Running)) (h u : List Event) → run m (h ++ u) ≡ run (run m h) u
run_append m [] u = refl
run_append m (e ∷ h) u = run_append (moved e m) h u

pub each_event_moves : EachEventMoves
each_event_moves xs h e = run_append (opened xs) h (e ∷ [])

pub first_is_one : FirstIsOne
first_is_one a [] p q f = absurd f
first_is_one a (x ∷ m) p q (inl f) = (one, λ n. n.0 f.0)
  where
    one : First (Blocks a) (x ∷ m) q → p ≡ q
    one (inl g) = f.1 ∙ sym g.1
    one (inr g) = absurd (g.0 f.0)
first_is_one a (x ∷ m) p q (inr f) = go (first_is_one a m p q f.1)
  where
    go : (First (Blocks a) m q → p ≡ q) × (NoneOf (Blocks a) m → ⊥) → (First (Blocks a) (x ∷ m) q → p ≡ q) × (NoneOf (Blocks a) (x ∷ m) → ⊥)
    go r = (one, λ n. r.1 n.1)
      where
        one : First (Blocks a) (x ∷ m) q → p ≡ q
        one (inl g) = absurd (f.0 g.0)
        one (inr g) = r.0 g.1

finish_or_starts : (w : List Event) → HasFinish w ⊎ ((u : List OpId) × (w ≡ starts_of u))
finish_or_starts [] = inr ([], refl)
finish_or_starts (Began a ∷ w) = elim (finish_or_starts w) [ inl f ↦ inl f | inr r ↦ inr (a ∷ r.0, ap (λ x. Began a ∷ x) r.1) ]
finish_or_starts (Ended a ∷ w) = inl tt

pub finishes_unblock : FinishesUnblock
finishes_unblock ss wf h w b p f l = elim (finish_or_starts w) [ inl k ↦ k | inr r ↦ absurd (no r.0 r.1) ]
  where
    no : (u : List OpId) → w ≡ starts_of u → ⊥
    no u e =
        let l' : Legal (numbered 0 ss) ((h ++ starts_of u) ++ Began b ∷ []) = subst (λ x. Legal (numbered 0 ss) ((h ++ x) ++ Began b ∷ [])) e l in
        let before : Legal (numbered 0 ss) (h ++ starts_of u) = every_both (λ s k x. legal_front s k (h ++ starts_of u) (Began b ∷ []) x) (numbered 0 ss) wf l' in
        let q = starts_only_block ss wf h u before b p f in
        (first_is_one b (after (numbered 0 ss) (h ++ starts_of u)) q.0 q.0 q.1).1 (((all_paths_judge (numbered 0 ss) wf (h ++ starts_of u) before).starts b).1 l')
