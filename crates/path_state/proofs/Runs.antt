-- Whole executions of the parts of a path: where nothing opposes its first start, one may be added to a history.
use Rattle.std.proofs.Common.{◌≡◌, ◌⊎◌, ◌==◌, if◌then◌else◌, ◌≤◌, ◌+◌, ℕ, Bool, true, false, List, [], ◌∷◌, ◌++◌, refl, sym, ap, ◌∙◌, subst, inl, inr, arith, append_assoc}
use Rattle.std.proofs.lemmas.Bool.{cases_Bool, eq-eqb, cond-true}
use Rattle.path_model.specs.declared.ids.OpId.{OpId}
use Rattle.path_model.specs.declared.history.Event.{Event}
use Rattle.path_model.specs.declared.history.Event.TheVariants.{Began, Ended}
use Rattle.path_model.specs.Trees.{Bound, any, most, BoundAdmits, Tree, op, seq, alt, burst, Names, NoRepeats, NoBraces, NoNesting, WellFormed, has}
use Rattle.path_model.specs.Histories.{begun, ended}
use Rattle.path_model.specs.Projection.{LegalOn}
use Rattle.path_model.specs.Executions.{entered, left}
use Rattle.path_model.specs.Guarantees.{PartsKeep}
use Rattle.path_model.specs.Refusals.{IsFull, Where, Against, StandsAgainst}
use Rattle.path_model.proofs.CallerLemmas.{each_path_keeps_its_counts, starts_are_legal_unless_opposed, finishes_are_legal_in_progress, each_front_is_legal, has_names, names_has}
use Rattle.path_state.proofs.Alike.{entered_step, left_began}
use Rattle.path_state.proofs.Blocks.{Within, Avoids, within_append, within_map, within_avoids, entries, exits, entries_append, avoid_entries, entered_none, entered_avoids, left_avoids, entered_total, left_total, left_entered}

-- one whole execution of a tree: its first start, and the rest
abbrev pub first_of_run : Tree → OpId
first_of_run (op a) = a
first_of_run (seq l r) = first_of_run l
first_of_run (alt l r) = first_of_run l
first_of_run (burst bd t) = first_of_run t

abbrev pub rest_of_run : Tree → List Event
rest_of_run (op a) = Ended a ∷ []
rest_of_run (seq l r) = rest_of_run l ++ Began (first_of_run r) ∷ rest_of_run r
rest_of_run (alt l r) = rest_of_run l
rest_of_run (burst bd t) = rest_of_run t

abbrev pub run : Tree → List Event
run t = Began (first_of_run t) ∷ rest_of_run t

first_named : (t : Tree) → Names t (first_of_run t)
first_named (op a) = refl
first_named (seq l r) = inl (first_named l)
first_named (alt l r) = inl (first_named l)
first_named (burst bd t) = first_named t

rest_within : (t : Tree) → Within t (rest_of_run t)
rest_within (op a) = (refl, tt)
rest_within (seq l r) =
    within_append (seq l r) (rest_of_run l) (run r) (within_map l (seq l r) (λ a n. inl n) (rest_of_run l) (rest_within l))
    (inr (first_named r), within_map r (seq l r) (λ a n. inr n) (rest_of_run r) (rest_within r))
rest_within (alt l r) = within_map l (alt l r) (λ a n. inl n) (rest_of_run l) (rest_within l)
rest_within (burst bd t) = rest_within t

pub run_within : (t : Tree) → Within t (run t)
run_within t = (first_named t, rest_within t)

pub self_one : (b : OpId) → ◌≡◌ {A = ℕ} (if b.0 == b.0 then 1 else 0) 1
self_one b = cond-true {A = ℕ} (b.0 == b.0) 1 0 (eq-eqb b.0 b.0 refl)

-- entries of a tree are entries of its parts
pub seq_entries : (l r : Tree) (w : List Event) → entries (seq l r) w ≡ entries l w
seq_entries l r [] = refl
seq_entries l r (e ∷ w) = omega (arith, seq_entries l r w)

pub alt_entries : (l r : Tree) (w : List Event) → entries (alt l r) w ≡ entries l w + entries r w
alt_entries l r [] = refl
alt_entries l r (e ∷ w) = omega (arith, alt_entries l r w)

pub burst_entries : (bd : Bound) (t : Tree) (w : List Event) → entries (burst bd t) w ≡ entries t w
burst_entries bd t [] = refl
burst_entries bd t (e ∷ w) = omega (arith, burst_entries bd t w)

pub burst_exits : (bd : Bound) (t : Tree) (w : List Event) → exits (burst bd t) w ≡ exits t w
burst_exits bd t [] = refl
burst_exits bd t (e ∷ w) = omega (arith, burst_exits bd t w)

-- the rest doesn't enter the tree once more
pub rest_enters_none : (t : Tree) → NoRepeats t → entries t (rest_of_run t) ≡ 0
rest_enters_none (op a) n = refl
rest_enters_none (seq l r) n = omega (
  arith,
  entries_append l (rest_of_run l) (run r),
  rest_enters_none l n.0,
  avoid_entries l (run r) (within_avoids r l (λ a p q. n.2 a q p) (run r) (run_within r)),
  seq_entries l r (rest_of_run (seq l r)),
)
rest_enters_none (alt l r) n = omega (
  arith,
  rest_enters_none l n.0,
  avoid_entries r (rest_of_run l) (within_avoids l r n.2 (rest_of_run l) (rest_within l)),
  alt_entries l r (rest_of_run l),
)
rest_enters_none (burst bd t) n = burst_entries bd t (rest_of_run t) ∙ rest_enters_none t n

pub flat_nests : (t : Tree) → NoBraces t → NoNesting t
flat_nests (op a) f = tt
flat_nests (seq l r) f = (flat_nests l f.0, flat_nests r f.1)
flat_nests (alt l r) f = (flat_nests l f.0, flat_nests r f.1)
flat_nests (burst bd t) f = absurd f

where_yes : (b : Bool) (P Q : Type 0) → b ≡ true → Where b P Q → P
where_yes b P Q e w = subst (λ c. Where c P Q) e w

where_no : (b : Bool) (P Q : Type 0) → b ≡ false → Where b P Q → Q
where_no b P Q e w = subst (λ c. Where c P Q) e w

module _ (s : Tree) (wf : WellFormed s) where
  pub keeps_parts : (h : List Event) → LegalOn s h → PartsKeep s h
  keeps_parts h l = (each_path_keeps_its_counts s wf h l).parts

  -- the entries of a part of the path are opposed by this
  abbrev pub Reads : Tree → (List Event → Type 0) → Type 0
  Reads t E = (h : List Event) (a : OpId) → Names t a → StandsAgainst s h a → Against t h a (E h)

  pub reads_first : (l r : Tree) (E : List Event → Type 0) → Reads (seq l r) E → Reads l E
  reads_first l r E f h a n x = where_yes (has l a) _ _ (has_names l a n) (f h a (inl n) x)

  has_not : (l r : Tree) → ((b : OpId) → Names l b → Names r b → ⊥) → (a : OpId) → Names r a → has l a ≡ false
  has_not l r apart a n = elim (cases_Bool (has l a)) [ inl k ↦ absurd (apart a (names_has l a k) n) | inr k ↦ k ]

  pub reads_second : (l r : Tree) (E : List Event → Type 0) → ((b : OpId) → Names l b → Names r b → ⊥) → Reads (seq l r) E → Reads r (λ h. left l h ≤ entered r h)
  reads_second l r E apart f h a n x = where_no (has l a) _ _ (has_not l r apart a n) (f h a (inr n) x)

  pub reads_one : (l r : Tree) (E : List Event → Type 0) → Reads (alt l r) E → Reads l E
  reads_one l r E f h a n x = where_yes (has l a) _ _ (has_names l a n) (f h a (inl n) x)

  pub reads_other : (l r : Tree) (E : List Event → Type 0) → ((b : OpId) → Names l b → Names r b → ⊥) → Reads (alt l r) E → Reads r E
  reads_other l r E apart f h a n x = where_no (has l a) _ _ (has_not l r apart a n) (f h a (inr n) x)

  pub start_legal : (b : OpId) (E : List Event → Type 0) → Reads (op b) E → (h : List Event) → LegalOn s h → (E h → ⊥) → LegalOn s (h ++ Began b ∷ [])
  start_legal b E f h l free = (starts_are_legal_unless_opposed s wf h l b).1 (λ n x. free (f h b refl x))

  -- the parts of a part of the path keep their counts
  abbrev pub Keeping : Tree → Type 0
  Keeping t = (h : List Event) → LegalOn s h → PartsKeep t h

  -- a whole execution was added
  pub record Ran (t : Tree) (h : List Event) : Type 0 where
    pub legal : LegalOn s (h ++ run t)
    pub enters : entered t (h ++ run t) ≡ entered t h + 1
    pub leaves : left t (h ++ run t) ≡ left t h + 1

  run_one : (b : OpId) (E : List Event → Type 0) → Reads (op b) E → (h : List Event) → LegalOn s h → begun b h ≡ ended b h → (E h → ⊥) → Ran (op b) h
  run_one b E f h l q free = record {
    legal = subst (LegalOn s) (append_assoc h (Began b ∷ []) (Ended b ∷ [])) ((finishes_are_legal_in_progress s wf (h ++ Began b ∷ []) begins b).1 (λ n. omega (arith, started, same, q)));
    enters = omega (arith, entered_total (op b) tt h (run (op b)), self_one b);
    leaves = omega (arith, left_total (op b) tt h (run (op b)), self_one b);
  }
    where
      begins : LegalOn s (h ++ Began b ∷ [])
      begins = start_legal b E f h l free

      started : begun b (h ++ Began b ∷ []) ≡ begun b h + 1
      started = omega (arith, entered_step b h (Began b), self_one b)

      same : ended b (h ++ Began b ∷ []) ≡ ended b h
      same = left_began (op b) h b

  -- of braces, each pair is open once while something in it is underway
  pub quiet_inside : (bd : Bound) (t : Tree) (h : List Event) → PartsKeep (burst bd t) h → entered (burst bd t) h ≡ left (burst bd t) h → entered t h ≡ left t h
  quiet_inside bd t h k q = elim k.2 [ inl x ↦ x.0 | inr x ↦ absurd (omega (arith, x.1, q)) ]

  not_full : (bd : Bound) (t : Tree) (h : List Event) → BoundAdmits bd 0 → entered t h ≡ left t h → IsFull bd t h → ⊥
  not_full any t h b q f = f
  not_full (most n) t h b q f = omega (arith, b, q, f)

  module _ (bd : Bound) (t : Tree) (n : NoRepeats t) (k : Keeping (burst bd t)) (h : List Event) (l : LegalOn s h) (quiet : entered (burst bd t) h ≡ left (burst bd t) h) (a : Ran t h) where
    begun_run : List Event
    begun_run = h ++ Began (first_of_run t) ∷ []

    -- braces are opened by the first start of an execution in them, and closed by its last finish
    run_braces : Ran (burst bd t) h
    unfolding begun_run
    run_braces = record {
      legal = a.legal;
      enters = omega (arith, opened, ap (entered (burst bd t)) all, entered_none (burst bd t) begun_run (rest_of_run t) (rest_enters_none (burst bd t) n), quiet);
      leaves = omega (arith, opened, ap (entered (burst bd t)) all, entered_none (burst bd t) begun_run (rest_of_run t) (rest_enters_none (burst bd t) n), closed, quiet);
    }
      where
        all : begun_run ++ rest_of_run t ≡ h ++ run t
        all = append_assoc h (Began (first_of_run t) ∷ []) (rest_of_run t)

        begins : LegalOn s begun_run
        begins = each_front_is_legal s begun_run (rest_of_run t) (subst (LegalOn s) (sym all) a.legal)

        inside : entered t begun_run ≡ entered t h + 1
        inside = omega (arith, a.enters, ap (entered t) all, entered_none t begun_run (rest_of_run t) (rest_enters_none t n))

        still : left t begun_run ≡ left t h
        still = left_began t h (first_of_run t)

        within : entered t h ≡ left t h
        within = quiet_inside bd t h (k h l) quiet

        opened : entered (burst bd t) begun_run ≡ left (burst bd t) h + 1
        opened = elim (k begun_run begins).2 [ inl x ↦ absurd (omega (arith, x.0, inside, still, within)) | inr x ↦ omega (arith, x.1, left_began (burst bd t) h (first_of_run t)) ]

        closed : entered (burst bd t) (h ++ run t) ≡ left (burst bd t) (h ++ run t)
        closed = elim (k (h ++ run t) a.legal).2 [ inl x ↦ x.1 | inr x ↦ absurd (omega (arith, x.0, a.enters, a.leaves, within)) ]

  run_two : (l r : Tree) → NoRepeats (seq l r) → (h : List Event) → PartsKeep (seq l r) h → entered (seq l r) h ≡ left (seq l r) h → Ran l h
      → ((entered r (h ++ run l) ≡ left r (h ++ run l)) → (left l (h ++ run l) ≤ entered r (h ++ run l) → ⊥) → Ran r (h ++ run l)) → Ran (seq l r) h
  run_two l r n h k quiet a next = record {
    legal = subst (LegalOn s) all b.legal;
    enters = omega (arith, ap (entered l) all, entered_avoids l (h ++ run l) (run r) (within_avoids r l (λ a p q. n.2 a q p) (run r) (run_within r)), a.enters);
    leaves = omega (arith, ap (left r) all, b.leaves, left_same);
  }
    where
      avoid : Avoids r (run l)
      avoid = within_avoids l r n.2 (run l) (run_within l)

      entered_same : entered r (h ++ run l) ≡ entered r h
      entered_same = entered_avoids r h (run l) avoid

      left_same : left r (h ++ run l) ≡ left r h
      left_same = left_avoids r h (run l) avoid

      equal : (left l h ≡ entered r h) × (entered r h ≡ left r h)
      equal = (omega (arith, left_entered l h k.0, left_entered r h k.1, k.2, quiet), omega (arith, left_entered l h k.0, left_entered r h k.1, k.2, quiet))

      b : Ran r (h ++ run l)
      b = next (omega (arith, entered_same, left_same, equal.1)) (λ x. omega (arith, x, a.leaves, entered_same, equal.0))

      all : (h ++ run l) ++ run r ≡ h ++ run (seq l r)
      all = append_assoc h (run l) (run r)

  pub run_legal : (t : Tree) → NoRepeats t → NoNesting t → Keeping t → (E : List Event → Type 0) → Reads t E → (h : List Event) → LegalOn s h → entered t h ≡ left t h → (E h → ⊥) → Ran t h
  run_legal (op b) n f k E read h l quiet free = run_one b E read h l quiet free
  run_legal (seq p q) n f k E read h l quiet free =
      run_two p q n h (k h l) quiet
      (run_legal p n.0 f.0 (λ g m. (k g m).0) E (reads_first p q E read) h l (omega (arith, left_entered p h (k h l).0, left_entered q h (k h l).1, (k h l).2, quiet)) free)
      (λ still full. run_legal q n.1 f.1 (λ g m. (k g m).1) (λ g. left p g ≤ entered q g) (reads_second p q E n.2 read) (h ++ run p)
      (run_legal p n.0 f.0 (λ g m. (k g m).0) E (reads_first p q E read) h l (omega (arith, left_entered p h (k h l).0, left_entered q h (k h l).1, (k h l).2, quiet)) free).legal still full)
  run_legal (alt p q) n f k E read h l quiet free =
      let a = run_legal p n.0 f.0 (λ g m. (k g m).0) E (reads_one p q E read) h l (omega (arith, left_entered p h (k h l).0, left_entered q h (k h l).1, quiet)) free in
      let avoid = within_avoids p q n.2 (run p) (run_within p) in
      record {
        legal = a.legal;
        enters = omega (arith, a.enters, entered_avoids q h (run p) avoid);
        leaves = omega (arith, a.leaves, left_avoids q h (run p) avoid);
      }
  run_legal (burst bd t) n f k E read h l quiet free =
      let within : entered t h ≡ left t h = quiet_inside bd t h (k h l) quiet in
      run_braces bd t n k h l quiet
      (run_legal t n (flat_nests t f.0) (λ g m. (k g m).0) (λ g. IsFull bd t g ⊎ (E g × (entered t g ≤ left t g))) read h l within
      (λ z. elim z [ inl full ↦ not_full bd t h f.1 within full | inr p ↦ free p.0 ]))
