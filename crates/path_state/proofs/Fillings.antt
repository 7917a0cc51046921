-- Where bounds are kept and at most one execution is underway, a history leads there: it goes through each left operand as often as
-- executions have to stand behind it, and begins what has to be in progress.
use Rattle.std.proofs.Common.{◌≡◌, ◌⊎◌, ◌==◌, ◌<◌, ◌≤◌, ◌+◌, ℕ, zero, suc, List, [], ◌∷◌, ◌++◌, get_or, refl, sym, ap, ◌∙◌, subst, inl, inr, arith, append_assoc, append-nil}
use Rattle.std.proofs.lemmas.Bool.{ne_eqb, cond-false}
use Rattle.path_model.specs.declared.ids.OpId.{OpId}
use Rattle.path_model.specs.declared.history.Event.{Event}
use Rattle.path_model.specs.declared.history.Event.TheVariants.{Began}
use Rattle.path_model.specs.Trees.{Bound, any, most, Tree, op, seq, alt, burst, NoRepeats, NoBraces, NoNesting, WellFormed}
use Rattle.path_model.specs.Histories.{begun, ended}
use Rattle.path_model.specs.Projection.{LegalOn}
use Rattle.path_model.specs.Machine.{semicolons}
use Rattle.path_model.specs.Executions.{entered, left, TreeInProgress}
use Rattle.path_model.specs.Guarantees.{FitsBound}
use Rattle.path_model.specs.Refusals.{IsFull}
use Rattle.path_model.proofs.CallerLemmas.{entered_parts_are_underway}
use Rattle.path_state.specs.Standings.{LeadsTo}
use Rattle.path_state.specs.Pasts.{underway, BoundsFit, CanStand, EachStandingHasAPast}
use Rattle.path_state.proofs.Alike.{entered_step, left_began}
use Rattle.path_state.proofs.Standings.{whole}
use Rattle.path_state.proofs.Places.{StandAt, Counted, stand_only, underway_is, past_can_stand}
use Rattle.path_state.proofs.Blocks.{Within, Avoids, within_append, within_map, within_avoids, entries, entered_none, left_none, entered_avoids, left_avoids, entered_total, left_total, stand_stays, counted_stays, left_entered, nothing_entered}
use Rattle.path_state.proofs.Runs.{run, run_within, self_one, burst_entries, burst_exits, flat_nests, Reads, Keeping, keeps_parts, reads_first, reads_second, reads_one, reads_other, start_legal, quiet_inside, run_legal}

-- a history to where so many executions are in progress, and so many stand behind each `;`
abbrev pub repeated : ℕ → List Event → List Event
repeated zero w = []
repeated (suc k) w = w ++ repeated k w

repeated_within : (t : Tree) (k : ℕ) (w : List Event) → Within t w → Within t (repeated k w)
repeated_within t zero w p = tt
repeated_within t (suc k) w p = within_append t w (repeated k w) p (repeated_within t k w p)

abbrev pub filling : Tree → ℕ → (OpId → ℕ) → List ℕ → List Event
filling (op a) place progress stands = repeated (progress a) (Began a ∷ [])
filling (seq l r) place progress stands =
    repeated (get_or stands (place + semicolons l) 0 + underway r (place + semicolons l + 1) progress stands) (run l)
    ++ (filling l place progress stands ++ filling r (place + semicolons l + 1) progress stands)
filling (alt l r) place progress stands = filling l place progress stands ++ filling r (place + semicolons l) progress stands
filling (burst bd t) place progress stands = filling t place progress stands

filling_within : (t : Tree) (place : ℕ) (progress : OpId → ℕ) (stands : List ℕ) → Within t (filling t place progress stands)
filling_within (op a) place progress stands = repeated_within (op a) (progress a) (Began a ∷ []) (refl, tt)
filling_within (seq l r) place progress stands =
    within_append (seq l r) (repeated (get_or stands (place + semicolons l) 0 + underway r (place + semicolons l + 1) progress stands) (run l)) _
    (repeated_within (seq l r) _ (run l) (within_map l (seq l r) (λ a n. inl n) (run l) (run_within l)))
    (within_append (seq l r) (filling l place progress stands) (filling r (place + semicolons l + 1) progress stands)
    (within_map l (seq l r) (λ a n. inl n) (filling l place progress stands) (filling_within l place progress stands))
    (within_map r (seq l r) (λ a n. inr n) (filling r (place + semicolons l + 1) progress stands) (filling_within r (place + semicolons l + 1) progress stands)))
filling_within (alt l r) place progress stands =
    within_append (alt l r) (filling l place progress stands) (filling r (place + semicolons l) progress stands)
    (within_map l (alt l r) (λ a n. inl n) (filling l place progress stands) (filling_within l place progress stands))
    (within_map r (alt l r) (λ a n. inr n) (filling r (place + semicolons l) progress stands) (filling_within r (place + semicolons l) progress stands))
filling_within (burst bd t) place progress stands = within_map t (burst bd t) (λ a n. n) (filling t place progress stands) (filling_within t place progress stands)

module _ (s : Tree) (wf : WellFormed s) where
  -- the part may be entered so often: nothing opposes its entry, as long as fewer have entered it and none has left
  abbrev Admits : Tree → (List Event → Type 0) → ℕ → List Event → Type 0
  Admits t E u h = (w : List Event) → Within t w → LegalOn s (h ++ w) → entered t (h ++ w) < entered t h + u → left t (h ++ w) ≡ left t h → E (h ++ w) → ⊥

  admits_now : (t : Tree) (E : List Event → Type 0) (u : ℕ) (h : List Event) → Admits t E u h → LegalOn s h → 0 < u → E h → ⊥
  admits_now t E u h f l m e =
      f [] tt (subst (LegalOn s) (sym (append-nil h)) l) (omega (arith, m, ap (entered t) (append-nil h))) (ap (left t) (append-nil h)) (subst E (sym (append-nil h)) e)

  admits_later : (t : Tree) (E : List Event → Type 0) (u v : ℕ) (h w : List Event) → Admits t E u h → Within t w → left t (h ++ w) ≡ left t h → entered t (h ++ w) + v ≤ entered t h + u → Admits t E v (h ++ w)
  admits_later t E u v h w f p same few x q l m still e =
      f (w ++ x) (within_append t w x p q) (subst (LegalOn s) (append_assoc h w x) l)
      (omega (arith, m, few, ap (entered t) (append_assoc h w x))) (sym (ap (left t) (append_assoc h w x)) ∙ still ∙ same)
      (subst E (append_assoc h w x) e)

  admits_fewer : (t : Tree) (E : List Event → Type 0) (u v : ℕ) (h : List Event) → v ≤ u → Admits t E u h → Admits t E v h
  admits_fewer t E u v h m f w p l few same e = f w p l (omega (arith, m, few)) same e

  -- so many starts of an operation
  record Begun (b : OpId) (k : ℕ) (h g : List Event) : Type 0 where
    pub legal : LegalOn s g
    pub enters : begun b g ≡ begun b h + k
    pub leaves : ended b g ≡ ended b h

  begin_all : (b : OpId) (E : List Event → Type 0) → Reads s wf (op b) E → (k : ℕ) (h : List Event) → LegalOn s h → Admits (op b) E k h → Begun b k h (h ++ repeated k (Began b ∷ []))
  begin_all b E read zero h l f = subst (Begun b zero h) (sym (append-nil h)) (record { legal = l; enters = omega arith; leaves = refl })
  begin_all b E read (suc k) h l f =
      let one : List Event = Began b ∷ [] in
      let next = start_legal s wf b E read h l (admits_now (op b) E (suc k) h f l (omega arith)) in
      let started : begun b (h ++ one) ≡ begun b h + 1 = omega (arith, entered_step b h (Began b), self_one b) in
      let still : ended b (h ++ one) ≡ ended b h = left_began (op b) h b in
      let rest = begin_all b E read k (h ++ one) next (admits_later (op b) E (suc k) k h one f (refl, tt) still (omega (arith, started))) in
      subst (Begun b (suc k) h) (append_assoc h one (repeated k one))
      (record { legal = rest.legal; enters = omega (arith, rest.enters, started); leaves = rest.leaves ∙ still })

  -- so many whole executions of a left operand
  record Gone (l r : Tree) (E : List Event → Type 0) (m v : ℕ) (h g : List Event) : Type 0 where
    pub legal : LegalOn s g
    pub enters : entered l g ≡ entered l h + m
    pub leaves : left l g ≡ left l h + m
    pub admits : Admits (seq l r) E v g

  run_all : (l r : Tree) → NoRepeats (seq l r) → NoNesting l → Keeping s wf l → (E : List Event → Type 0) → Reads s wf l E → (m v : ℕ) (h : List Event) → LegalOn s h → entered l h ≡ left l h
      → Admits (seq l r) E (m + v) h → Gone l r E m v h (h ++ repeated m (run l))
  run_all l r n f k E read zero v h legal quiet a =
      subst (Gone l r E zero v h) (sym (append-nil h)) (record { legal = legal; enters = omega arith; leaves = omega arith; admits = admits_fewer (seq l r) E (zero + v) v h (omega arith) a })
  run_all l r n f k E read (suc m) v h legal quiet a =
      let once = run_legal s wf l n.0 f k E read h legal quiet (admits_now (seq l r) E (suc m + v) h a legal (omega arith)) in
      let within = within_map l (seq l r) (λ b n. inl n) (run l) (run_within l) in
      let same = left_avoids r h (run l) (within_avoids l r n.2 (run l) (run_within l)) in
      let rest = run_all l r n f k E read m v (h ++ run l) once.legal (omega (arith, once.enters, once.leaves, quiet))
      (admits_later (seq l r) E (suc m + v) (m + v) h (run l) a within same (omega (arith, once.enters))) in
      subst (Gone l r E (suc m) v h) (append_assoc h (run l) (repeated m (run l)))
      (record { legal = rest.legal; enters = omega (arith, rest.enters, once.enters); leaves = omega (arith, rest.leaves, once.leaves); admits = rest.admits })

  module _ (progress : OpId → ℕ) (stands : List ℕ) where
    -- the part stands so
    record Filled (t : Tree) (place : ℕ) (h g : List Event) : Type 0 where
      pub legal : LegalOn s g
      pub leaves : left t g ≡ left t h
      pub counted : Counted t progress g
      pub there : StandAt t place stands g

    fill_one : (b : OpId) (place : ℕ) (h g : List Event) → begun b h ≡ ended b h → Begun b (progress b) h g → Filled (op b) place h g
    fill_one b place h g quiet a = record {
      legal = a.legal;
      leaves = a.leaves;
      counted = λ c n. subst (λ x. progress x + ended x g ≡ begun x g) (sym n) (omega (arith, a.enters, a.leaves, quiet));
      there = tt;
    }

    -- a sequence, behind whole executions of its left operand and the filling of that
    module _ (p q : Tree) (place : ℕ) (n : NoRepeats (seq p q)) (k : Keeping s wf (seq p q)) (E : List Event → Type 0) (h : List Event) (l : LegalOn s h) (quiet : entered p h ≡ left q h) where
      abbrev waiting : ℕ
      waiting = get_or stands (place + semicolons p) 0

      abbrev second : ℕ
      second = underway q (place + semicolons p + 1) progress stands

      abbrev gone : List Event
      gone = h ++ repeated (waiting + second) (run p)

      abbrev first : List Event
      first = gone ++ filling p place progress stands

      abbrev both : List Event
      both = first ++ filling q (place + semicolons p + 1) progress stands

      equal : (entered p h ≡ left p h) × (left p h ≡ entered q h) × (entered q h ≡ left q h)
      equal =
          let x = left_entered p h (k h l).0 in
          let y = left_entered q h (k h l).1 in
          let z = (k h l).2 in
          (omega (arith, x, y, z, quiet), omega (arith, x, y, z, quiet), omega (arith, x, y, z, quiet))

      first_avoids : Avoids q (repeated (waiting + second) (run p)) × Avoids q (filling p place progress stands)
      first_avoids = (
        within_avoids p q n.2 _ (repeated_within p (waiting + second) (run p) (run_within p)),
        within_avoids p q n.2 _ (filling_within p place progress stands),
      )

      second_avoids : Avoids p (filling q (place + semicolons p + 1) progress stands)
      second_avoids = within_avoids q p (λ a x y. n.2 a y x) _ (filling_within q (place + semicolons p + 1) progress stands)

      entered_before : entered q first ≡ entered q h
      entered_before = entered_avoids q gone _ first_avoids.1 ∙ entered_avoids q h _ first_avoids.0

      left_before : left q first ≡ left q h
      left_before = left_avoids q gone _ first_avoids.1 ∙ left_avoids q h _ first_avoids.0

      admits_first : (u : ℕ) → Admits (seq p q) E u gone → Admits p E u gone
      admits_first u a w x legal few same e =
          a w (within_map p (seq p q) (λ b m. inl m) w x) legal few (left_avoids q gone w (within_avoids p q n.2 w x)) e

      admits_second : left p gone ≡ left p h + (waiting + second) → left p first ≡ left p gone → Admits q (λ g. left p g ≤ entered q g) second first
      admits_second x y w z legal few same e =
          omega (arith, x, y, few, e, left_avoids p first w (within_avoids q p (λ a i j. n.2 a j i) w z), entered_before, equal.1)

      fill_two : left p gone ≡ left p h + (waiting + second) → Filled p place gone first → Filled q (place + semicolons p + 1) first both → Filled (seq p q) place h (h ++ filling (seq p q) place progress stands)
      fill_two x a b = subst (Filled (seq p q) place h)
          (append_assoc gone (filling p place progress stands) _ ∙ append_assoc h (repeated (waiting + second) (run p)) _)
          (record {
            legal = b.legal;
            leaves = b.leaves ∙ left_before;
            counted = λ c m. elim m [ inl i ↦ counted_stays p progress first _ second_avoids a.counted c i | inr j ↦ b.counted c j ];
            there = (
              stand_stays p place stands first _ second_avoids a.there,
              b.there,
              omega (
                arith,
                x,
                a.leaves,
                left_avoids p first _ second_avoids,
                underway_is q (place + semicolons p + 1) progress stands both (k both b.legal).1 b.counted b.there,
                b.leaves,
                left_before,
                equal.1,
                equal.2,
              ),
            );
          })

    -- an alternative, behind the filling of its first part
    module _ (p q : Tree) (place : ℕ) (n : NoRepeats (alt p q)) (k : Keeping s wf (alt p q)) (E : List Event → Type 0) (h : List Event) (l : LegalOn s h) (quiet : entered p h + entered q h ≡ left p h + left q h) where
      abbrev one : List Event
      one = h ++ filling p place progress stands

      abbrev other : List Event
      other = one ++ filling q (place + semicolons p) progress stands

      equals : (entered p h ≡ left p h) × (entered q h ≡ left q h)
      equals =
          let x = left_entered p h (k h l).0 in
          let y = left_entered q h (k h l).1 in
          (omega (arith, x, y, quiet), omega (arith, x, y, quiet))

      one_avoids : Avoids q (filling p place progress stands)
      one_avoids = within_avoids p q n.2 _ (filling_within p place progress stands)

      other_avoids : Avoids p (filling q (place + semicolons p) progress stands)
      other_avoids = within_avoids q p (λ a x y. n.2 a y x) _ (filling_within q (place + semicolons p) progress stands)

      admits_one : (u v : ℕ) → Admits (alt p q) E (u + v) h → Admits p E u h
      admits_one u v a w x legal few same e =
          let avoid = within_avoids p q n.2 w x in
          a w (within_map p (alt p q) (λ b m. inl m) w x) legal (omega (arith, few, entered_avoids q h w avoid)) (omega (arith, same, left_avoids q h w avoid)) e

      admits_other : (u v : ℕ) → entered p one ≡ entered p h + u → left p one ≡ left p h → Admits (alt p q) E (u + v) h → Admits q E v one
      admits_other u v x y a w z legal few same e =
          let avoid = within_avoids q p (λ a i j. n.2 a j i) w z in
          let f = filling p place progress stands in
          a (f ++ w) (within_append (alt p q) f w (within_map p (alt p q) (λ b m. inl m) f (filling_within p place progress stands)) (within_map q (alt p q) (λ b m. inr m) w z))
          (subst (LegalOn s) (append_assoc h f w) legal)
          (omega (arith, few, x, ap (entered p) (append_assoc h f w), ap (entered q) (append_assoc h f w), entered_avoids p one w avoid, entered_avoids q h f one_avoids))
          (omega (arith, same, y, ap (left p) (append_assoc h f w), ap (left q) (append_assoc h f w), left_avoids p one w avoid, left_avoids q h f one_avoids))
          (subst E (append_assoc h f w) e)

      fill_either : Filled p place h one → Filled q (place + semicolons p) one other → Filled (alt p q) place h (h ++ filling (alt p q) place progress stands)
      fill_either a b = subst (Filled (alt p q) place h) (append_assoc h (filling p place progress stands) _) (record {
        legal = b.legal;
        leaves = omega (arith, a.leaves, b.leaves, left_avoids p one _ other_avoids, left_avoids q h _ one_avoids);
        counted = λ c m. elim m [ inl i ↦ counted_stays p progress one _ other_avoids a.counted c i | inr j ↦ b.counted c j ];
        there = (stand_stays p place stands one _ other_avoids a.there, b.there);
      })

    -- braces: the first start opens them
    full_not : (bd : Bound) (t : Tree) (u : ℕ) (h g : List Event) → FitsBound bd u 0 → entered t h ≡ left t h → entered t g < entered t h + u → left t g ≡ left t h → IsFull bd t g → ⊥
    full_not any t u h g b q few same f = f
    full_not (most n) t u h g b q few same f = omega (arith, b, q, few, same, f)

    module _ (bd : Bound) (t : Tree) (place : ℕ) (flat : NoBraces t) (fits : FitsBound bd (underway t place progress stands) 0) (k : Keeping s wf (burst bd t)) (E : List Event → Type 0) (h : List Event) (l : LegalOn s h) (quiet : entered (burst bd t) h ≡ left (burst bd t) h) where
      within_quiet : entered t h ≡ left t h
      within_quiet = quiet_inside s wf bd t h (k h l) quiet

      -- where nothing in them has begun, they are as they were
      unopened : (w : List Event) → LegalOn s (h ++ w) → left t (h ++ w) ≡ left t h → entered t (h ++ w) ≤ left t (h ++ w)
          → (entered (burst bd t) (h ++ w) ≡ entered (burst bd t) h) × (left (burst bd t) (h ++ w) ≡ left (burst bd t) h)
      unopened w legal same closed =
          let none : entries t w ≡ 0 = omega (arith, entered_total t flat h w, within_quiet, same, closed) in
          let e = entered_none (burst bd t) h w (burst_entries bd t w ∙ none) in
          let b : entered (burst bd t) (h ++ w) ≡ left (burst bd t) (h ++ w) = elim (k (h ++ w) legal).2 [ inl x ↦ x.1 | inr x ↦ absurd (omega (arith, x.0, closed)) ] in
          (e, omega (arith, e, b, quiet))

      admits_within : Admits (burst bd t) E (underway (burst bd t) place progress stands) h → Admits t (λ g. IsFull bd t g ⊎ (E g × (entered t g ≤ left t g))) (underway t place progress stands) h
      admits_within a w x legal few same e = elim e [
        | inl full ↦ full_not bd t (underway t place progress stands) h (h ++ w) fits within_quiet few same full
        | inr p ↦
            let u = unopened w legal same p.1 in
            let some : 0 < underway t place progress stands = omega (arith, few, left_entered t (h ++ w) (k (h ++ w) legal).0, same, within_quiet) in
            let one = cond-false {A = ℕ} (underway t place progress stands == 0) 0 1 (ne_eqb (underway t place progress stands) 0 (λ z. omega (arith, z, some))) in
            a w (within_map t (burst bd t) (λ b m. m) w x) legal (omega (arith, u.0, one)) u.1 p.0
      ]

      fill_braces : Filled t place h (h ++ filling t place progress stands) → Filled (burst bd t) place h (h ++ filling t place progress stands)
      fill_braces a = record {
        legal = a.legal;
        leaves = left_none (burst bd t) h _ (burst_exits bd t _ ∙ omega (arith, left_total t flat h (filling t place progress stands), a.leaves));
        counted = a.counted;
        there = a.there;
      }

    filled : (t : Tree) (place : ℕ) → NoRepeats t → NoNesting t → Keeping s wf t → (E : List Event → Type 0) → Reads s wf t E → BoundsFit t place progress stands → (h : List Event) → LegalOn s h
        → entered t h ≡ left t h → Admits t E (underway t place progress stands) h → Filled t place h (h ++ filling t place progress stands)
    filled (op b) place n f k E read fit h l quiet a = fill_one b place h _ quiet (begin_all b E read (progress b) h l a)
    filled (seq p q) place n f k E read fit h l quiet a =
        let m = get_or stands (place + semicolons p) 0 + underway q (place + semicolons p + 1) progress stands in
        let u = underway p place progress stands in
        let x = run_all p q n f.0 (λ g i. (k g i).0) E (reads_first s wf p q E read) m u h l (equal p q place n k E h l quiet).0 (admits_fewer (seq p q) E _ (m + u) h (omega arith) a) in
        let y = filled p place n.0 f.0 (λ g i. (k g i).0) E (reads_first s wf p q E read) fit.0 _ x.legal (omega (arith, x.enters, x.leaves, (equal p q place n k E h l quiet).0)) (admits_first p q place n k E h l quiet u x.admits) in
        let z = filled q (place + semicolons p + 1) n.1 f.1 (λ g i. (k g i).1) (λ g. left p g ≤ entered q g) (reads_second s wf p q E n.2 read) fit.1 _ y.legal
        (omega (arith, entered_before p q place n k E h l quiet, left_before p q place n k E h l quiet, (equal p q place n k E h l quiet).2))
        (admits_second p q place n k E h l quiet x.leaves y.leaves) in
        fill_two p q place n k E h l quiet x.leaves y z
    filled (alt p q) place n f k E read fit h l quiet a =
        let u = underway p place progress stands in
        let v = underway q (place + semicolons p) progress stands in
        let e = equals p q place n k E h l quiet in
        let x = filled p place n.0 f.0 (λ g i. (k g i).0) E (reads_one s wf p q E read) fit.0 h l e.0 (admits_one p q place n k E h l quiet u v a) in
        let c : entered p (h ++ filling p place progress stands) ≡ entered p h + u = omega (arith, underway_is p place progress stands _ (k _ x.legal).0 x.counted x.there, x.leaves, e.0) in
        let avoid = one_avoids p q place n k E h l quiet in
        let y = filled q (place + semicolons p) n.1 f.1 (λ g i. (k g i).1) E (reads_other s wf p q E n.2 read) fit.1 _ x.legal
        (omega (arith, entered_avoids q h _ avoid, left_avoids q h _ avoid, e.1))
        (admits_other p q place n k E h l quiet u v c x.leaves a) in
        fill_either p q place n k E h l quiet x y
    filled (burst bd t) place n f k E read fit h l quiet a =
        fill_braces bd t place f.0 fit.1 k E h l quiet
        (filled t place n (flat_nests t f.0) (λ g i. (k g i).0) (λ g. IsFull bd t g ⊎ (E g × (entered t g ≤ left t g))) read fit.0 h l
        (within_quiet bd t place f.0 fit.1 k E h l quiet) (admits_within bd t place f.0 fit.1 k E h l quiet a))

    pub filling_leads : CanStand s progress stands → LeadsTo s progress stands (filling s 0 progress stands)
    filling_leads c =
        record { legal = a.legal; counted = a.counted; standing = stand_only s (filling s 0 progress stands) stands (keeps_parts s wf _ a.legal) c.places a.there }
      where
        none : (entered s [] ≡ 0) × (left s [] ≡ 0)
        none = nothing_entered s

        alone : Admits s (λ g. TreeInProgress s g) (underway s 0 progress stands) []
        alone w x legal few same e =
            let u = (entered_parts_are_underway s wf w legal s (whole s)).1 e in
            omega (arith, u, few, same, none.0, none.1, c.one)

        a : Filled s 0 [] (filling s 0 progress stands)
        a = filled s 0 wf.names_once wf.not_nested (keeps_parts s wf) (λ g. TreeInProgress s g) (λ h a n x. x) c.bounds [] ([], ([], refl)) (omega (arith, none.0, none.1)) alone

pub each_standing_has_a_past : EachStandingHasAPast
each_standing_has_a_past s wf progress stands = (
  (λ c. (filling s 0 progress stands, filling_leads s wf progress stands c)),
  λ p. past_can_stand s wf progress stands p.0 p.1,
)
