-- The semaphores, read upwards from each name, have the counts for their values.
use Rattle.std.proofs.Common.{◌≡◌, ◌⊎◌, ◌<◌, ◌+◌, ℕ, List, [], ◌∷◌, ◌++◌, refl, sym, ap, ◌∙◌, subst, inl, inr, arith}
use Rattle.std.proofs.lemmas.List.{append_assoc}
use Rattle.std.proofs.lemmas.Bool.{eqb-true, eq-eqb, cond-true, cond-false}
use Rattle.path_model.specs.declared.ids.OpId.{OpId}
use Rattle.path_model.specs.declared.history.Event.{Event}
use Rattle.path_model.specs.declared.history.Event.TheVariants.{Began}
use Rattle.path_model.specs.Trees.{Bound, any, most, BoundAdmits, Tree, op, seq, alt, burst, Names, NoRepeats, NoBraces, NoNesting, has}
use Rattle.path_model.proofs.Counts.{count, inn, out, May, May-names}
use Rattle.path_model.proofs.Same.{May_weaken}
use Rattle.std.proofs.Common.{true, false, ◌↔◌}
use Rattle.std.proofs.lemmas.Bool.{or_left, or_right, or_cases, false_from_ne_true}
use Rattle.path_model.specs.BurstCounts.{Spare}
use Rattle.path_model.specs.Machine.{through, semicolons, braces, Above, LeftOf, RightOf, Within, above, Plain, waits_on, prologue_below, Values, Passes}
use Rattle.path_model.proofs.Path.{flat_fits}

pub has_names : (s : Tree) (a : OpId) → Names s a → has s a ≡ true
has_names (op b) a h = eq-eqb a.0 b.0 (ap (λ x. x.0) h)
has_names (seq s t) a (inl h) = or_left (has s a) (has t a) (has_names s a h)
has_names (seq s t) a (inr h) = or_right (has s a) (has t a) (has_names t a h)
has_names (alt s t) a (inl h) = or_left (has s a) (has t a) (has_names s a h)
has_names (alt s t) a (inr h) = or_right (has s a) (has t a) (has_names t a h)
has_names (burst bd s) a h = has_names s a h

pub names_has : (s : Tree) (a : OpId) → has s a ≡ true → Names s a
names_has (op b) a h = ap (λ n. record { 0 = n }) (eqb-true a.0 b.0 h)
names_has (seq s t) a h = elim (or_cases (has s a) (has t a) h) [ inl k ↦ inl (names_has s a k) | inr k ↦ inr (names_has t a k) ]
names_has (alt s t) a h = elim (or_cases (has s a) (has t a) h) [ inl k ↦ inl (names_has s a k) | inr k ↦ inr (names_has t a k) ]
names_has (burst bd s) a h = names_has s a h

pub has_not : (s : Tree) (a : OpId) → (Names s a → ⊥) → has s a ≡ false
has_not s a n = false_from_ne_true (has s a) (λ h. n (names_has s a h))

pub path_left : (s t : Tree) (n m : ℕ) (a : OpId) (up : List Above) → Names s a → above (seq s t) n m a ++ up ≡ above s n m a ++ LeftOf (n + semicolons s) ∷ up
path_left s t n m a up k = ap (λ l. l ++ up) (cond-true _ _ _ (has_names s a k)) ∙ append_assoc (above s n m a) (LeftOf (n + semicolons s) ∷ []) up

pub path_right : (s t : Tree) (n m : ℕ) (a : OpId) (up : List Above) → (Names s a → ⊥) → above (seq s t) n m a ++ up ≡ above t (n + semicolons s + 1) (m + braces s) a ++ RightOf (n + semicolons s) ∷ up
path_right s t n m a up k = ap (λ l. l ++ up) (cond-false _ _ _ (has_not s a k)) ∙ append_assoc (above t (n + semicolons s + 1) (m + braces s) a) (RightOf (n + semicolons s) ∷ []) up

pub path_one : (s t : Tree) (n m : ℕ) (a : OpId) (up : List Above) → Names s a → above (alt s t) n m a ++ up ≡ above s n m a ++ up
path_one s t n m a up k = ap (λ l. l ++ up) (cond-true _ _ _ (has_names s a k))

pub path_other : (s t : Tree) (n m : ℕ) (a : OpId) (up : List Above) → (Names s a → ⊥) → above (alt s t) n m a ++ up ≡ above t (n + semicolons s) (m + braces s) a ++ up
path_other s t n m a up k = ap (λ l. l ++ up) (cond-false _ _ _ (has_not s a k))

pub path_in : (bd : Bound) (s : Tree) (n m : ℕ) (a : OpId) (up : List Above) → above (burst bd s) n m a ++ up ≡ above s n (m + 1) a ++ Within bd m ∷ up
path_in bd s n m a up = append_assoc (above s n (m + 1) a) (Within bd m ∷ []) up

-- the values are those of the counts
abbrev pub Holds : Tree → ℕ → ℕ → List Event → Values → Type 0
Holds (op b) n m h v = Unit {0}
Holds (seq s t) n m h v =
    Holds s n m h v × Holds t (n + semicolons s + 1) (m + braces s) h v × (v.semaphore (n + semicolons s) + inn t h ≡ out s h)
Holds (alt s t) n m h v = Holds s n m h v × Holds t (n + semicolons s) (m + braces s) h v
Holds (burst bd s) n m h v = Holds s n (m + 1) h v × (v.counter m ≡ count s 0 h) × Spare bd (v.bound m) (count s 0 h)

-- no braces stand above, below the semicolon that is waited on
abbrev pub Clear : List Above → Type 0
Clear up = prologue_below up ≡ Plain (waits_on up)

pub through_passes : (b : Bound) (m q : ℕ) (v : Values) (c : ℕ) → Spare b (v.bound m) c → Passes (through b m q) v ↔ (((0 < v.counter m) ⊎ (0 < v.semaphore q)) × BoundAdmits b c)
through_passes any m q v c h = (λ p. (p, tt), λ p. p.0)
through_passes (most n) m q v c h = (λ p. (p.0, (let l = p.1 in omega (arith, l, h))), λ p. (p.0, (let l = p.1 in omega (arith, l, h))))

-- the prologue can pass exactly when the operation may begin
pub pass_may : (s : Tree) → NoRepeats s → NoNesting s → (n m : ℕ) (a : OpId) (up : List Above) → NoBraces s ⊎ Clear up → Names s a → (h : List Event) (v : Values) → Holds s n m h v → Passes (prologue_below (above s n m a ++ up)) v ↔ May s h (Began a) (Passes (prologue_below up) v)
pass_may (op b) nr nn n m a up c k h v H = (λ p. (k, p), λ q. q.1)
pass_may (seq s t) nr nn n m a up c (inl k) h v H =
    let c' : NoBraces s ⊎ Clear up = elim c [ inl f ↦ inl f.0 | inr g ↦ inr g ] in
    let r = pass_may s nr.0 nn.0 n m a (LeftOf (n + semicolons s) ∷ up) c' k h v H.0 in
    let e = ap (λ l. Passes (prologue_below l) v) (path_left s t n m a up k) in
    (λ p. inl (r.0 (subst (λ X. X) e p)), λ q. subst (λ X. X) (sym e) (r.1 (back q)))
  where
    back : May s h (Began a) (Passes (prologue_below up) v) ⊎ May t h (Began a) (inn t h < out s h) → May s h (Began a) (Passes (prologue_below up) v)
    back (inl q) = q
    back (inr q) = absurd (nr.2 a k (May-names t h (Began a) _ q))
pass_may (seq s t) nr nn n m a up c (inr k) h v H =
    let r = pass_may t nr.1 nn.1 (n + semicolons s + 1) (m + braces s) a (RightOf (n + semicolons s) ∷ up) (inr refl) k h v H.1 in
    let e = ap (λ l. Passes (prologue_below l) v) (path_right s t n m a up (λ x. nr.2 a x k)) in
    (λ p. inr (May_weaken t h (Began a) (λ (l : 0 < v.semaphore (n + semicolons s)). omega (arith, l, H.2)) (r.0 (subst (λ X. X) e p))), λ q. subst (λ X. X) (sym e) (r.1 (back q)))
  where
    back : May s h (Began a) (Passes (prologue_below up) v) ⊎ May t h (Began a) (inn t h < out s h) → May t h (Began a) (0 < v.semaphore (n + semicolons s))
    back (inl q) = absurd (nr.2 a (May-names s h (Began a) _ q) k)
    back (inr q) = May_weaken t h (Began a) (λ (l : inn t h < out s h). omega (arith, l, H.2)) q
pass_may (alt s t) nr nn n m a up c (inl k) h v H =
    let c' : NoBraces s ⊎ Clear up = elim c [ inl f ↦ inl f.0 | inr g ↦ inr g ] in
    let r = pass_may s nr.0 nn.0 n m a up c' k h v H.0 in
    let e = ap (λ l. Passes (prologue_below l) v) (path_one s t n m a up k) in
    (λ p. inl (r.0 (subst (λ X. X) e p)), λ q. subst (λ X. X) (sym e) (r.1 (back q)))
  where
    back : May s h (Began a) (Passes (prologue_below up) v) ⊎ May t h (Began a) (Passes (prologue_below up) v) → May s h (Began a) (Passes (prologue_below up) v)
    back (inl q) = q
    back (inr q) = absurd (nr.2 a k (May-names t h (Began a) _ q))
pass_may (alt s t) nr nn n m a up c (inr k) h v H =
    let c' : NoBraces t ⊎ Clear up = elim c [ inl f ↦ inl f.1 | inr g ↦ inr g ] in
    let r = pass_may t nr.1 nn.1 (n + semicolons s) (m + braces s) a up c' k h v H.1 in
    let e = ap (λ l. Passes (prologue_below l) v) (path_other s t n m a up (λ x. nr.2 a x k)) in
    (λ p. inr (r.0 (subst (λ X. X) e p)), λ q. subst (λ X. X) (sym e) (r.1 (back q)))
  where
    back : May s h (Began a) (Passes (prologue_below up) v) ⊎ May t h (Began a) (Passes (prologue_below up) v) → May t h (Began a) (Passes (prologue_below up) v)
    back (inl q) = absurd (nr.2 a (May-names s h (Began a) _ q) k)
    back (inr q) = q
pass_may (burst bd s) nr nn n m a up (inl f) k h v H = absurd f
pass_may (burst bd s) nr nn n m a up (inr c) k h v H =
    let r = pass_may s nr (flat_fits s nn.0) n (m + 1) a (Within bd m ∷ up) (inl nn.0) k h v H.0 in
    let e = ap (λ l. Passes (prologue_below l) v) (path_in bd s n m a up) in
    (λ p. May_weaken s h (Began a) to (r.0 (subst (λ X. X) e p)), λ q. subst (λ X. X) (sym e) (r.1 (May_weaken s h (Began a) from q)))
  where
    two : (0 < v.counter m) ⊎ (0 < v.semaphore (waits_on up)) → Passes (prologue_below up) v ⊎ (0 < count s 0 h)
    two (inl l) = inr (omega (arith, l, H.1))
    two (inr l) = inl (subst (λ x. Passes x v) (sym c) l)

    back : Passes (prologue_below up) v ⊎ (0 < count s 0 h) → (0 < v.counter m) ⊎ (0 < v.semaphore (waits_on up))
    back (inl p) = inr (subst (λ x. Passes x v) c p)
    back (inr l) = inl (omega (arith, l, H.1))

    to : Passes (through bd m (waits_on up)) v → (Passes (prologue_below up) v ⊎ (0 < count s 0 h)) × BoundAdmits bd (count s 0 h)
    to p = let x = (through_passes bd m (waits_on up) v (count s 0 h) H.2).0 p in (two x.0, x.1)

    from : (Passes (prologue_below up) v ⊎ (0 < count s 0 h)) × BoundAdmits bd (count s 0 h) → Passes (through bd m (waits_on up)) v
    from p = (through_passes bd m (waits_on up) v (count s 0 h) H.2).1 (back p.0, p.1)
