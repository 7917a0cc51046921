-- Why a path forbids a start, in words of operations.
use Rattle.std.proofs.Common.{◌≡◌, ◌⊎◌, ◌<◌, ◌≤◌, ◌+◌, ℕ, List, [], ◌∷◌, ◌++◌, false, refl, sym, subst, inl, inr, arith}
use Rattle.std.proofs.lemmas.Bool.{cases_Bool, cases_lt}
use Rattle.path_model.specs.declared.ids.OpId.{OpId}
use Rattle.path_model.specs.declared.history.Event.{Event}
use Rattle.path_model.specs.declared.history.Event.TheVariants.{Began}
use Rattle.path_model.specs.Trees.{Bound, any, most, BoundAdmits, Tree, op, seq, alt, burst, Names, NoRepeats, NoNesting, WellFormed, has}
use Rattle.path_model.specs.Behaviour.{Behaves}
use Rattle.path_model.specs.Projection.{projection, LegalOn}
use Rattle.path_model.specs.Executions.{entered, left, TreeInProgress}
use Rattle.path_model.specs.Refusals.{IsFull, Where, Against, StandsAgainst, EachRefusalHasAReason, StartsAreLegalUnlessOpposed, FinishesAreLegalInProgress}
use Rattle.path_model.proofs.Counts.{count, inn, out, May, May-names}
use Rattle.path_model.proofs.Solo.{Meets}
use Rattle.path_model.proofs.Path.{flat_fits, meets, Live, step, live_last, behaves_live, live_behaves}
use Rattle.path_model.proofs.Steady.{Steady, live_steady}
use Rattle.path_model.proofs.Upward.{has_names, names_has, has_not}
use Rattle.path_model.proofs.AmongOthers.{project_named, each_path_guards}
use Rattle.path_model.proofs.AllPaths.{projections_keep_progress}
use Rattle.path_model.proofs.Executions.{inn_among, out_among, steady_flat}
use Rattle.path_model.proofs.Guarantees.{path_keeps, underway_to, underway_from}

-- exactly one of the two holds
abbrev Either : Type 0 → Type 0 → Type 0
Either P Q = (P ⊎ Q) × (P → Q → ⊥)

full_or : (bd : Bound) (t : Tree) (h : List Event) (c : ℕ) → c + left t h ≡ entered t h → Either (BoundAdmits bd c) (IsFull bd t h)
full_or any t h c e = (inl tt, λ r f. f)
full_or (most n) t h c e = (elim (cases_lt c n) [ inl l ↦ inl l | inr l ↦ inr (omega (arith, l, e)) ], λ r f. omega (arith, r, f, e))

-- braces that aren't full can be entered where they are open, or where they may be opened
braces_or : (P Q R F : Type 0) (c i o : ℕ) → c + o ≡ i → Either P Q → Either R F → Either ((P ⊎ (0 < c)) × R) (F ⊎ (Q × (i ≤ o)))
braces_or P Q R F c i o e x y = (one x.0 y.0, two)
  where
    one : P ⊎ Q → R ⊎ F → (((P ⊎ (0 < c)) × R) ⊎ (F ⊎ (Q × (i ≤ o))))
    one x (inr f) = inr (inl f)
    one (inl p) (inl r) = inl (inl p, r)
    one (inr q) (inl r) = elim (cases_lt 0 c) [ inl l ↦ inl (inr l, r) | inr l ↦ inr (inr (q, omega (arith, l, e))) ]

    two : ((P ⊎ (0 < c)) × R) → F ⊎ (Q × (i ≤ o)) → ⊥
    two (a, r) (inl f) = y.1 r f
    two (inl p, r) (inr (q, l)) = x.1 p q
    two (inr k, r) (inr (q, l)) = omega (arith, k, l, e)

module _ (s : Tree) (h : List Event) (a : OpId) where
  -- a start may come next exactly where nothing stands against it
  may_or : (t : Tree) → ((b : OpId) → Names t b → Names s b) → NoRepeats t → NoNesting t → Steady t (projection s h) → Names t a
      → (P Q : Type 0) → Either P Q → Either (May t (projection s h) (Began a) P) (Against t h a Q)
  may_or (op b) sub nr f y k P Q x = (elim x.0 [ inl p ↦ inl (k, p) | inr q ↦ inr q ], λ m q. x.1 m.1 q)
  may_or (seq l r) sub nr f y (inl k) P Q x =
      let e = may_or l (λ b n. sub b (inl n)) nr.0 f.0 y.0 k P Q x in
      subst (λ b. Either (May (seq l r) (projection s h) (Began a) P) (Where b (Against l h a Q) (Against r h a (left l h ≤ entered r h)))) (sym (has_names l a k))
      (elim e.0 [ inl m ↦ inl (inl m) | inr q ↦ inr q ], λ m. elim m [ inl m ↦ e.1 m | inr m ↦ absurd (nr.2 a k (May-names r (projection s h) (Began a) _ m)) ])
  may_or (seq l r) sub nr f y (inr k) P Q x =
      let z : Either (inn r (projection s h) < out l (projection s h)) (left l h ≤ entered r h) = (
        elim (cases_lt (entered r h) (left l h)) [
          | inl q ↦ inl (omega (arith, q, inn_among s r (λ b n. sub b (inr n)) h, out_among s l (λ b n. sub b (inl n)) h))
          | inr q ↦ inr q
        ],
        λ p q. omega (arith, p, q, inn_among s r (λ b n. sub b (inr n)) h, out_among s l (λ b n. sub b (inl n)) h),
      ) in
      let e = may_or r (λ b n. sub b (inr n)) nr.1 f.1 y.1 k _ _ z in
      subst (λ b. Either (May (seq l r) (projection s h) (Began a) P) (Where b (Against l h a Q) (Against r h a (left l h ≤ entered r h)))) (sym (has_not l a (λ n. nr.2 a n k)))
      (elim e.0 [ inl m ↦ inl (inr m) | inr q ↦ inr q ], λ m. elim m [ inl m ↦ absurd (nr.2 a (May-names l (projection s h) (Began a) _ m) k) | inr m ↦ e.1 m ])
  may_or (alt l r) sub nr f y (inl k) P Q x =
      let e = may_or l (λ b n. sub b (inl n)) nr.0 f.0 y.0 k P Q x in
      subst (λ b. Either (May (alt l r) (projection s h) (Began a) P) (Where b (Against l h a Q) (Against r h a Q))) (sym (has_names l a k))
      (elim e.0 [ inl m ↦ inl (inl m) | inr q ↦ inr q ], λ m. elim m [ inl m ↦ e.1 m | inr m ↦ absurd (nr.2 a k (May-names r (projection s h) (Began a) _ m)) ])
  may_or (alt l r) sub nr f y (inr k) P Q x =
      let e = may_or r (λ b n. sub b (inr n)) nr.1 f.1 y.1 k P Q x in
      subst (λ b. Either (May (alt l r) (projection s h) (Began a) P) (Where b (Against l h a Q) (Against r h a Q))) (sym (has_not l a (λ n. nr.2 a n k)))
      (elim e.0 [ inl m ↦ inl (inr m) | inr q ↦ inr q ], λ m. elim m [ inl m ↦ absurd (nr.2 a (May-names l (projection s h) (Began a) _ m) k) | inr m ↦ e.1 m ])
  may_or (burst bd t) sub nr f y k P Q x =
      let c : count t 0 (projection s h) + left t h ≡ entered t h = omega (arith, y.1, inn_among s t sub h, out_among s t sub h) in
      may_or t sub nr (flat_fits t f.0) (steady_flat t f.0 (projection s h)) k _ _
      (braces_or P Q (BoundAdmits bd (count t 0 (projection s h))) (IsFull bd t h) (count t 0 (projection s h)) (entered t h) (left t h) c x (full_or bd t h (count t 0 (projection s h)) c))

module _ (s : Tree) (wf : WellFormed s) (h : List Event) (l : LegalOn s h) (a : OpId) where
  legal_or : Names s a → Either (LegalOn s (h ++ Began a ∷ [])) (StandsAgainst s h a)
  legal_or k = (elim one.0 [ inl m ↦ inl (to m) | inr x ↦ inr x ], λ c x. one.1 (from c) x)
    where
      ms : Meets s
      ms = meets s wf.names_once wf.not_nested

      live : Live s (projection s h)
      live = behaves_live s ms (projection s h) l

      to : May s (projection s h) (Began a) (inn s (projection s h) ≤ out s (projection s h)) → LegalOn s (h ++ Began a ∷ [])
      to m = subst (Behaves s) (sym (project_named s h (Began a) k)) (live_behaves s ms _ (step (projection s h) (Began a) live m refl))

      from : LegalOn s (h ++ Began a ∷ []) → May s (projection s h) (Began a) (inn s (projection s h) ≤ out s (projection s h))
      from c = (live_last s (behaves_live s ms _ (subst (Behaves s) (project_named s h (Began a) k) c)) (projection s h) (Began a) refl).1

      root : Either (inn s (projection s h) ≤ out s (projection s h)) (TreeInProgress s h)
      root =
          let i = inn_among s s (λ b n. n) h in
          let o = out_among s s (λ b n. n) h in
          let keeps = path_keeps s wf h l in (
            elim (cases_lt (left s h) (entered s h)) [ inl x ↦ inr (underway_to h s keeps.parts x) | inr x ↦ inl (omega (arith, x, i, o)) ],
            λ x u. let v = underway_from h s keeps.parts u in omega (arith, x, v, i, o),
          )

      one : Either (May s (projection s h) (Began a) (inn s (projection s h) ≤ out s (projection s h))) (StandsAgainst s h a)
      one = may_or s h a s (λ b n. n) wf.names_once wf.not_nested (live_steady s wf.names_once wf.not_nested live) k _ _ root

  starts_legal : (Names s a → StandsAgainst s h a → ⊥) → LegalOn s (h ++ Began a ∷ [])
  starts_legal n = elim (cases_Bool (has s a)) [
    | inl k ↦ elim (legal_or (names_has s a k)).0 [ inl c ↦ c | inr x ↦ absurd (n (names_has s a k) x) ]
    | inr k ↦ ((each_path_guards s wf).starts h a l).0 (λ x. absurd (differ x k))
  ]
    where
      differ : Names s a → has s a ≡ false → ⊥
      differ x k = let y = has_names s a x in cc

pub each_refusal_has_a_reason : EachRefusalHasAReason
each_refusal_has_a_reason s wf h l a = (
  (λ f. (f.0, elim (legal_or s wf h l a f.0).0 [ inl c ↦ absurd (f.1 c) | inr x ↦ x ])),
  (λ r. (r.0, λ c. (legal_or s wf h l a r.0).1 c r.1)),
)

pub starts_are_legal_unless_opposed : StartsAreLegalUnlessOpposed
starts_are_legal_unless_opposed s wf h l a = (λ c k x. (legal_or s wf h l a k).1 c x, starts_legal s wf h l a)

pub finishes_are_legal_in_progress : FinishesAreLegalInProgress
finishes_are_legal_in_progress s wf h l a = (
  (λ c k. (projections_keep_progress s h a k).0 (((each_path_guards s wf).finishes h a l).1 c k)),
  (λ i. ((each_path_guards s wf).finishes h a l).0 (λ k. (projections_keep_progress s h a k).1 (i k))),
)
