-- The trimmed terms touch only what is kept, and a finish finds its counter above 0.
use Rattle.std.proofs.Common.{◌≡◌, ◌⊎◌, ◌<◌, ◌+◌, ℕ, List, [], ◌∷◌, ◌++◌, true, false, refl, sym, ap, ◌∙◌, subst, inl, inr, arith}
use Rattle.std.proofs.lemmas.List.{append-nil}
use Rattle.std.proofs.lemmas.Bool.{cond-true, eq-eqb}
use Rattle.path_model.specs.declared.ids.OpId.{OpId}
use Rattle.path_model.specs.declared.history.Event.{Event}
use Rattle.path_model.specs.declared.history.Event.TheVariants.{Ended}
use Rattle.path_model.specs.Trees.{Bound, any, most, Tree, op, seq, alt, burst, Names, NoRepeats, NoBraces, NoNesting, WellFormed, has}
use Rattle.path_model.specs.Behaviour.{Behaves}
use Rattle.path_model.specs.Projection.{projection}
use Rattle.path_model.specs.Machine.{semicolons, braces, Above, LeftOf, RightOf, Within, above, Term, Plain, Braced, Counted, through, signals, epilogue_below, prologue, epilogue, Values, values_after}
use Rattle.path_model.specs.Trimmed.{is_burst, does, lean, lean_prologue, lean_epilogue}
use Rattle.path_model.specs.KeptTerms.{TouchesKept, TrimmedTermsTouchTheKept, FindsCounter, FinishesFindTheirCounters}
use Rattle.path_model.proofs.Counts.{exit, foreign_exit}
use Rattle.path_model.proofs.Crowd.{out_more, sane_out}
use Rattle.path_model.proofs.Path.{Live, meets, live_last, behaves_live}
use Rattle.path_model.proofs.Steady.{Steady, inn_ended, live_steady}
use Rattle.path_model.proofs.Upward.{has_names, path_left, path_right, path_one, path_other, path_in, Holds}
use Rattle.path_model.proofs.Finishes.{ClearBack}
use Rattle.path_model.proofs.OnePath.{rooted}
use Rattle.path_model.proofs.AmongOthers.{project_named}
use Rattle.path_model.proofs.Agreement.{alone}
use Rattle.path_model.proofs.FlatNumbers.{InTable, prologue_has, epilogue_has}
use Rattle.path_model.proofs.Trimmed.{Outer, whole_term, begin_term, end_term}

true_false : true ≡ false → ⊥
true_false z = cc

-- a path that isn't one pair of braces keeps all
keeps_all : (s : Tree) → is_burst s ≡ false → (t : Term) → InTable s t → TouchesKept s (lean (is_burst s) t)
keeps_all s z t l = subst (TouchesKept s) (sym (whole_term (is_burst s) z t)) (go t l)
  where
    go : (t : Term) → InTable s t → TouchesKept s (does t)
    go (Plain q) l = (l, λ b. absurd (true_false (sym b ∙ z)))
    go (Braced c q) l = ((l.0, z), l.1, λ b. absurd (true_false (sym b ∙ z)))
    go (Counted c q) l = ((l.0, z), (l.1, λ b. absurd (true_false (sym b ∙ z))), l.2)

-- of one pair of braces the bound, and what stands within
keeps_inner : (bd : Bound) (s : Tree) (t : Term) → Outer bd t → InTable (burst bd s) t → TouchesKept (burst bd s) (lean true t)
keeps_inner any s t (inl e) l = subst (λ u. TouchesKept (burst any s) (lean true u)) (sym e) tt
keeps_inner (most n) s t (inl e) l = subst (λ u. TouchesKept (burst (most n) s) (lean true u)) (sym e) (inl (tt, refl))
keeps_inner bd s t (inr (q, e, o)) l = subst (λ u. TouchesKept (burst bd s) (lean true u)) (sym e) (subst (InTable (burst bd s)) e l, λ b. o)

keeps_both : (s : Tree) → is_burst s ≡ false → (a : OpId) → has s a ≡ true → TouchesKept s (lean_prologue s a) × TouchesKept s (lean_epilogue s a)
keeps_both s z a h = (keeps_all s z (prologue s a) (prologue_has s a h), keeps_all s z (epilogue s a) (epilogue_has s a h))

touches : (s : Tree) → WellFormed s → (a : OpId) → Names s a → TouchesKept s (lean_prologue s a) × TouchesKept s (lean_epilogue s a)
touches (op b) wf a k = keeps_both (op b) refl a (has_names (op b) a k)
touches (seq s t) wf a k = keeps_both (seq s t) refl a (has_names (seq s t) a k)
touches (alt s t) wf a k = keeps_both (alt s t) refl a (has_names (alt s t) a k)
touches (burst bd s) wf a k =
    let h = has_names (burst bd s) a k in
    let f = wf.not_nested.0 in
    (keeps_inner bd s (prologue (burst bd s) a) (begin_term bd s f a) (prologue_has (burst bd s) a h), keeps_inner bd s (epilogue (burst bd s) a) (end_term bd s f a) (epilogue_has (burst bd s) a h))

pub trimmed_terms_touch_the_kept : TrimmedTermsTouchTheKept
trimmed_terms_touch_the_kept s wf a k = touches s wf a k

-- without braces an operation either can end the tree, or gives to one of its semicolons
flat_end : (s : Tree) → NoRepeats s → NoBraces s → (n m : ℕ) (a : OpId) (up : List Above) → Names s a
    → ((exit s (Ended a) ≡ 1) × (epilogue_below (above s n m a ++ up) ≡ epilogue_below up)) ⊎ ((q : ℕ) × (epilogue_below (above s n m a ++ up) ≡ Plain q))
flat_end (op b) nr f n m a up k = inl (cond-true _ _ _ (eq-eqb a.0 b.0 (ap (λ z. z.0) k)), refl)
flat_end (seq s t) nr f n m a up (inl k) =
    let e = ap epilogue_below (path_left s t n m a up k) in
    elim (flat_end s nr.0 f.0 n m a (LeftOf (n + semicolons s) ∷ up) k) [
      | inl r ↦ inr (n + semicolons s, e ∙ r.1)
      | inr r ↦ inr (r.0, e ∙ r.1)
    ]
flat_end (seq s t) nr f n m a up (inr k) =
    let e = ap epilogue_below (path_right s t n m a up (λ z. nr.2 a z k)) in
    elim (flat_end t nr.1 f.1 (n + semicolons s + 1) (m + braces s) a (RightOf (n + semicolons s) ∷ up) k) [
      | inl r ↦ inl (r.0, e ∙ r.1)
      | inr r ↦ inr (r.0, e ∙ r.1)
    ]
flat_end (alt s t) nr f n m a up (inl k) =
    let e = ap epilogue_below (path_one s t n m a up k) in
    let z = foreign_exit t (Ended a) (nr.2 a k) in
    elim (flat_end s nr.0 f.0 n m a up k) [
      | inl r ↦ inl ((let y = r.0 in omega (arith, y, z)), e ∙ r.1)
      | inr r ↦ inr (r.0, e ∙ r.1)
    ]
flat_end (alt s t) nr f n m a up (inr k) =
    let e = ap epilogue_below (path_other s t n m a up (λ z. nr.2 a z k)) in
    let z = foreign_exit s (Ended a) (λ x. nr.2 a x k) in
    elim (flat_end t nr.1 f.1 (n + semicolons s) (m + braces s) a up k) [
      | inl r ↦ inl ((let y = r.0 in omega (arith, y, z)), e ∙ r.1)
      | inr r ↦ inr (r.0, e ∙ r.1)
    ]
flat_end (burst bd s) nr f n m a up k = absurd f

plain_finds : (t : Term) (q : ℕ) (v : Values) → t ≡ Plain q → FindsCounter t v
plain_finds t q v e = subst (λ x. FindsCounter x v) (sym e) tt

through_finds : (bd : Bound) (m q : ℕ) (v : Values) → 0 < v.counter m → FindsCounter (through bd m q) v
through_finds any m q v l = l
through_finds (most n) m q v l = l

counter_found : (s : Tree) → NoRepeats s → NoNesting s → (n m : ℕ) (a : OpId) (up : List Above) → ClearBack up → Names s a → (h : List Event) (v : Values) → Holds s n m h v → Steady s h → Steady s (h ++ Ended a ∷ [])
    → FindsCounter (epilogue_below (above s n m a ++ up)) v
counter_found (op b) nr nn n m a up c k h v H x y = plain_finds _ _ v c
counter_found (seq s t) nr nn n m a up c (inl k) h v H x y =
    subst (λ l. FindsCounter (epilogue_below l) v) (sym (path_left s t n m a up k)) (counter_found s nr.0 nn.0 n m a (LeftOf (n + semicolons s) ∷ up) refl k h v H.0 x.0 y.0)
counter_found (seq s t) nr nn n m a up c (inr k) h v H x y =
    subst (λ l. FindsCounter (epilogue_below l) v) (sym (path_right s t n m a up (λ z. nr.2 a z k)))
    (counter_found t nr.1 nn.1 (n + semicolons s + 1) (m + braces s) a (RightOf (n + semicolons s) ∷ up) c k h v H.1 x.1 y.1)
counter_found (alt s t) nr nn n m a up c (inl k) h v H x y =
    subst (λ l. FindsCounter (epilogue_below l) v) (sym (path_one s t n m a up k)) (counter_found s nr.0 nn.0 n m a up c k h v H.0 x.0 y.0)
counter_found (alt s t) nr nn n m a up c (inr k) h v H x y =
    subst (λ l. FindsCounter (epilogue_below l) v) (sym (path_other s t n m a up (λ z. nr.2 a z k))) (counter_found t nr.1 nn.1 (n + semicolons s) (m + braces s) a up c k h v H.1 x.1 y.1)
counter_found (burst bd s) nr nn n m a up c k h v H x y =
    subst (λ l. FindsCounter (epilogue_below l) v) (sym (path_in bd s n m a up)) (elim (flat_end s nr nn.0 n (m + 1) a (Within bd m ∷ up) k) [
      | inl r ↦ subst (λ t. FindsCounter t v) (sym r.1) (through_finds bd m (signals up) v (some r.0))
      | inr r ↦ plain_finds _ r.0 v r.1
    ])
  where
    -- the tree has been entered more often than left
    some : exit s (Ended a) ≡ 1 → 0 < v.counter m
    some z = omega (arith, z, out_more s nn.0 h (Ended a), sane_out s nn.0 (h ++ Ended a ∷ []) y.0, x.1, inn_ended s h a, H.1)

pub finishes_find_their_counters : FinishesFindTheirCounters
finishes_find_their_counters s wf h a k l = subst (FindsCounter (epilogue s a)) (sym (alone s h)) found
  where
    nr : NoRepeats s
    nr = wf.names_once

    nn : NoNesting s
    nn = wf.not_nested

    w : List Event
    w = projection s h

    after : Live s (w ++ Ended a ∷ [])
    after = behaves_live s (meets s nr nn) (w ++ Ended a ∷ []) (subst (Behaves s) (project_named s h (Ended a) k) l)

    before : Live s w
    before = (live_last s after w (Ended a) refl).0

    found : FindsCounter (epilogue s a) (values_after s w)
    found = subst (λ u. FindsCounter (epilogue_below u) (values_after s w)) (append-nil (above s 1 0 a))
        (counter_found s nr nn 1 0 a [] refl k w (values_after s w) (rooted s nr nn before).holds (live_steady s nr nn before) (live_steady s nr nn after))
