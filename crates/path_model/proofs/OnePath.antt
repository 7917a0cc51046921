-- The semaphores of a path admit exactly what its words allow.
use Rattle.std.proofs.Common.{◌≡◌, ◌==◌, if◌then◌else◌, ◌<◌, ◌≤◌, ◌+◌, ◌-◌, ℕ, List, [], ◌∷◌, ◌++◌, refl, sym, ap, ◌∙◌, subst, inl, inr, arith}
use Rattle.std.proofs.lemmas.List.{append-nil}
use Rattle.std.proofs.lemmas.Bool.{eq-eqb, ne_eqb, cond-true, cond-false}
use Rattle.path_model.specs.declared.ids.OpId.{OpId}
use Rattle.path_model.specs.declared.history.Event.{Event}
use Rattle.path_model.specs.declared.history.Event.TheVariants.{Began, Ended}
use Rattle.path_model.specs.Trees.{Tree, op, seq, alt, burst, Names, NoRepeats, NoNesting, Bound, any, most}
use Rattle.path_model.proofs.Counts.{ins, outs, inn, out, May, May-names}
use Rattle.path_model.proofs.Same.{May_weaken, inn_nil, out_nil}
use Rattle.std.proofs.Common.{true, false, ◌↔◌}
use Rattle.path_model.specs.Machine.{Plain, semicolons, braces, above, prologue_below, epilogue_below, Values, Passes, started, finished, opening, changed, values_from, values_after, CanPass, size, bound_at}
use Rattle.path_model.proofs.Steady.{out_began, inn_ended, Steady, inn_step}
use Rattle.path_model.specs.Behaviour.{Behaves}
use Rattle.path_model.specs.Histories.{begun, ended, InProgress}
use Rattle.path_model.specs.OnePath.{EachPathAdmitsItsWords}
use Rattle.path_model.proofs.Path.{meets, Live, start, step, live_last, behaves_live, live_behaves}
use Rattle.path_model.proofs.Steady.{live_steady}
use Rattle.path_model.proofs.Solo.{Meets}
use Rattle.path_model.proofs.Upward.{Holds, pass_may}
use Rattle.path_model.specs.BurstCounts.{Spare}
use Rattle.path_model.proofs.Moves.{In, Out, spare_same, put_same, Effect}
use Rattle.path_model.proofs.Starts.{StartOk, start_ok}
use Rattle.path_model.proofs.Finishes.{FinishOk, finish_ok}

pub values_append : (s : Tree) (v : Values) (x y : List Event) → values_from s v (x ++ y) ≡ values_from s (values_from s v x) y
values_append s v [] y = refl
values_append s v (e ∷ x) y = values_append s (changed s e v) x y

pub values_more : (s : Tree) (h : List Event) (e : Event) → values_after s (h ++ e ∷ []) ≡ changed s e (values_after s h)
values_more s h e = values_append s (opening s) h (e ∷ [])

pub bounds_out : (s : Tree) (m c : ℕ) → Out m (braces s) c → bound_at s m c ≡ 0
bounds_out (op b) m c o = refl
bounds_out (seq s t) m c o =
    let x = bounds_out s m c (elim o [ inl l ↦ inl l | inr l ↦ inr (omega (arith, l)) ]) in
    let y = bounds_out t (m + braces s) c (elim o [ inl l ↦ inl (omega (arith, l)) | inr l ↦ inr (omega (arith, l)) ]) in
    omega (arith, x, y)
bounds_out (alt s t) m c o =
    let x = bounds_out s m c (elim o [ inl l ↦ inl l | inr l ↦ inr (omega (arith, l)) ]) in
    let y = bounds_out t (m + braces s) c (elim o [ inl l ↦ inl (omega (arith, l)) | inr l ↦ inr (omega (arith, l)) ]) in
    omega (arith, x, y)
bounds_out (burst bd s) m c o =
    cond-false (c == m) (size bd) (bound_at s (m + 1) c) (ne_eqb c m (λ z. elim o [ inl l ↦ omega (arith, l, z) | inr l ↦ omega (arith, l, z) ]))
    ∙ bounds_out s (m + 1) c (elim o [ inl l ↦ inl (omega (arith, l)) | inr l ↦ inr (omega (arith, l)) ])

spare_opening : (b : Bound) → Spare b (size b) 0
spare_opening any = tt
spare_opening (most n) = omega arith

holds_opening : (s : Tree) (n m : ℕ) → 0 < n → (v : Values) → ((q : ℕ) → 0 < q → v.semaphore q ≡ 0) → ((c : ℕ) → v.counter c ≡ 0) → ((c : ℕ) → In m (braces s) c → v.bound c ≡ bound_at s m c) → Holds s n m [] v
holds_opening (op b) n m l v f g k = tt
holds_opening (seq s t) n m l v f g k = (
  holds_opening s n m l v f g (λ c i. let z = bounds_out t (m + braces s) c (inl i.1) in let y = k c (omega (arith, i), omega (arith, i)) in omega (arith, y, z)),
  holds_opening t (n + semicolons s + 1) (m + braces s) (omega arith) v f g (λ c i. let z = bounds_out s m c (inr i.0) in let y = k c (omega (arith, i), omega (arith, i)) in omega (arith, y, z)),
  (let z = f (n + semicolons s) (omega (arith, l)) in omega (arith, z, inn_nil t, out_nil s)),
)
holds_opening (alt s t) n m l v f g k = (
  holds_opening s n m l v f g (λ c i. let z = bounds_out t (m + braces s) c (inl i.1) in let y = k c (omega (arith, i), omega (arith, i)) in omega (arith, y, z)),
  holds_opening t (n + semicolons s) (m + braces s) (omega (arith, l)) v f g (λ c i. let z = bounds_out s m c (inr i.0) in let y = k c (omega (arith, i), omega (arith, i)) in omega (arith, y, z)),
)
holds_opening (burst bd s) n m l v f g k = (
  holds_opening s n (m + 1) l v f g (λ c i. k c (omega (arith, i), omega (arith, i)) ∙ cond-false (c == m) (size bd) (bound_at s (m + 1) c) (ne_eqb c m (λ z. omega (arith, i, z)))),
  g m,
  spare_same bd (size bd) (v.bound m) 0 0 (sym (k m (omega arith, omega arith) ∙ cond-true (m == m) (size bd) (bound_at s (m + 1) m) (eq-eqb m m refl))) refl (spare_opening bd),
)

-- the values after a history are those of its counts
pub record Rooted (s : Tree) (h : List Event) (v : Values) : Type 0 where
  pub holds : Holds s 1 0 h v
  pub own : v.semaphore 0 + inn s h ≡ 1 + out s h

rooted_began : (s : Tree) → NoRepeats s → NoNesting s → (h : List Event) (v : Values) (a : OpId) → Rooted s h v → May s h (Began a) (inn s h ≤ out s h) → Rooted s (h ++ Began a ∷ []) (changed s (Began a) v)
rooted_began s nr nn h v a r m = subst (λ l. Rooted s (h ++ Began a ∷ []) (started (prologue_below l) v)) (append-nil (above s 1 0 a)) (record { holds = k.holds; own = own k.effect })
  where
    w : Values
    w = started (prologue_below (above s 1 0 a ++ [])) v

    k : StartOk s 1 0 [] h a v w
    k = start_ok s nr nn 1 0 a [] (inr refl) (inl (omega arith)) (May-names s h (Began a) _ m) h v r.holds (inn s h ≤ out s h) m

    own : Effect inn s 1 0 h (Began a) v (started (Plain 0) v) w → w.semaphore 0 + inn s (h ++ Began a ∷ []) ≡ 1 + out s (h ++ Began a ∷ [])
    own (inl e) = omega (arith, e.0, e.1.semaphores 0 (inl (omega arith)), r.own, out_began s h a)
    own (inr e) = elim (inn_step s nr nn h (Began a) m) [
      | inl q ↦ absurd (omega (arith, q, e.0))
      | inr l ↦ omega (arith, l, e.0, e.1.semaphores 0 (inl (omega arith)), put_same v.semaphore 0 (v.semaphore 0 - 1), r.own, out_began s h a)
    ]

rooted_ended : (s : Tree) → NoRepeats s → NoNesting s → (h : List Event) (v : Values) (a : OpId) → Rooted s h v → Steady s h → Steady s (h ++ Ended a ∷ []) → Names s a → Rooted s (h ++ Ended a ∷ []) (changed s (Ended a) v)
rooted_ended s nr nn h v a r x y named = subst (λ l. Rooted s (h ++ Ended a ∷ []) (finished (epilogue_below l) v)) (append-nil (above s 1 0 a)) (record { holds = k.holds; own = own k.effect })
  where
    w : Values
    w = finished (epilogue_below (above s 1 0 a ++ [])) v

    k : FinishOk s 1 0 [] h a v w
    k = finish_ok s nr nn 1 0 a [] (inr refl) (inl (omega arith)) named h v r.holds x y

    own : Effect out s 1 0 h (Ended a) v (finished (Plain 0) v) w → w.semaphore 0 + inn s (h ++ Ended a ∷ []) ≡ 1 + out s (h ++ Ended a ∷ [])
    own (inl e) = omega (arith, e.0, e.1.semaphores 0 (inl (omega arith)), r.own, inn_ended s h a)
    own (inr e) = omega (arith, e.0, e.1.semaphores 0 (inl (omega arith)), put_same v.semaphore 0 (v.semaphore 0 + 1), r.own, inn_ended s h a)

pub rooted : (s : Tree) → NoRepeats s → NoNesting s → {h : List Event} → Live s h → Rooted s h (values_after s h)
rooted s nr nn start = record { holds = holds_opening s 1 0 (omega arith) (opening s) (λ q l. cond-false (q == 0) 1 0 (ne_eqb q 0 (λ z. omega (arith, l, z)))) (λ c. refl) (λ c i. refl); own = omega (arith, inn_nil s, out_nil s) }
rooted s nr nn {h = v} (step w e r m k) = subst (λ x. Rooted s x (values_after s x)) (sym k) (subst (Rooted s (w ++ e ∷ [])) (sym (values_more s w e)) (go e m (live_steady s nr nn (step w e r m refl)) (rooted s nr nn r)))
  where
    go : (e : Event) → May s w e (inn s w ≤ out s w) → Steady s (w ++ e ∷ []) → Rooted s w (values_after s w) → Rooted s (w ++ e ∷ []) (changed s e (values_after s w))
    go (Began a) m y q = rooted_began s nr nn w _ a q m
    go (Ended a) m y q = rooted_ended s nr nn w _ a q (live_steady s nr nn r) y (May-names s w (Ended a) _ m)

-- finishes
pub begun_ins : (a : OpId) (h : List Event) → begun a h ≡ ins (op a) h
begun_ins a [] = refl
begun_ins a (Began b ∷ h) = elim (b.0 == a.0) as (λ x. (if x then (begun a h + 1) else begun a h) ≡ (if x then 1 else 0) + ins (op a) h) [ true ↦ omega (arith, begun_ins a h) | false ↦ omega (arith, begun_ins a h) ]
begun_ins a (Ended b ∷ h) = omega (arith, begun_ins a h)

pub ended_outs : (a : OpId) (h : List Event) → ended a h ≡ outs (op a) h
ended_outs a [] = refl
ended_outs a (Ended b ∷ h) = elim (b.0 == a.0) as (λ x. (if x then (ended a h + 1) else ended a h) ≡ (if x then 1 else 0) + outs (op a) h) [ true ↦ omega (arith, ended_outs a h) | false ↦ omega (arith, ended_outs a h) ]
ended_outs a (Began b ∷ h) = omega (arith, ended_outs a h)

may_end : (s : Tree) (h : List Event) (a : OpId) (p : Type 0) → Names s a → outs (op a) h < ins (op a) h → May s h (Ended a) p
may_end (op b) h a p k l = (k, subst (λ x. outs (op x) h < ins (op x) h) k l)
may_end (seq s t) h a p (inl k) l = inl (may_end s h a _ k l)
may_end (seq s t) h a p (inr k) l = inr (may_end t h a _ k l)
may_end (alt s t) h a p (inl k) l = inl (may_end s h a _ k l)
may_end (alt s t) h a p (inr k) l = inr (may_end t h a _ k l)
may_end (burst bd s) h a p k l = may_end s h a _ k l

pub end_may : (s : Tree) (h : List Event) (a : OpId) (p : Type 0) → May s h (Ended a) p → outs (op a) h < ins (op a) h
end_may (op b) h a p m = subst (λ x. outs (op x) h < ins (op x) h) (sym m.0) m.1
end_may (seq s t) h a p (inl m) = end_may s h a _ m
end_may (seq s t) h a p (inr m) = end_may t h a _ m
end_may (alt s t) h a p (inl m) = end_may s h a _ m
end_may (alt s t) h a p (inr m) = end_may t h a _ m
end_may (burst bd s) h a p m = end_may s h a _ m

module _ (s : Tree) (nr : NoRepeats s) (nn : NoNesting s) where
  starts : (h : List Event) (a : OpId) → Behaves s h → Names s a → CanPass s h a ↔ Behaves s (h ++ Began a ∷ [])
  starts h a b k = (to, from)
    where
      ms : Meets s
      ms = meets s nr nn

      r : Live s h
      r = behaves_live s ms h b

      q : Rooted s h (values_after s h)
      q = rooted s nr nn r

      pass : Passes (prologue_below (above s 1 0 a ++ [])) (values_after s h) ↔ May s h (Began a) (0 < (values_after s h).semaphore 0)
      pass = pass_may s nr nn 1 0 a [] (inr refl) k h (values_after s h) q.holds

      same : Passes (prologue_below (above s 1 0 a ++ [])) (values_after s h) ≡ CanPass s h a
      same = ap (λ l. Passes (prologue_below l) (values_after s h)) (append-nil (above s 1 0 a))

      to : CanPass s h a → Behaves s (h ++ Began a ∷ [])
      to c = live_behaves s ms _ (step h (Began a) r (May_weaken s h (Began a) (λ (l : 0 < (values_after s h).semaphore 0). omega (arith, l, q.own)) (pass.0 (subst (λ X. X) (sym same) c))) refl)

      from : Behaves s (h ++ Began a ∷ []) → CanPass s h a
      from c = subst (λ X. X) same (pass.1 (May_weaken s h (Began a) (λ (l : inn s h ≤ out s h). omega (arith, l, q.own)) (live_last s (behaves_live s ms _ c) h (Began a) refl).1))

  finishes : (h : List Event) (a : OpId) → Behaves s h → Names s a → InProgress a h ↔ Behaves s (h ++ Ended a ∷ [])
  finishes h a b k = (to, from)
    where
      ms : Meets s
      ms = meets s nr nn

      to : InProgress a h → Behaves s (h ++ Ended a ∷ [])
      to l = live_behaves s ms _ (step h (Ended a) (behaves_live s ms h b) (may_end s h a _ k (omega (arith, l, begun_ins a h, ended_outs a h))) refl)

      from : Behaves s (h ++ Ended a ∷ []) → InProgress a h
      from c = omega (arith, end_may s h a _ (live_last s (behaves_live s ms _ c) h (Ended a) refl).1, begun_ins a h, ended_outs a h)

pub each_path_admits_its_words : EachPathAdmitsItsWords
each_path_admits_its_words s wf = record { starts = starts s wf.names_once wf.not_nested; finishes = finishes s wf.names_once wf.not_nested }
