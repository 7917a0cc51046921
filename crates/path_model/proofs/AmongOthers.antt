-- What holds of a path alone holds of it among others.
use Rattle.std.proofs.Common.{◌≡◌, ◌⊎◌, if◌then◌else◌, ◌<◌, ◌≤◌, List, [], ◌∷◌, ◌++◌, refl, sym, ap, ◌∙◌, subst, inl, inr, arith}
use Rattle.std.proofs.lemmas.List.{append-nil, append_assoc}
use Rattle.std.proofs.lemmas.Bool.{cond-true, cond-false}
use Rattle.path_model.specs.declared.ids.OpId.{OpId}
use Rattle.path_model.specs.declared.history.Event.{Event}
use Rattle.path_model.specs.declared.history.Event.TheVariants.{Began, Ended}
use Rattle.path_model.specs.Trees.{BoundAdmits, Tree, op, seq, alt, burst, Names, NoRepeats, NoNesting, has, WellFormed}
use Rattle.path_model.specs.Histories.{op_of, InProgress}
use Rattle.path_model.proofs.Counts.{count, inn, out, May, ins-append, count-append, opens-append, May-names, Foreign}
use Rattle.path_model.proofs.Same.{May_same, inn_before, Same_before, Starts, May_split}
use Rattle.std.proofs.Common.{true, false, ◌↔◌}
use Rattle.path_model.specs.Machine.{prologue, Values, Passes, opening, changed, values_from, values_after}
use Rattle.path_model.proofs.Steady.{out_began}
use Rattle.std.proofs.lemmas.Bool.{cases_Bool}
use Rattle.path_model.specs.Behaviour.{Behaves}
use Rattle.path_model.specs.Projection.{projection, LegalOn}
use Rattle.path_model.specs.AmongOthers.{values_among, Lets, EachPathGuards}
use Rattle.path_model.proofs.Crowd.{began_exit, stay_entry}
use Rattle.path_model.proofs.Rooms.{room_less}
use Rattle.path_model.proofs.Path.{flat_fits, meets, step, live_front, live_last, behaves_live, live_behaves}
use Rattle.path_model.proofs.Solo.{Meets}
use Rattle.path_model.proofs.Upward.{has_names, names_has, has_not}
use Rattle.path_model.proofs.OnePath.{each_path_admits_its_words}
use Rattle.path_model.proofs.Labelled.{projection_append}

inn_grows : (s : Tree) (h u : List Event) → inn s h ≤ inn s (h ++ u)
inn_grows (op b) h u = omega (arith, ins-append (op b) h u)
inn_grows (seq s t) h u = inn_grows s h u
inn_grows (alt s t) h u = omega (arith, inn_grows s h u, inn_grows t h u)
inn_grows (burst bd s) h u = omega (arith, opens-append s 0 h u)

still_may : (s : Tree) → NoRepeats s → NoNesting s → (h : List Event) (a b : OpId) {p q : Type 0} → (q → p) → May s h (Began a) p → May s (h ++ Began a ∷ []) (Began b) q → May s h (Began b) p
still_may (op c) nr nn h a b f m x = (x.0, f x.1)
still_may (seq s t) nr nn h a b f (inl m) (inl x) = inl (still_may s nr.0 nn.0 h a b f m x)
still_may (seq s t) nr nn h a b f (inl m) (inr x) =
    let away : Foreign t (Began a ∷ []) = (λ k. nr.2 a (May-names s h _ _ m) k, tt) in
    inr (May_same t (h ++ Began a ∷ []) h (Began b) (λ (l : inn t (h ++ Began a ∷ []) < out s (h ++ Began a ∷ [])). omega (arith, l, inn_before t h (Began a ∷ []) away, out_began s h a)) (Same_before t h (Began a ∷ []) away) x)
still_may (seq s t) nr nn h a b f (inr m) (inl x) =
    let away : Foreign s (Began a ∷ []) = (λ k. nr.2 a k (May-names t h _ _ m), tt) in
    inl (May_same s (h ++ Began a ∷ []) h (Began b) f (Same_before s h (Began a ∷ []) away) x)
still_may (seq s t) nr nn h a b f (inr m) (inr x) =
    inr (still_may t nr.1 nn.1 h a b (λ (l : inn t (h ++ Began a ∷ []) < out s (h ++ Began a ∷ [])). omega (arith, l, inn_grows t h (Began a ∷ []), out_began s h a)) m x)
still_may (alt s t) nr nn h a b f (inl m) (inl x) = inl (still_may s nr.0 nn.0 h a b f m x)
still_may (alt s t) nr nn h a b f (inl m) (inr x) =
    inr (May_same t (h ++ Began a ∷ []) h (Began b) f (Same_before t h (Began a ∷ []) (λ k. nr.2 a (May-names s h _ _ m) k, tt)) x)
still_may (alt s t) nr nn h a b f (inr m) (inl x) =
    inl (May_same s (h ++ Began a ∷ []) h (Began b) f (Same_before s h (Began a ∷ []) (λ k. nr.2 a k (May-names t h _ _ m), tt)) x)
still_may (alt s t) nr nn h a b f (inr m) (inr x) = inr (still_may t nr.1 nn.1 h a b f m x)
still_may (burst bd s) nr nn h a b {p} {q} f m x = still_may s nr (flat_fits s nn.0) h a b g m x
  where
    split : May s h (Began a) ⊥ ⊎ (((p ⊎ (0 < count s 0 h)) × BoundAdmits bd (count s 0 h)) × Starts s (Began a))
    split = May_split s h (Began a) m

    fewer : count s 0 h ≤ count s 0 (h ++ Began a ∷ [])
    fewer = omega (arith, count-append s 0 h (Began a ∷ []), began_exit s a)

    one : (q ⊎ (0 < count s 0 (h ++ Began a ∷ []))) → p ⊎ (0 < count s 0 h)
    one (inl y) = inl (f y)
    one (inr l) = elim split [
      | inl k ↦ inr (omega (arith, l, count-append s 0 h (Began a ∷ []), stay_entry s nn.0 nr h (Began a) k))
      | inr k ↦ k.0.0
    ]

    g : ((q ⊎ (0 < count s 0 (h ++ Began a ∷ []))) × BoundAdmits bd (count s 0 (h ++ Began a ∷ []))) → ((p ⊎ (0 < count s 0 h)) × BoundAdmits bd (count s 0 h))
    g (y, r) = (one y, room_less bd _ _ r fewer)

pub project_named : (s : Tree) (h : List Event) (e : Event) → Names s (op_of e) → projection s (h ++ e ∷ []) ≡ projection s h ++ e ∷ []
project_named s h e k = projection_append s h (e ∷ []) ∙ ap (λ u. projection s h ++ u) (cond-true (has s (op_of e)) (e ∷ []) [] (has_names s (op_of e) k))

pub project_other : (s : Tree) (h : List Event) (e : Event) → (Names s (op_of e) → ⊥) → projection s (h ++ e ∷ []) ≡ projection s h
project_other s h e n = projection_append s h (e ∷ []) ∙ ap (λ u. projection s h ++ u) (cond-false (has s (op_of e)) (e ∷ []) [] (has_not s (op_of e) n)) ∙ append-nil (projection s h)

pub among : (s : Tree) (v : Values) (h : List Event) → values_among s v h ≡ values_from s v (projection s h)
among s v [] = refl
among s v (e ∷ h) = elim (has s (op_of e)) as (λ b. values_among s (if b then changed s e v else v) h ≡ values_from s v (if b then (e ∷ projection s h) else projection s h)) [ true ↦ among s (changed s e v) h | false ↦ among s v h ]

module _ (s : Tree) (wf : WellFormed s) where
  starts : (h : List Event) (a : OpId) → LegalOn s h → Lets s h a ↔ LegalOn s (h ++ Began a ∷ [])
  starts h a l = (to, from)
    where
      at : values_among s (opening s) h ≡ values_after s (projection s h)
      at = among s (opening s) h

      to : Lets s h a → LegalOn s (h ++ Began a ∷ [])
      to c = elim (cases_Bool (has s a)) [
        | inl k ↦ let n = names_has s a k in subst (Behaves s) (sym (project_named s h (Began a) n)) (((each_path_admits_its_words s wf).starts (projection s h) a l n).0 (subst (Passes (prologue s a)) at (c n)))
        | inr k ↦ subst (Behaves s) (sym (project_other s h (Began a) (λ n. differ (sym (has_names s a n) ∙ k)))) l
      ]
        where
          differ : true ≡ false → ⊥
          differ z = cc

      from : LegalOn s (h ++ Began a ∷ []) → Lets s h a
      from x n = subst (Passes (prologue s a)) (sym at) (((each_path_admits_its_words s wf).starts (projection s h) a l n).1 (subst (Behaves s) (project_named s h (Began a) n) x))

  finishes : (h : List Event) (a : OpId) → LegalOn s h → (Names s a → InProgress a (projection s h)) ↔ LegalOn s (h ++ Ended a ∷ [])
  finishes h a l = (to, from)
    where
      to : (Names s a → InProgress a (projection s h)) → LegalOn s (h ++ Ended a ∷ [])
      to c = elim (cases_Bool (has s a)) [
        | inl k ↦ let n = names_has s a k in subst (Behaves s) (sym (project_named s h (Ended a) n)) (((each_path_admits_its_words s wf).finishes (projection s h) a l n).0 (c n))
        | inr k ↦ subst (Behaves s) (sym (project_other s h (Ended a) (λ n. differ (sym (has_names s a n) ∙ k)))) l
      ]
        where
          differ : true ≡ false → ⊥
          differ z = cc

      from : LegalOn s (h ++ Ended a ∷ []) → Names s a → InProgress a (projection s h)
      from x n = ((each_path_admits_its_words s wf).finishes (projection s h) a l n).1 (subst (Behaves s) (project_named s h (Ended a) n) x)

  ms : Meets s
  ms = meets s wf.names_once wf.not_nested

  pub front : (x y : List Event) → Behaves s (x ++ y) → Behaves s x
  front x y k = live_behaves s ms x (live_front s (behaves_live s ms (x ++ y) k) x y refl)

  only_block : (h : List Event) (a b : OpId) → LegalOn s (h ++ Began a ∷ Began b ∷ []) → LegalOn s (h ++ Began b ∷ [])
  only_block h a b k = elim (cases_Bool (has s b)) [
    | inl y ↦ elim (cases_Bool (has s a)) [
      | inl x ↦ both (names_has s a x) (names_has s b y)
      | inr x ↦ subst (Behaves s) (two ∙ sym (projection_append s h (Began b ∷ []) ∙ ap (λ u. projection s h ++ u) (sym (cond-false (has s a) (Began a ∷ projection s (Began b ∷ [])) (projection s (Began b ∷ [])) x)))) k
    ]
    | inr y ↦ subst (Behaves s) (sym (project_other s h (Began b) (λ n. differ (sym (has_names s b n) ∙ y)))) (front (projection s h) (projection s (Began a ∷ Began b ∷ [])) (subst (Behaves s) two k))
  ]
    where
      differ : true ≡ false → ⊥
      differ z = cc

      two : projection s (h ++ Began a ∷ Began b ∷ []) ≡ projection s h ++ projection s (Began a ∷ Began b ∷ [])
      two = projection_append s h (Began a ∷ Began b ∷ [])

      both : Names s a → Names s b → LegalOn s (h ++ Began b ∷ [])
      both x y =
          let pa = cond-true (has s a) (Began a ∷ projection s (Began b ∷ [])) (projection s (Began b ∷ [])) (has_names s a x) in
          let pb = cond-true (has s b) (Began b ∷ []) [] (has_names s b y) in
          let e = two ∙ ap (λ u. projection s h ++ u) (pa ∙ ap (λ u. Began a ∷ u) pb) ∙ sym (append_assoc (projection s h) (Began a ∷ []) (Began b ∷ [])) in
          let r = behaves_live s ms _ (subst (Behaves s) e k) in
          let q = live_last s r (projection s h ++ Began a ∷ []) (Began b) refl in
          let p = live_last s q.0 (projection s h) (Began a) refl in
          subst (Behaves s) (sym (project_named s h (Began b) y)) (live_behaves s ms _ (step (projection s h) (Began b) p.0 (still_may s wf.names_once wf.not_nested (projection s h) a b
          (λ (l : inn s (projection s h ++ Began a ∷ []) ≤ out s (projection s h ++ Began a ∷ [])). omega (arith, l, inn_grows s (projection s h) (Began a ∷ []), out_began s (projection s h) a)) p.1 q.1) refl))

pub each_path_guards : EachPathGuards
each_path_guards s wf = record { starts = starts s wf; finishes = finishes s wf; starts_only_block = only_block s wf }
