-- How often a history enters and leaves the parts of a tree: the counts of its projection.
use Rattle.std.proofs.Common.{◌≡◌, ◌⊎◌, ◌==◌, if◌then◌else◌, ◌<◌, ◌≤◌, ◌+◌, ◌-◌, ℕ, List, [], ◌∷◌, ◌++◌, true, false, refl, sym, ap, ◌∙◌, subst, inl, inr, arith}
use Rattle.std.proofs.lemmas.Bool.{cases_Bool, cases_lt, eq-eqb, ne_eqb, cond-true, cond-false, cond_both}
use Rattle.path_model.specs.declared.ids.OpId.{OpId}
use Rattle.path_model.specs.declared.history.Event.{Event}
use Rattle.path_model.specs.declared.history.Event.TheVariants.{Began, Ended}
use Rattle.path_model.specs.Trees.{Tree, op, seq, alt, burst, Names, NoRepeats, NoBraces, NoNesting, has}
use Rattle.path_model.specs.Histories.{op_of}
use Rattle.path_model.specs.Projection.{projection}
use Rattle.path_model.specs.Executions.{entry, exit, count, opens, closes, entered, left}
use Rattle.path_model.proofs.Counts.{inn, out, count-append, opens-append, closes-append, foreign_entry, foreign_exit}
use Rattle.path_model.proofs.Upward.{has_names, names_has}
use Rattle.path_model.proofs.Crowd.{inn_more, out_more, began_exit}
use Rattle.path_model.proofs.Path.{Live, start, step}
use Rattle.path_model.proofs.Steady.{Steady, live_steady, ended_entry}
use Rattle.path_model.proofs.OnePath.{begun_ins, ended_outs}
use Rattle.path_model.proofs.AllPaths.{begun_projection, ended_projection}

-- the counts of a history of the tree's own
entered_inn : (t : Tree) (w : List Event) → entered t w ≡ inn t w
entered_inn (op b) w = begun_ins b w
entered_inn (seq s t) w = entered_inn s w
entered_inn (alt s t) w = omega (arith, entered_inn s w, entered_inn t w)
entered_inn (burst bd s) w = refl

left_out : (t : Tree) (w : List Event) → left t w ≡ out t w
left_out (op b) w = ended_outs b w
left_out (seq s t) w = left_out t w
left_out (alt s t) w = omega (arith, left_out s w, left_out t w)
left_out (burst bd s) w = refl

-- events of other operations count for nothing
module _ (s t : Tree) (sub : (a : OpId) → Names t a → Names s a) where
  skipped : (e : Event) → has s (op_of e) ≡ false → Names t (op_of e) → ⊥
  skipped e z k = let y = has_names s (op_of e) (sub (op_of e) k) in absurd (true_false (sym y ∙ z))
    where
      true_false : true ≡ false → ⊥
      true_false h = cc

  stays : (e : Event) → has s (op_of e) ≡ false → (c : ℕ) → c + entry t e - exit t e ≡ c
  stays e z c = omega (arith, foreign_entry t e (skipped e z), foreign_exit t e (skipped e z))

  opens_among : (c : ℕ) (h : List Event) → opens t c (projection s h) ≡ opens t c h
  opens_among c [] = refl
  opens_among c (e ∷ h) = elim (cases_Bool (has s (op_of e))) [
    | inl k ↦ ap (opens t c) (cond-true (has s (op_of e)) (e ∷ projection s h) (projection s h) k) ∙ ap (λ x. (if c == 0 then entry t e else 0) + x) (opens_among (c + entry t e - exit t e) h)
    | inr k ↦
        let z : (if c == 0 then entry t e else 0) ≡ 0 = cond_both (c == 0) _ _ (λ x. x ≡ 0) (λ _. foreign_entry t e (skipped e k)) (λ _. refl) in
        omega (arith, ap (opens t c) (cond-false (has s (op_of e)) (e ∷ projection s h) (projection s h) k), opens_among c h, z, ap (λ x. opens t x h) (stays e k c))
  ]

  closes_among : (c : ℕ) (h : List Event) → closes t c (projection s h) ≡ closes t c h
  closes_among c [] = refl
  closes_among c (e ∷ h) = elim (cases_Bool (has s (op_of e))) [
    | inl k ↦ ap (closes t c) (cond-true (has s (op_of e)) (e ∷ projection s h) (projection s h) k) ∙ ap (λ x. (if c + entry t e - exit t e == 0 then exit t e else 0) + x) (closes_among (c + entry t e - exit t e) h)
    | inr k ↦
        let z : (if c + entry t e - exit t e == 0 then exit t e else 0) ≡ 0 = cond_both (c + entry t e - exit t e == 0) _ _ (λ x. x ≡ 0) (λ _. foreign_exit t e (skipped e k)) (λ _. refl) in
        omega (arith, ap (closes t c) (cond-false (has s (op_of e)) (e ∷ projection s h) (projection s h) k), closes_among c h, z, ap (λ x. closes t x h) (stays e k c))
  ]

pub entered_among : (s t : Tree) → ((a : OpId) → Names t a → Names s a) → (h : List Event) → entered t (projection s h) ≡ entered t h
entered_among s (op b) sub h = begun_projection s b (sub b refl) h
entered_among s (seq l r) sub h = entered_among s l (λ a k. sub a (inl k)) h
entered_among s (alt l r) sub h = omega (arith, entered_among s l (λ a k. sub a (inl k)) h, entered_among s r (λ a k. sub a (inr k)) h)
entered_among s (burst bd t) sub h = opens_among s t sub 0 h

pub left_among : (s t : Tree) → ((a : OpId) → Names t a → Names s a) → (h : List Event) → left t (projection s h) ≡ left t h
left_among s (op b) sub h = ended_projection s b (sub b refl) h
left_among s (seq l r) sub h = left_among s r (λ a k. sub a (inr k)) h
left_among s (alt l r) sub h = omega (arith, left_among s l (λ a k. sub a (inl k)) h, left_among s r (λ a k. sub a (inr k)) h)
left_among s (burst bd t) sub h = closes_among s t sub 0 h

pub inn_among : (s t : Tree) → ((a : OpId) → Names t a → Names s a) → (h : List Event) → inn t (projection s h) ≡ entered t h
inn_among s t sub h = sym (entered_inn t (projection s h)) ∙ entered_among s t sub h

pub out_among : (s t : Tree) → ((a : OpId) → Names t a → Names s a) → (h : List Event) → out t (projection s h) ≡ left t h
out_among s t sub h = sym (left_out t (projection s h)) ∙ left_among s t sub h

-- an event enters a tree at most once, and leaves it at most once
entry_one : (t : Tree) → NoRepeats t → (e : Event) → entry t e ≤ 1
entry_one (op b) n (Began a) = cond_both (a.0 == b.0) 1 0 (λ x. x ≤ 1) (λ _. omega arith) (λ _. omega arith)
entry_one (op b) n (Ended a) = omega arith
entry_one (seq s t) n e = entry_one s n.0 e
entry_one (alt s t) n e = elim (cases_Bool (has s (op_of e))) [
  | inl k ↦ omega (arith, entry_one s n.0 e, foreign_entry t e (λ x. n.2 (op_of e) (names_has s (op_of e) k) x))
  | inr k ↦ omega (arith, entry_one t n.1 e, foreign_entry s e (skipped s s (λ a x. x) e k))
]
entry_one (burst bd s) n e = entry_one s n e

exit_one : (t : Tree) → NoRepeats t → (e : Event) → exit t e ≤ 1
exit_one (op b) n (Began a) = omega arith
exit_one (op b) n (Ended a) = cond_both (a.0 == b.0) 1 0 (λ x. x ≤ 1) (λ _. omega arith) (λ _. omega arith)
exit_one (seq s t) n e = exit_one t n.1 e
exit_one (alt s t) n e = elim (cases_Bool (has s (op_of e))) [
  | inl k ↦ omega (arith, exit_one s n.0 e, foreign_exit t e (λ x. n.2 (op_of e) (names_has s (op_of e) k) x))
  | inr k ↦ omega (arith, exit_one t n.1 e, foreign_exit s e (skipped s s (λ a x. x) e k))
]
exit_one (burst bd s) n e = exit_one s n e

one_way : (t : Tree) → NoRepeats t → (e : Event) → entry t e + exit t e ≤ 1
one_way t n (Began a) = omega (arith, entry_one t n (Began a), began_exit t a)
one_way t n (Ended a) = omega (arith, exit_one t n (Ended a), ended_entry t a)

-- braces were opened as often as they were closed where none of their executions is underway, and once more where some is
abbrev pub OpenOnce : Tree → List Event → Type 0
OpenOnce (op b) w = Unit {0}
OpenOnce (seq s t) w = OpenOnce s w × OpenOnce t w
OpenOnce (alt s t) w = OpenOnce s w × OpenOnce t w
OpenOnce (burst bd s) w =
    ((count s 0 w ≡ 0) × (opens s 0 w ≡ closes s 0 w)) ⊎ ((0 < count s 0 w) × (opens s 0 w ≡ closes s 0 w + 1))

once_nil : (t : Tree) → OpenOnce t []
once_nil (op b) = tt
once_nil (seq s t) = (once_nil s, once_nil t)
once_nil (alt s t) = (once_nil s, once_nil t)
once_nil (burst bd s) = inl (refl, refl)

once_step : (t : Tree) → NoRepeats t → NoNesting t → (w : List Event) (e : Event) → Steady t w → Steady t (w ++ e ∷ []) → OpenOnce t w → OpenOnce t (w ++ e ∷ [])
once_step (op b) n f w e x y o = tt
once_step (seq s t) n f w e x y o = (once_step s n.0 f.0 w e x.0 y.0 o.0, once_step t n.1 f.1 w e x.1 y.1 o.1)
once_step (alt s t) n f w e x y o = (once_step s n.0 f.0 w e x.0 y.0 o.0, once_step t n.1 f.1 w e x.1 y.1 o.1)
once_step (burst bd s) n f w e x y o =
    go (count s 0 w) (count s 0 (w ++ e ∷ [])) (entry s e) (exit s e)
    (omega (arith, x.1, y.1, inn_more s f.0 w e, out_more s f.0 w e)) (one_way s n e) o
    (opens-append s 0 w (e ∷ [])) (subst (λ c. closes s 0 (w ++ e ∷ []) ≡ closes s 0 w + ((if c == 0 then exit s e else 0) + 0)) (sym (count-append s 0 w (e ∷ []))) (closes-append s 0 w (e ∷ [])))
  where
    go : (c d i x : ℕ) → d + x ≡ c + i → i + x ≤ 1
        → ((c ≡ 0) × (opens s 0 w ≡ closes s 0 w)) ⊎ ((0 < c) × (opens s 0 w ≡ closes s 0 w + 1))
        → opens s 0 (w ++ e ∷ []) ≡ opens s 0 w + ((if c == 0 then i else 0) + 0)
        → closes s 0 (w ++ e ∷ []) ≡ closes s 0 w + ((if d == 0 then x else 0) + 0)
        → ((d ≡ 0) × (opens s 0 (w ++ e ∷ []) ≡ closes s 0 (w ++ e ∷ []))) ⊎ ((0 < d) × (opens s 0 (w ++ e ∷ []) ≡ closes s 0 (w ++ e ∷ []) + 1))
    go c d i x m l (inl q) p r =
        let a : (if c == 0 then i else 0) ≡ i = cond-true (c == 0) i 0 (eq-eqb c 0 q.0) in
        elim (cases_lt 0 d) [
          | inl k ↦ let b : (if d == 0 then x else 0) ≡ 0 = cond-false (d == 0) x 0 (ne_eqb d 0 (λ z. omega (arith, z, k))) in inr (k, omega (arith, m, l, k, q, a, b, p, r))
          | inr k ↦ let b : (if d == 0 then x else 0) ≡ x = cond-true (d == 0) x 0 (eq-eqb d 0 (omega (arith, k))) in inl (omega (arith, k), omega (arith, m, l, k, q, a, b, p, r))
        ]
    go c d i x m l (inr q) p r =
        let a : (if c == 0 then i else 0) ≡ 0 = cond-false (c == 0) i 0 (ne_eqb c 0 (λ z. omega (arith, z, q.0))) in
        elim (cases_lt 0 d) [
          | inl k ↦ let b : (if d == 0 then x else 0) ≡ 0 = cond-false (d == 0) x 0 (ne_eqb d 0 (λ z. omega (arith, z, k))) in inr (k, omega (arith, q, a, b, p, r))
          | inr k ↦ let b : (if d == 0 then x else 0) ≡ x = cond-true (d == 0) x 0 (eq-eqb d 0 (omega (arith, k))) in inl (omega (arith, k), omega (arith, m, l, k, q, a, b, p, r))
        ]

pub live_once : (t : Tree) → NoRepeats t → NoNesting t → {w : List Event} → Live t w → OpenOnce t w
live_once t n f start = once_nil t
live_once t n f (step w e r m h) =
    subst (OpenOnce t) (sym h) (once_step t n f w e (live_steady t n f r) (live_steady t n f (step w e r m refl)) (live_once t n f r))

pub once_flat : (t : Tree) → NoBraces t → (w : List Event) → OpenOnce t w
once_flat (op b) f w = tt
once_flat (seq s t) f w = (once_flat s f.0 w, once_flat t f.1 w)
once_flat (alt s t) f w = (once_flat s f.0 w, once_flat t f.1 w)
once_flat (burst bd s) f w = absurd f

pub steady_flat : (t : Tree) → NoBraces t → (w : List Event) → Steady t w
steady_flat (op b) f w = tt
steady_flat (seq s t) f w = (steady_flat s f.0 w, steady_flat t f.1 w)
steady_flat (alt s t) f w = (steady_flat s f.0 w, steady_flat t f.1 w)
steady_flat (burst bd s) f w = absurd f
