-- Braces within a path are as often open as they were opened and not closed, after every event.
use Rattle.std.proofs.Common.{◌≡◌, ◌⊎◌, ◌==◌, if◌then◌else◌, ◌<◌, ◌+◌, ◌-◌, ℕ, List, [], ◌∷◌, ◌++◌, refl, sym, subst, inl, inr, arith}
use Rattle.std.proofs.lemmas.Bool.{ne_eqb, cond-false, cond_both}
use Rattle.path_model.specs.declared.ids.OpId.{OpId}
use Rattle.path_model.specs.declared.history.Event.{Event}
use Rattle.path_model.specs.declared.history.Event.TheVariants.{Began, Ended}
use Rattle.path_model.specs.Trees.{BoundAdmits, Tree, op, seq, alt, burst, NoRepeats, NoNesting}
use Rattle.path_model.specs.Histories.{op_of}
use Rattle.path_model.proofs.Counts.{entry, exit, count, opens, inn, out, May, ins-append, outs-append, count-append, opens-append, closes-append, May-names, Foreign, foreign_count}
use Rattle.path_model.proofs.Same.{inn_nil, out_nil, foreign_left, inn_before, out_before, Starts, May_split}
use Rattle.path_model.proofs.Crowd.{inn_more, out_more, Sane, sane_out, sane_nil, sane_foreign, sane_step, began_exit, stay_entry}
use Rattle.path_model.proofs.Path.{Live, start, step}

pub ended_entry : (s : Tree) (a : OpId) → entry s (Ended a) ≡ 0
ended_entry (op b) a = refl
ended_entry (seq s t) a = ended_entry s a
ended_entry (alt s t) a = omega (arith, ended_entry s a, ended_entry t a)
ended_entry (burst bd s) a = ended_entry s a

pub out_began : (s : Tree) (h : List Event) (a : OpId) → out s (h ++ Began a ∷ []) ≡ out s h
out_began (op b) h a = omega (arith, outs-append (op b) h (Began a ∷ []))
out_began (seq s t) h a = out_began t h a
out_began (alt s t) h a = omega (arith, out_began s h a, out_began t h a)
out_began (burst bd s) h a =
    let z : ◌≡◌ {A = ℕ} (if count s 0 h + entry s (Began a) - exit s (Began a) == 0 then exit s (Began a) else 0) 0 = cond_both (count s 0 h + entry s (Began a) - exit s (Began a) == 0) _ _ (λ x. x ≡ 0) (λ _. began_exit s a) (λ _. refl) in
    omega (arith, closes-append s 0 h (Began a ∷ []), z)

pub inn_ended : (s : Tree) (h : List Event) (a : OpId) → inn s (h ++ Ended a ∷ []) ≡ inn s h
inn_ended (op b) h a = omega (arith, ins-append (op b) h (Ended a ∷ []))
inn_ended (seq s t) h a = inn_ended s h a
inn_ended (alt s t) h a = omega (arith, inn_ended s h a, inn_ended t h a)
inn_ended (burst bd s) h a =
    let z : ◌≡◌ {A = ℕ} (if count s 0 h == 0 then entry s (Ended a) else 0) 0 = cond_both (count s 0 h == 0) _ _ (λ x. x ≡ 0) (λ _. ended_entry s a) (λ _. refl) in
    omega (arith, opens-append s 0 h (Ended a ∷ []), z)

abbrev pub Steady : Tree → List Event → Type 0
Steady (op b) h = Unit {0}
Steady (seq s t) h = Steady s h × Steady t h
Steady (alt s t) h = Steady s h × Steady t h
Steady (burst bd s) h = Sane s h × (count s 0 h + out s h ≡ inn s h)

pub steady_nil : (s : Tree) → Steady s []
steady_nil (op b) = tt
steady_nil (seq s t) = (steady_nil s, steady_nil t)
steady_nil (alt s t) = (steady_nil s, steady_nil t)
steady_nil (burst bd s) = (sane_nil s, omega (arith, inn_nil s, out_nil s))

pub steady_foreign : (s : Tree) (h u : List Event) → Foreign s u → Steady s h → Steady s (h ++ u)
steady_foreign (op b) h u f k = tt
steady_foreign (seq s t) h u f k = (steady_foreign s h u (foreign_left s (seq s t) u (λ a. inl) f) k.0, steady_foreign t h u (foreign_left t (seq s t) u (λ a. inr) f) k.1)
steady_foreign (alt s t) h u f k = (steady_foreign s h u (foreign_left s (alt s t) u (λ a. inl) f) k.0, steady_foreign t h u (foreign_left t (alt s t) u (λ a. inr) f) k.1)
steady_foreign (burst bd s) h u f k =
    let g = foreign_left s (burst bd s) u (λ a n. n) f in
    (sane_foreign s h u g k.0, omega (arith, k.1, inn_before s h u g, out_before s h u g, count-append s 0 h u, foreign_count s (count s 0 h) u g))

pub steady_step : (s : Tree) → NoRepeats s → NoNesting s → (h : List Event) (e : Event) (p : Type 0) → Steady s h → May s h e p → Steady s (h ++ e ∷ [])
steady_step (op b) n f h e p k m = tt
steady_step (seq s t) n f h e p k (inl m) = (steady_step s n.0 f.0 h e p k.0 m, steady_foreign t h (e ∷ []) (λ x. n.2 (op_of e) (May-names s h e p m) x, tt) k.1)
steady_step (seq s t) n f h e p k (inr m) = (steady_foreign s h (e ∷ []) (λ x. n.2 (op_of e) x (May-names t h e _ m), tt) k.0, steady_step t n.1 f.1 h e _ k.1 m)
steady_step (alt s t) n f h e p k (inl m) = (steady_step s n.0 f.0 h e p k.0 m, steady_foreign t h (e ∷ []) (λ x. n.2 (op_of e) (May-names s h e p m) x, tt) k.1)
steady_step (alt s t) n f h e p k (inr m) = (steady_foreign s h (e ∷ []) (λ x. n.2 (op_of e) x (May-names t h e _ m), tt) k.0, steady_step t n.1 f.1 h e _ k.1 m)
steady_step (burst bd s) n f h e p k m =
    let sane = sane_step s f.0 n h e _ k.0 m in
    (sane, omega (arith, k.1, sane_out s f.0 (h ++ e ∷ []) sane, count-append s 0 h (e ∷ []), inn_more s f.0 h e, out_more s f.0 h e))

pub live_steady : (s : Tree) → NoRepeats s → NoNesting s → {h : List Event} → Live s h → Steady s h
live_steady s n f start = steady_nil s
live_steady s n f (step w e r m h) = subst (Steady s) (sym h) (steady_step s n f w e _ (live_steady s n f r) m)

-- an entry is counted only where it was allowed
pub inn_step : (s : Tree) → NoRepeats s → NoNesting s → (h : List Event) (e : Event) {p : Type 0} → May s h e p → (inn s (h ++ e ∷ []) ≡ inn s h) ⊎ p
inn_step (op b) n f h (Began a) m = inr m.1
inn_step (op b) n f h (Ended a) m = inl (inn_ended (op b) h a)
inn_step (seq s t) n f h e (inl m) = inn_step s n.0 f.0 h e m
inn_step (seq s t) n f h e (inr m) = inl (inn_before s h (e ∷ []) (λ x. n.2 (op_of e) x (May-names t h e _ m), tt))
inn_step (alt s t) n f h e (inl m) = elim (inn_step s n.0 f.0 h e m) [
  | inl q ↦ inl (omega (arith, q, inn_before t h (e ∷ []) (λ x. n.2 (op_of e) (May-names s h e _ m) x, tt)))
  | inr p ↦ inr p
]
inn_step (alt s t) n f h e (inr m) = elim (inn_step t n.1 f.1 h e m) [
  | inl q ↦ inl (omega (arith, q, inn_before s h (e ∷ []) (λ x. n.2 (op_of e) x (May-names t h e _ m), tt)))
  | inr p ↦ inr p
]
inn_step (burst bd s) n f h e {p} m = go (May_split s h e m)
  where
    same : ◌≡◌ {A = ℕ} (if count s 0 h == 0 then entry s e else 0) 0 → opens s 0 (h ++ e ∷ []) ≡ opens s 0 h
    same z = omega (arith, opens-append s 0 h (e ∷ []), z)

    go : (May s h e ⊥ ⊎ (((p ⊎ (0 < count s 0 h)) × BoundAdmits bd (count s 0 h)) × Starts s e)) → (opens s 0 (h ++ e ∷ []) ≡ opens s 0 h) ⊎ p
    go (inl k) = inl (same (cond_both (count s 0 h == 0) _ _ (λ x. x ≡ 0) (λ _. stay_entry s f.0 n h e k) (λ _. refl)))
    go (inr ((inl x, r), k)) = inr x
    go (inr ((inr l, r), k)) = inl (same (cond-false _ _ _ (ne_eqb (count s 0 h) 0 (λ q. omega (arith, q, l)))))
