-- Blocks of events behind a history: what they enter and leave.
use Rattle.std.proofs.Common.{◌≡◌, ◌==◌, ◌≤◌, ◌+◌, ℕ, List, [], ◌∷◌, ◌++◌, refl, sym, ap, ◌∙◌, subst, inl, inr, arith, append_assoc, append-nil}
use Rattle.std.proofs.lemmas.Bool.{ne_eqb, cond-false}
use Rattle.path_model.specs.declared.ids.OpId.{OpId}
use Rattle.path_model.specs.declared.history.Event.{Event}
use Rattle.path_model.specs.declared.history.Event.TheVariants.{Began, Ended}
use Rattle.path_model.specs.Trees.{Tree, op, seq, alt, burst, Names, NoBraces}
use Rattle.path_model.specs.Histories.{op_of}
use Rattle.path_model.specs.Machine.{semicolons}
use Rattle.path_model.specs.Executions.{entry, exit, entered, left}
use Rattle.path_model.specs.Guarantees.{PartsKeep}
use Rattle.path_state.proofs.Alike.{entered_step, left_step, entered_still, left_still}
use Rattle.path_state.proofs.Places.{StandAt, Counted}

-- the tree names the operations of all events, or of none
abbrev pub Within : Tree → List Event → Type 0
Within t [] = Unit {0}
Within t (e ∷ w) = Names t (op_of e) × Within t w

abbrev pub Avoids : Tree → List Event → Type 0
Avoids t [] = Unit {0}
Avoids t (e ∷ w) = (Names t (op_of e) → ⊥) × Avoids t w

pub within_append : (t : Tree) (x y : List Event) → Within t x → Within t y → Within t (x ++ y)
within_append t [] y p q = q
within_append t (e ∷ x) y p q = (p.0, within_append t x y p.1 q)

pub within_map : (s t : Tree) → ((a : OpId) → Names s a → Names t a) → (w : List Event) → Within s w → Within t w
within_map s t f [] p = tt
within_map s t f (e ∷ w) p = (f (op_of e) p.0, within_map s t f w p.1)

pub within_avoids : (s t : Tree) → ((a : OpId) → Names s a → Names t a → ⊥) → (w : List Event) → Within s w → Avoids t w
within_avoids s t f [] p = tt
within_avoids s t f (e ∷ w) p = (f (op_of e) p.0, within_avoids s t f w p.1)

avoids_map : (s t : Tree) → ((a : OpId) → Names s a → Names t a) → (w : List Event) → Avoids t w → Avoids s w
avoids_map s t f [] p = tt
avoids_map s t f (e ∷ w) p = ((λ n. p.0 (f (op_of e) n)), avoids_map s t f w p.1)

-- how many of the events enter the tree, and how many leave it
abbrev pub entries : Tree → List Event → ℕ
entries t [] = 0
entries t (e ∷ w) = entry t e + entries t w

abbrev pub exits : Tree → List Event → ℕ
exits t [] = 0
exits t (e ∷ w) = exit t e + exits t w

pub entries_append : (t : Tree) (x y : List Event) → entries t (x ++ y) ≡ entries t x + entries t y
entries_append t [] y = omega arith
entries_append t (e ∷ x) y = omega (arith, entries_append t x y)

op_same : (a b : OpId) → a.0 ≡ b.0 → a ≡ b
op_same a b e = ap (λ k. let c : OpId = record { 0 = k } in c) e

foreign_entry : (t : Tree) (e : Event) → (Names t (op_of e) → ⊥) → entry t e ≡ 0
foreign_entry (op b) (Began a) n = cond-false {A = ℕ} (a.0 == b.0) 1 0 (ne_eqb a.0 b.0 (λ e. n (op_same a b e)))
foreign_entry (op b) (Ended a) n = refl
foreign_entry (seq l r) e n = foreign_entry l e (λ k. n (inl k))
foreign_entry (alt l r) e n = omega (arith, foreign_entry l e (λ k. n (inl k)), foreign_entry r e (λ k. n (inr k)))
foreign_entry (burst bd t) e n = foreign_entry t e n

foreign_exit : (t : Tree) (e : Event) → (Names t (op_of e) → ⊥) → exit t e ≡ 0
foreign_exit (op b) (Began a) n = refl
foreign_exit (op b) (Ended a) n = cond-false {A = ℕ} (a.0 == b.0) 1 0 (ne_eqb a.0 b.0 (λ e. n (op_same a b e)))
foreign_exit (seq l r) e n = foreign_exit r e (λ k. n (inr k))
foreign_exit (alt l r) e n = omega (arith, foreign_exit l e (λ k. n (inl k)), foreign_exit r e (λ k. n (inr k)))
foreign_exit (burst bd t) e n = foreign_exit t e n

pub avoid_entries : (t : Tree) (w : List Event) → Avoids t w → entries t w ≡ 0
avoid_entries t [] p = refl
avoid_entries t (e ∷ w) p = omega (arith, foreign_entry t e p.0, avoid_entries t w p.1)

pub avoid_exits : (t : Tree) (w : List Event) → Avoids t w → exits t w ≡ 0
avoid_exits t [] p = refl
avoid_exits t (e ∷ w) p = omega (arith, foreign_exit t e p.0, avoid_exits t w p.1)

-- events that don't enter a tree, or don't leave it
pub entered_none : (t : Tree) (h w : List Event) → entries t w ≡ 0 → entered t (h ++ w) ≡ entered t h
entered_none t h [] z = ap (entered t) (append-nil h)
entered_none t h (e ∷ w) z =
    ap (entered t) (sym (append_assoc h (e ∷ []) w)) ∙ entered_none t (h ++ e ∷ []) w (omega (arith, z)) ∙ entered_still t h e (omega (arith, z))

pub left_none : (t : Tree) (h w : List Event) → exits t w ≡ 0 → left t (h ++ w) ≡ left t h
left_none t h [] z = ap (left t) (append-nil h)
left_none t h (e ∷ w) z =
    ap (left t) (sym (append_assoc h (e ∷ []) w)) ∙ left_none t (h ++ e ∷ []) w (omega (arith, z)) ∙ left_still t h e (omega (arith, z))

pub entered_avoids : (t : Tree) (h w : List Event) → Avoids t w → entered t (h ++ w) ≡ entered t h
entered_avoids t h w p = entered_none t h w (avoid_entries t w p)

pub left_avoids : (t : Tree) (h w : List Event) → Avoids t w → left t (h ++ w) ≡ left t h
left_avoids t h w p = left_none t h w (avoid_exits t w p)

-- without braces entries and exits add up
entered_one : (t : Tree) → NoBraces t → (h : List Event) (e : Event) → entered t (h ++ e ∷ []) ≡ entered t h + entry t e
entered_one (op b) f h e = entered_step b h e
entered_one (seq l r) f h e = entered_one l f.0 h e
entered_one (alt l r) f h e = omega (arith, entered_one l f.0 h e, entered_one r f.1 h e)
entered_one (burst bd t) f h e = absurd f

left_one : (t : Tree) → NoBraces t → (h : List Event) (e : Event) → left t (h ++ e ∷ []) ≡ left t h + exit t e
left_one (op b) f h e = left_step b h e
left_one (seq l r) f h e = left_one r f.1 h e
left_one (alt l r) f h e = omega (arith, left_one l f.0 h e, left_one r f.1 h e)
left_one (burst bd t) f h e = absurd f

pub entered_total : (t : Tree) → NoBraces t → (h w : List Event) → entered t (h ++ w) ≡ entered t h + entries t w
entered_total t f h [] = omega (arith, ap (entered t) (append-nil h))
entered_total t f h (e ∷ w) = omega (arith, ap (entered t) (append_assoc h (e ∷ []) w), entered_total t f (h ++ e ∷ []) w, entered_one t f h e)

pub left_total : (t : Tree) → NoBraces t → (h w : List Event) → left t (h ++ w) ≡ left t h + exits t w
left_total t f h [] = omega (arith, ap (left t) (append-nil h))
left_total t f h (e ∷ w) = omega (arith, ap (left t) (append_assoc h (e ∷ []) w), left_total t f (h ++ e ∷ []) w, left_one t f h e)

-- what stands in a tree stays while nothing of it happens
pub stand_stays : (t : Tree) (place : ℕ) (stands : List ℕ) (h w : List Event) → Avoids t w → StandAt t place stands h → StandAt t place stands (h ++ w)
stand_stays (op a) place stands h w p k = tt
stand_stays (seq l r) place stands h w p k =
    let q = avoids_map l (seq l r) (λ a n. inl n) w p in
    let x = avoids_map r (seq l r) (λ a n. inr n) w p in (
      stand_stays l place stands h w q k.0,
      stand_stays r (place + semicolons l + 1) stands h w x k.1,
      omega (arith, k.2, left_avoids l h w q, entered_avoids r h w x),
    )
stand_stays (alt l r) place stands h w p k = (
  stand_stays l place stands h w (avoids_map l (alt l r) (λ a n. inl n) w p) k.0,
  stand_stays r (place + semicolons l) stands h w (avoids_map r (alt l r) (λ a n. inr n) w p) k.1,
)
stand_stays (burst bd t) place stands h w p k = stand_stays t place stands h w (avoids_map t (burst bd t) (λ a n. n) w p) k

pub counted_stays : (t : Tree) (progress : OpId → ℕ) (h w : List Event) → Avoids t w → Counted t progress h → Counted t progress (h ++ w)
counted_stays t progress h w p c a n =
    let q = avoids_map (op a) t (λ b e. subst (Names t) (sym e) n) w p in
    omega (arith, c a n, entered_avoids (op a) h w q, left_avoids (op a) h w q)

-- no more of a part is left than entered
pub left_entered : (t : Tree) (h : List Event) → PartsKeep t h → left t h ≤ entered t h
left_entered (op b) h k = k
left_entered (seq l r) h k = omega (arith, left_entered l h k.0, left_entered r h k.1, k.2)
left_entered (alt l r) h k = omega (arith, left_entered l h k.0, left_entered r h k.1)
left_entered (burst bd t) h k = elim k.2 [ inl x ↦ omega (arith, x.1) | inr x ↦ omega (arith, x.1) ]

entered_nothing : (t : Tree) → entered t [] ≡ 0
entered_nothing (op a) = refl
entered_nothing (seq l r) = entered_nothing l
entered_nothing (alt l r) = omega (arith, entered_nothing l, entered_nothing r)
entered_nothing (burst bd t) = refl

pub nothing_entered : (t : Tree) → (entered t [] ≡ 0) × (left t [] ≡ 0)
nothing_entered t = (entered_nothing t, left_nothing t)
  where
    left_nothing : (t : Tree) → left t [] ≡ 0
    left_nothing (op a) = refl
    left_nothing (seq l r) = left_nothing r
    left_nothing (alt l r) = omega (arith, left_nothing l, left_nothing r)
    left_nothing (burst bd t) = refl
