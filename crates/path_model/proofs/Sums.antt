-- Sums over the labels in use are sums over the events.
use Rattle.std.proofs.Common.{◌≡◌, ◌≢◌, ◌⊎◌, ◌==◌, if◌then◌else◌, ◌<◌, ◌≤◌, ◌+◌, ℕ, List, [], ◌∷◌, refl, sym, ap, ◌∙◌, subst, inl, inr, arith}
use Rattle.std.proofs.lemmas.Bool.{eqb-true, eq-eqb, ne_eqb, cond-true, cond-false}
use Rattle.path_model.specs.declared.history.Event.{Event}
use Rattle.path_model.proofs.Lists.{cons_nil}
use Rattle.std.proofs.Common.{Bool, true, false, length, ◌↔◌}
use Rattle.std.proofs.lemmas.Bool.{cases_lt, cases_eq, or_left, or_right, or_cases, false≢true, eqb-false}
use Rattle.std.specs.Prelude.{◌||◌}
use Rattle.path_model.specs.Labellings.{Member, NoneTwice, events_of, carrying}
use Rattle.path_model.specs.BurstCounts.{Many, InUse}

abbrev pub total : (Event → ℕ) → List Event → ℕ
total f [] = 0
total f (e ∷ w) = f e + total f w

abbrev pub sum_over : (ℕ → ℕ) → List ℕ → ℕ
sum_over g [] = 0
sum_over g (k ∷ ks) = g k + sum_over g ks

abbrev is_in : ℕ → List ℕ → Bool
is_in k [] = false
is_in k (l ∷ ls) = (k == l) || is_in k ls

in_member : (k : ℕ) (ls : List ℕ) → is_in k ls ≡ true → Member k ls
in_member k [] h = absurd (false≢true h)
in_member k (l ∷ ls) h = elim (or_cases (k == l) (is_in k ls) h) [ inl e ↦ inl (eqb-true k l e) | inr e ↦ inr (in_member k ls e) ]

member_in : (k : ℕ) (ls : List ℕ) → Member k ls → is_in k ls ≡ true
member_in k [] m = absurd m
member_in k (l ∷ ls) (inl e) = or_left (k == l) (is_in k ls) (eq-eqb k l e)
member_in k (l ∷ ls) (inr m) = or_right (k == l) (is_in k ls) (member_in k ls m)

-- the labels in use
abbrev pub labels_of : List (ℕ × Event) → List ℕ
labels_of [] = []
labels_of (l ∷ ls) = if is_in l.0 (labels_of ls) then labels_of ls else (l.0 ∷ labels_of ls)

carrying_here : (l : ℕ × Event) (ls : List (ℕ × Event)) → carrying l.0 (l ∷ ls) ≡ l.1 ∷ carrying l.0 ls
carrying_here l ls = cond-true _ _ _ (eq-eqb l.0 l.0 refl)

carrying_else : (k : ℕ) (l : ℕ × Event) (ls : List (ℕ × Event)) → (k ≡ l.0 → ⊥) → carrying k (l ∷ ls) ≡ carrying k ls
carrying_else k l ls n = cond-false _ _ _ (ne_eqb k l.0 n)

pub member_used : (k : ℕ) (ls : List (ℕ × Event)) → Member k (labels_of ls) → InUse ls k
member_used k [] m = absurd m
member_used k (l ∷ ls) m = elim (cases_eq k l.0) [
  | inl e ↦ λ z. cons_nil l.1 (carrying l.0 ls) (sym (ap (λ i. carrying i (l ∷ ls)) e ∙ carrying_here l ls) ∙ z)
  | inr n ↦ λ z. member_used k ls (go (is_in l.0 (labels_of ls)) m n) (sym (carrying_else k l ls n) ∙ z)
]
  where
    go : (b : Bool) → Member k (if b then labels_of ls else (l.0 ∷ labels_of ls)) → (k ≡ l.0 → ⊥) → Member k (labels_of ls)
    go true m n = m
    go false (inl e) n = absurd (n e)
    go false (inr m) n = m

pub used_member : (k : ℕ) (ls : List (ℕ × Event)) → InUse ls k → Member k (labels_of ls)
used_member k [] u = absurd (u refl)
used_member k (l ∷ ls) u = go (is_in l.0 (labels_of ls)) refl (cases_eq k l.0) (λ v. used_member k ls v)
  where
    go : (b : Bool) → is_in l.0 (labels_of ls) ≡ b → (k ≡ l.0) ⊎ (k ≡ l.0 → ⊥) → (InUse ls k → Member k (labels_of ls)) → Member k (if b then labels_of ls else (l.0 ∷ labels_of ls))
    go true e (inl q) rec = subst (λ i. Member i (labels_of ls)) (sym q) (in_member l.0 (labels_of ls) e)
    go true e (inr n) rec = rec (λ z. u (carrying_else k l ls n ∙ z))
    go false e (inl q) rec = inl q
    go false e (inr n) rec = inr (rec (λ z. u (carrying_else k l ls n ∙ z)))

pub labels_once : (ls : List (ℕ × Event)) → NoneTwice (labels_of ls)
labels_once [] = tt
labels_once (l ∷ ls) = go (is_in l.0 (labels_of ls)) refl (labels_once ls)
  where
    go : (b : Bool) → is_in l.0 (labels_of ls) ≡ b → NoneTwice (labels_of ls) → NoneTwice (if b then labels_of ls else (l.0 ∷ labels_of ls))
    go true e r = r
    go false e r = (λ m. absurd (false≢true (sym e ∙ member_in l.0 (labels_of ls) m)), r)

sum_same : (g g' : ℕ → ℕ) (ks : List ℕ) → ((k : ℕ) → Member k ks → g' k ≡ g k) → sum_over g' ks ≡ sum_over g ks
sum_same g g' [] h = refl
sum_same g g' (k ∷ ks) h = let a = h k (inl refl) in let b = sum_same g g' ks (λ j m. h j (inr m)) in omega (arith, a, b)

member_same : (j k : ℕ) (ks : List ℕ) → j ≡ k → Member j ks → Member k ks
member_same j k ks e m = subst (λ i. Member i ks) e m

sum_one : (g g' : ℕ → ℕ) (k d : ℕ) (ks : List ℕ) → NoneTwice ks → Member k ks → g' k ≡ g k + d → ((j : ℕ) → (j ≡ k → ⊥) → g' j ≡ g j) → sum_over g' ks ≡ sum_over g ks + d
sum_one g g' k d [] n m q h = absurd m
sum_one g g' k d (l ∷ ks) n (inl e) q h =
    let here : g' l ≡ g l + d = subst (λ i. g' i ≡ g i + d) e q in
    let rest = sum_same g g' ks (λ j m. h j (λ z. n.0 (member_same j l ks (z ∙ e) m))) in
    omega (arith, here, rest)
sum_one g g' k d (l ∷ ks) n (inr m) q h =
    let here = h l (λ z. n.0 (member_same k l ks (sym z) m)) in
    let rest = sum_one g g' k d ks n.1 m q h in
    omega (arith, here, rest)

pub nil_or : (w : List Event) → (w ≡ []) ⊎ (w ≢ [])
nil_or [] = inl refl
nil_or (e ∷ w) = inr (cons_nil e w)

nothing_carried : (k : ℕ) (ls : List (ℕ × Event)) → (Member k (labels_of ls) → ⊥) → carrying k ls ≡ []
nothing_carried k ls n = elim (nil_or (carrying k ls)) [ inl z ↦ z | inr u ↦ absurd (n (used_member k ls u)) ]

-- what adds up over events adds up over labels
pub total_labels : (f : Event → ℕ) (ls : List (ℕ × Event)) → total f (events_of ls) ≡ sum_over (λ k. total f (carrying k ls)) (labels_of ls)
total_labels f [] = refl
total_labels f (l ∷ ls) = go (is_in l.0 (labels_of ls)) refl (total_labels f ls)
  where
    g : ℕ → ℕ
    g k = total f (carrying k ls)

    g' : ℕ → ℕ
    g' k = total f (carrying k (l ∷ ls))

    at : g' l.0 ≡ g l.0 + f l.1
    at = let e = ap (total f) (carrying_here l ls) in omega (arith, e)

    other : (j : ℕ) → (j ≡ l.0 → ⊥) → g' j ≡ g j
    other j n = ap (total f) (carrying_else j l ls n)

    go : (b : Bool) → is_in l.0 (labels_of ls) ≡ b → total f (events_of ls) ≡ sum_over g (labels_of ls) → f l.1 + total f (events_of ls) ≡ sum_over g' (if b then labels_of ls else (l.0 ∷ labels_of ls))
    go true e r = let q = sum_one g g' l.0 (f l.1) (labels_of ls) (labels_once ls) (in_member l.0 (labels_of ls) e) at other in omega (arith, q, r)
    go false e r =
        let away : (Member l.0 (labels_of ls) → ⊥) = λ m. false≢true (sym e ∙ member_in l.0 (labels_of ls) m) in
        let q = sum_same g g' (labels_of ls) (λ j m. other j (λ z. away (member_same j l.0 (labels_of ls) z m))) in
        let empty : carrying l.0 ls ≡ [] = nothing_carried l.0 ls away in
        let zero_here : g l.0 ≡ 0 = ap (total f) empty in
        omega (arith, q, r, at, zero_here)

pub sum_add : (f g h : ℕ → ℕ) (ks : List ℕ) → ((k : ℕ) → Member k ks → f k + g k ≡ h k) → sum_over f ks + sum_over g ks ≡ sum_over h ks
sum_add f g h [] e = refl
sum_add f g h (k ∷ ks) e = let a = e k (inl refl) in let b = sum_add f g h ks (λ j m. e j (inr m)) in omega (arith, a, b)

pub sum_le : (f g : ℕ → ℕ) (ks : List ℕ) → ((k : ℕ) → Member k ks → f k ≤ g k) → sum_over f ks ≤ sum_over g ks
sum_le f g [] e = omega arith
sum_le f g (k ∷ ks) e = let a = e k (inl refl) in let b = sum_le f g ks (λ j m. e j (inr m)) in omega (arith, a, b)

pub sum_lt : (f g : ℕ → ℕ) (ks : List ℕ) (k : ℕ) → Member k ks → f k < g k → ((j : ℕ) → Member j ks → f j ≤ g j) → sum_over f ks < sum_over g ks
sum_lt f g [] k m l e = absurd m
sum_lt f g (j ∷ ks) k (inl q) l e =
    let a : f j < g j = subst (λ i. f i < g i) q l in
    let b = sum_le f g ks (λ i m. e i (inr m)) in
    omega (arith, a, b)
sum_lt f g (j ∷ ks) k (inr m) l e =
    let a = e j (inl refl) in
    let b = sum_lt f g ks k m l (λ i x. e i (inr x)) in
    omega (arith, a, b)

-- where one sum is less than another, some part of it is
pub some_less : (f g : ℕ → ℕ) (ks : List ℕ) → sum_over f ks < sum_over g ks → (k : ℕ) × Member k ks × (f k < g k)
some_less f g [] l = absurd (omega (arith, l))
some_less f g (k ∷ ks) l = go (cases_lt (f k) (g k)) (λ h. some_less f g ks h)
  where
    go : (f k < g k) ⊎ (g k ≤ f k) → (sum_over f ks < sum_over g ks → (j : ℕ) × Member j ks × (f j < g j)) → (j : ℕ) × Member j (k ∷ ks) × (f j < g j)
    go (inl h) rec = (k, inl refl, h)
    go (inr h) rec = let r = rec (omega (arith, h, l)) in (r.0, inr r.1, r.2)

-- how many are 1, where each is 0 or 1
chosen : (ℕ → ℕ) → List ℕ → List ℕ
chosen g [] = []
chosen g (k ∷ ks) = if g k == 1 then (k ∷ chosen g ks) else chosen g ks

chosen_member : (g : ℕ → ℕ) (k : ℕ) (ks : List ℕ) → Member k (chosen g ks) ↔ (Member k ks × (g k ≡ 1))
unfolding chosen
chosen_member g k [] = (λ m. absurd m, λ p. p.0)
chosen_member g k (j ∷ ks) = go (g j == 1) refl (chosen_member g k ks)
  where
    go : (b : Bool) → (g j == 1) ≡ b → Member k (chosen g ks) ↔ (Member k ks × (g k ≡ 1)) → Member k (if b then (j ∷ chosen g ks) else chosen g ks) ↔ (Member k (j ∷ ks) × (g k ≡ 1))
    go true e r = (to, from)
      where
        to : Member k (j ∷ chosen g ks) → Member k (j ∷ ks) × (g k ≡ 1)
        to (inl q) = (inl q, ap g q ∙ eqb-true (g j) 1 e)
        to (inr m) = let p = r.0 m in (inr p.0, p.1)

        from : Member k (j ∷ ks) × (g k ≡ 1) → Member k (j ∷ chosen g ks)
        from (inl q, h) = inl q
        from (inr m, h) = inr (r.1 (m, h))
    go false e r = (to, from)
      where
        to : Member k (chosen g ks) → Member k (j ∷ ks) × (g k ≡ 1)
        to m = let p = r.0 m in (inr p.0, p.1)

        from : Member k (j ∷ ks) × (g k ≡ 1) → Member k (chosen g ks)
        from (inl q, h) = absurd (eqb-false (g j) 1 e (sym (ap g q) ∙ h))
        from (inr m, h) = r.1 (m, h)

chosen_once : (g : ℕ → ℕ) (ks : List ℕ) → NoneTwice ks → NoneTwice (chosen g ks)
unfolding chosen
chosen_once g [] n = tt
chosen_once g (k ∷ ks) n = go (g k == 1) (chosen_once g ks n.1)
  where
    go : (b : Bool) → NoneTwice (chosen g ks) → NoneTwice (if b then (k ∷ chosen g ks) else chosen g ks)
    go true r = (λ m. n.0 ((chosen_member g k ks).0 m).0, r)
    go false r = r

chosen_many : (g : ℕ → ℕ) (ks : List ℕ) → ((k : ℕ) → Member k ks → g k ≤ 1) → length (chosen g ks) ≡ sum_over g ks
unfolding chosen
chosen_many g [] h = refl
chosen_many g (k ∷ ks) h = go (g k == 1) refl (chosen_many g ks (λ j m. h j (inr m)))
  where
    go : (b : Bool) → (g k == 1) ≡ b → length (chosen g ks) ≡ sum_over g ks → length (if b then (k ∷ chosen g ks) else chosen g ks) ≡ g k + sum_over g ks
    go true e r = omega (arith, r, eqb-true (g k) 1 e)
    go false e r = let l = h k (inl refl) in let n : g k ≢ 1 = eqb-false (g k) 1 e in omega (arith, r, l, n)

pub many_ones : (g : ℕ → ℕ) (ks : List ℕ) (P : ℕ → Type 0) (n : ℕ) → NoneTwice ks → ((k : ℕ) → Member k ks → g k ≤ 1) → ((k : ℕ) → (Member k ks × (g k ≡ 1)) ↔ P k) → sum_over g ks ≡ n → Many P n
many_ones g ks P n once le is e = record {
  all = chosen g ks;
  apart = chosen_once g ks once;
  each = λ k. (λ m. (is k).0 ((chosen_member g k ks).0 m), λ p. (chosen_member g k ks).1 ((is k).1 p));
  many = chosen_many g ks le ∙ e;
}
