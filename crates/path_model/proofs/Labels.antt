-- A labelling of events is a merge of its labels, one by one, and the other way round.
use Rattle.std.proofs.Common.{◌≡◌, ◌≢◌, ◌==◌, if◌then◌else◌, ◌≤◌, ◌+◌, ℕ, suc, zero, List, [], ◌∷◌, ◌++◌, refl, sym, ap, ◌∙◌, subst, inl, inr, arith}
use Rattle.std.proofs.lemmas.Bool.{eqb-true, eq-eqb, ne_eqb, cond-true, cond-false}
use Rattle.path_model.specs.declared.history.Event.{Event}
use Rattle.path_model.proofs.Lists.{cons_nil}
use Rattle.std.proofs.Common.{Bool, true, false, length}
use Rattle.std.proofs.lemmas.Bool.{cases_eq}
use Rattle.path_model.specs.Labellings.{events_of, carrying, EachLabel, IsShuffle}
use Rattle.path_model.proofs.Lists.{cons_same}
use Rattle.path_model.proofs.Crowd.{Merge, empty, first, second, merge_swap, Mix, nothing, adding}

merge_cons : {x y w : List Event} (e : Event) → Merge x y w → Merge (e ∷ x) y (e ∷ w)
merge_cons e empty = first [] [] [] e empty refl refl
merge_cons e (first x y w f m h k) = first (e ∷ x) y (e ∷ w) f (merge_cons e m) (ap (λ u. e ∷ u) h) (ap (λ u. e ∷ u) k)
merge_cons e (second x y w f m h k) = second (e ∷ x) y (e ∷ w) f (merge_cons e m) h (ap (λ u. e ∷ u) k)

-- the same, from the front
data Weave : List Event → List Event → List Event → Type 0 where
  none : Weave [] [] []
  left : (e : Event) {x y w : List Event} → Weave x y w → Weave (e ∷ x) y (e ∷ w)
  right : (e : Event) {x y w : List Event} → Weave x y w → Weave x (e ∷ y) (e ∷ w)

weave_left : {x y w : List Event} (e : Event) → Weave x y w → Weave (x ++ e ∷ []) y (w ++ e ∷ [])
weave_left e none = left e none
weave_left e (left f m) = left f (weave_left e m)
weave_left e (right f m) = right f (weave_left e m)

weave_right : {x y w : List Event} (e : Event) → Weave x y w → Weave x (y ++ e ∷ []) (w ++ e ∷ [])
weave_right e none = right e none
weave_right e (left f m) = left f (weave_right e m)
weave_right e (right f m) = right f (weave_right e m)

weave : {x y w : List Event} → Merge x y w → Weave x y w
weave empty = none
weave (first x y w e {v} {u} m h k) = subst (λ a. Weave a y u) (sym h) (subst (Weave (x ++ e ∷ []) y) (sym k) (weave_left e (weave m)))
weave (second x y w e {v} {u} m h k) = subst (λ a. Weave x a u) (sym h) (subst (Weave x (y ++ e ∷ [])) (sym k) (weave_right e (weave m)))

-- the labelled events that don't carry the label
abbrev without : ℕ → List (ℕ × Event) → List (ℕ × Event)
without k [] = []
without k (l ∷ ls) = if k == l.0 then without k ls else (l ∷ without k ls)

merge_label : (k : ℕ) (ls : List (ℕ × Event)) → Merge (carrying k ls) (events_of (without k ls)) (events_of ls)
merge_label k [] = empty
merge_label k (l ∷ ls) =
    let r = merge_label k ls in
    elim (k == l.0) as (λ b. Merge (if b then (l.1 ∷ carrying k ls) else carrying k ls) (events_of (if b then without k ls else (l ∷ without k ls))) (l.1 ∷ events_of ls)) [
      | true ↦ merge_cons l.1 r
      | false ↦ merge_swap (merge_cons l.1 (merge_swap r))
    ]

without_same : (k : ℕ) (ls : List (ℕ × Event)) → carrying k (without k ls) ≡ []
without_same k [] = refl
without_same k (l ∷ ls) = go (k == l.0) refl (without_same k ls)
  where
    go : (b : Bool) → (k == l.0) ≡ b → carrying k (without k ls) ≡ [] → carrying k (if b then without k ls else (l ∷ without k ls)) ≡ []
    go true e r = r
    go false e r = cond-false _ _ _ e ∙ r

without_other : (j k : ℕ) (ls : List (ℕ × Event)) → (j ≡ k → ⊥) → carrying j (without k ls) ≡ carrying j ls
without_other j k [] n = refl
without_other j k (l ∷ ls) n = go (k == l.0) refl (without_other j k ls n)
  where
    go : (b : Bool) → (k == l.0) ≡ b → carrying j (without k ls) ≡ carrying j ls → carrying j (if b then without k ls else (l ∷ without k ls)) ≡ (if j == l.0 then (l.1 ∷ carrying j ls) else carrying j ls)
    go true e r = r ∙ sym (cond-false _ _ _ (ne_eqb j l.0 (λ h. n (h ∙ sym (eqb-true k l.0 e)))))
    go false e r = ap (λ u. if j == l.0 then (l.1 ∷ u) else u) r

length_without : (k : ℕ) (ls : List (ℕ × Event)) → length (without k ls) ≤ length ls
length_without k [] = omega arith
length_without k (l ∷ ls) =
    let r = length_without k ls in
    elim (k == l.0) as (λ b. length (if b then without k ls else (l ∷ without k ls)) ≤ suc (length ls)) [ true ↦ omega arith | false ↦ omega arith ]

module _ (L : List Event → Type 0) where
  mix_by : (n : ℕ) (ls : List (ℕ × Event)) → length ls ≤ n → EachLabel L ls → Mix L (events_of ls)
  mix_by n [] le each = nothing
  mix_by zero (l ∷ ls) le each = absurd (omega arith)
  mix_by (suc n) (l ∷ ls) le each =
      let same : (l.0 == l.0) ≡ true = eq-eqb l.0 l.0 refl in
      let here : carrying l.0 (l ∷ ls) ≡ l.1 ∷ carrying l.0 ls = cond-true _ _ _ same in
      let gone : without l.0 (l ∷ ls) ≡ without l.0 ls = cond-true _ _ _ same in
      let some : carrying l.0 (l ∷ ls) ≢ [] = λ h. cons_nil l.1 (carrying l.0 ls) (sym here ∙ h) in
      let shorter : length (without l.0 (l ∷ ls)) ≤ n = omega (arith, ap length gone, length_without l.0 ls) in
      adding _ _ (each l.0 some) some (mix_by n (without l.0 (l ∷ ls)) shorter rest) (merge_label l.0 (l ∷ ls))
    where
      rest : EachLabel L (without l.0 (l ∷ ls))
      rest j h = elim (cases_eq j l.0) [
        | inl e ↦ absurd (h (ap (λ i. carrying i (without l.0 (l ∷ ls))) e ∙ without_same l.0 (l ∷ ls)))
        | inr n ↦ let q = without_other j l.0 (l ∷ ls) n in subst L (sym q) (each j (λ z. h (q ∙ z)))
      ]

  pub labels_mix : (w : List Event) → IsShuffle L w → Mix L w
  labels_mix w (ls, e, each) = subst (Mix L) e (mix_by (length ls) ls (omega arith) each)

-- a label above all those in use
top : List (ℕ × Event) → ℕ
top [] = 0
top (l ∷ ls) = l.0 + 1 + top ls

top_free : (k : ℕ) (ls : List (ℕ × Event)) → top ls ≤ k → carrying k ls ≡ []
unfolding top
top_free k [] h = refl
top_free k (l ∷ ls) h = cond-false _ _ _ (ne_eqb k l.0 (λ e. omega (arith, e, h))) ∙ top_free k ls (omega arith)

-- labelled events with another label woven in
record Woven (k : ℕ) (ls : List (ℕ × Event)) (x w : List Event) : Type 0 where
  all : List (ℕ × Event)
  events : events_of all ≡ w
  own : carrying k all ≡ x
  others : (j : ℕ) → (j ≡ k → ⊥) → carrying j all ≡ carrying j ls

woven : (k : ℕ) {x y w : List Event} → Weave x y w → (ls : List (ℕ × Event)) → events_of ls ≡ y → carrying k ls ≡ [] → Woven k ls x w
woven k none [] h f = record { all = []; events = refl; own = refl; others = λ j n. refl }
woven k none (l ∷ ls) h f = absurd (cons_nil _ _ h)
woven k (left e m) ls h f =
    let r = woven k m ls h f in
    record {
      all = (k, e) ∷ r.all;
      events = ap (λ u. e ∷ u) r.events;
      own = cond-true _ _ _ (eq-eqb k k refl) ∙ ap (λ u. e ∷ u) r.own;
      others = λ j n. cond-false _ _ _ (ne_eqb j k n) ∙ r.others j n;
    }
woven k (right e m) [] h f = absurd (cons_nil _ _ (sym h))
woven k (right e {x = x} {y = y} {w = w} m) (l ∷ ls) h f = go (k == l.0) refl f (λ g. woven k m ls (cons_same _ _ _ _ h).1 g)
  where
    go : (b : Bool) → (k == l.0) ≡ b → (if b then (l.1 ∷ carrying k ls) else carrying k ls) ≡ [] → (carrying k ls ≡ [] → Woven k ls x w) → Woven k (l ∷ ls) x (e ∷ w)
    go true q g rec = absurd (cons_nil _ _ g)
    go false q g rec =
        let r = rec g in
        record {
          all = l ∷ r.all;
          events = ap (λ u. l.1 ∷ u) r.events ∙ ap (λ d. d ∷ w) (cons_same _ _ _ _ h).0;
          own = cond-false _ _ _ q ∙ r.own;
          others = λ j n. ap (λ u. if j == l.0 then (l.1 ∷ u) else u) (r.others j n);
        }

pub mix_labels : (L : List Event → Type 0) {w : List Event} → Mix L w → IsShuffle L w
mix_labels L nothing = ([], refl, λ k h. absurd (h refl))
mix_labels L (adding x y {w} lx some b g) = go (mix_labels L b)
  where
    go : IsShuffle L y → IsShuffle L w
    go (ls, e, each) = (r.all, r.events, each')
      where
        k : ℕ
        k = top ls

        r : Woven k ls x w
        r = woven k (weave g) ls e (top_free k ls (omega arith))

        each' : EachLabel L r.all
        each' j h = elim (cases_eq j k) [
          | inl q ↦ subst L (sym (ap (λ i. carrying i r.all) q ∙ r.own)) lx
          | inr n ↦ let q = r.others j n in subst L (sym q) (each j (λ z. h (q ∙ z)))
        ]
