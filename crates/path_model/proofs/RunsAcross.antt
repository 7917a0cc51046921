-- Which labels are underway at a front of a labelling, and how many.
use Rattle.std.proofs.Common.{◌≡◌, ◌⊎◌, ◌==◌, if◌then◌else◌, ◌≤◌, ◌+◌, ◌-◌, ℕ, suc, List, [], ◌∷◌, ◌++◌, ◌↔◌, Bool, true, false, length, refl, sym, ap, ◌∙◌, subst, inl, inr, arith}
use Rattle.std.proofs.lemmas.List.{append-nil}
use Rattle.std.proofs.lemmas.Bool.{eqb-true, eqb-false}
use Rattle.path_model.specs.declared.history.Event.{Event}
use Rattle.path_model.specs.Trees.{Bound, any, most, Tree, NoRepeats, NoBraces}
use Rattle.path_model.specs.Labellings.{Member, NoneTwice, AtMost, RunsAcross, WithinBound, events_of, carrying, EachLabel}
use Rattle.path_model.specs.Words.{IsWord}
use Rattle.path_model.specs.BurstCounts.{Many, InUse}
use Rattle.path_model.proofs.Lists.{cons_same, cons_nil}
use Rattle.path_model.proofs.Counts.{count, inn, out}
use Rattle.path_model.proofs.Same.{May_weaken, balanced_stuck}
use Rattle.path_model.proofs.Solo.{Solo, solo_front, Stage, Meets, word_some}
use Rattle.path_model.proofs.Crowd.{Sane, sane_out, Crowd, crowd_count, crowd_sane, solo_crowd, solo_last, mix_crowd}
use Rattle.path_model.proofs.Labels.{labels_mix}
use Rattle.path_model.proofs.Rooms.{Fits}
use Rattle.path_model.proofs.Sums.{labels_of, member_used, used_member, labels_once, sum_add, many_ones}
use Rattle.path_model.proofs.Totals.{inn_sum, out_sum}

-- lists of numbers, none of them twice
drop_one : ℕ → List ℕ → List ℕ
drop_one k [] = []
drop_one k (l ∷ ls) = if k == l then ls else (l ∷ drop_one k ls)

drop_length : (k : ℕ) (ls : List ℕ) → Member k ls → length (drop_one k ls) + 1 ≡ length ls
unfolding drop_one
drop_length k [] m = absurd m
drop_length k (l ∷ ls) m = go (k == l) refl m (λ x. drop_length k ls x)
  where
    go : (b : Bool) → (k == l) ≡ b → (k ≡ l) ⊎ Member k ls → (Member k ls → length (drop_one k ls) + 1 ≡ length ls) → length (if b then ls else (l ∷ drop_one k ls)) + 1 ≡ suc (length ls)
    go true e m r = omega arith
    go false e (inl q) r = absurd (eqb-false k l e q)
    go false e (inr x) r = let y = r x in omega (arith, y)

drop_member : (k j : ℕ) (ls : List ℕ) → (j ≡ k → ⊥) → Member j ls → Member j (drop_one k ls)
unfolding drop_one
drop_member k j [] n m = absurd m
drop_member k j (l ∷ ls) n m = go (k == l) refl m (λ x. drop_member k j ls n x)
  where
    go : (b : Bool) → (k == l) ≡ b → (j ≡ l) ⊎ Member j ls → (Member j ls → Member j (drop_one k ls)) → Member j (if b then ls else (l ∷ drop_one k ls))
    go true e (inl q) r = absurd (n (q ∙ sym (eqb-true k l e)))
    go true e (inr x) r = x
    go false e (inl q) r = inl q
    go false e (inr x) r = inr (r x)

pub sub_length : (ks all : List ℕ) → NoneTwice ks → ((k : ℕ) → Member k ks → Member k all) → length ks ≤ length all
sub_length [] all n h = omega arith
sub_length (k ∷ ks) all n h =
    let r = sub_length ks (drop_one k all) n.1 (λ j m. drop_member k j all (λ q. n.0 (subst (λ i. Member i ks) q m)) (h j (inr m))) in
    let d = drop_length k all (h k (inl refl)) in
    omega (arith, r, d)

pub many_at_most : (P : ℕ → Type 0) (c n : ℕ) → Many P c → c ≤ n → AtMost n P
many_at_most P c n m l ks once each = let r = sub_length ks m.all once (λ k x. (m.each k).1 (each k x)) in omega (arith, r, l, m.many)

pub at_most_many : (P : ℕ → Type 0) (c n : ℕ) → AtMost n P → Many P c → c ≤ n
at_most_many P c n a m = let r = a m.all m.apart (λ k x. (m.each k).0 x) in omega (arith, r, m.many)

-- labelled events in two parts
pub carrying_append : (k : ℕ) (x y : List (ℕ × Event)) → carrying k (x ++ y) ≡ carrying k x ++ carrying k y
carrying_append k [] y = refl
carrying_append k (l ∷ x) y =
    let r = carrying_append k x y in
    elim (k == l.0) as (λ c. (if c then (l.1 ∷ carrying k (x ++ y)) else carrying k (x ++ y)) ≡ (if c then (l.1 ∷ carrying k x) else carrying k x) ++ carrying k y) [ true ↦ ap (λ u. l.1 ∷ u) r | false ↦ r ]

pub events_append : (x y : List (ℕ × Event)) → events_of (x ++ y) ≡ events_of x ++ events_of y
events_append [] y = refl
events_append (l ∷ x) y = ap (λ u. l.1 ∷ u) (events_append x y)

pub record Split (ls : List (ℕ × Event)) (x : List Event) : Type 0 where
  pub front : List (ℕ × Event)
  pub rest : List (ℕ × Event)
  pub joined : ls ≡ front ++ rest
  pub events : events_of front ≡ x

pub events_split : (x y : List Event) (ls : List (ℕ × Event)) → events_of ls ≡ x ++ y → Split ls x
events_split [] y ls h = record { front = []; rest = ls; joined = refl; events = refl }
events_split (e ∷ x) y [] h = absurd (cons_nil e (x ++ y) (sym h))
events_split (e ∷ x) y (l ∷ ls) h =
    let q = cons_same _ _ _ _ h in
    let r = events_split x y ls q.1 in
    record { front = l ∷ r.front; rest = r.rest; joined = ap (λ u. l ∷ u) r.joined; events = ap (λ u. l.1 ∷ u) r.events ∙ ap (λ d. d ∷ x) q.0 }

module _ (s : Tree) (f : NoBraces s) (n : NoRepeats s) (ms : Meets s) where
  -- nothing follows a word
  word_ends : (x y : List Event) → IsWord s x → Solo s (x ++ y) → y ≡ []
  word_ends x [] wx r = refl
  word_ends x (e ∷ y) wx r = absurd (balanced_stuck s x e (ms.balanced x wx) (May_weaken s x e (λ z. word_some s ms x wx z) (solo_last s (solo_front s r (x ++ e ∷ []) y (split x)) x e refl).1))
    where
      split : (x : List Event) → x ++ (e ∷ y) ≡ (x ++ e ∷ []) ++ y
      split [] = refl
      split (d ∷ x) = ap (λ u. d ∷ u) (split x)

  module _ (x y : List (ℕ × Event)) (each : EachLabel (IsWord s) (x ++ y)) where
    whole_solo : (k : ℕ) → InUse x k → Solo s (carrying k x ++ carrying k y)
    whole_solo k u = subst (Solo s) (carrying_append k x y) (ms.whole _ (each k (λ z. u (go (carrying k x) (carrying k y) (sym (carrying_append k x y) ∙ z)))))
      where
        go : (a b : List Event) → a ++ b ≡ [] → a ≡ []
        go [] b h = refl
        go (e ∷ a) b h = absurd (cons_nil e (a ++ b) h)

    front_solo : (k : ℕ) → InUse x k → Solo s (carrying k x)
    front_solo k u = solo_front s (whole_solo k u) (carrying k x) (carrying k y) refl

    front_crowd : Crowd s (events_of x)
    front_crowd = mix_crowd s f n (labels_mix (Solo s) (events_of x) (x, refl, front_solo))

    pub underway_many : Many (RunsAcross x y) (count s 0 (events_of x))
    underway_many = many_ones g (labels_of x) (RunsAcross x y) (count s 0 (events_of x)) (labels_once x) small is (omega (arith, sum_add g (λ k. out s (carrying k x)) (λ k. inn s (carrying k x)) (labels_of x) parts, inn_sum s f x, out_sum s f x, crowd_count s f n front_crowd))
      where
        g : ℕ → ℕ
        g k = inn s (carrying k x) - out s (carrying k x)

        sane : (k : ℕ) → Member k (labels_of x) → Sane s (carrying k x)
        sane k m = crowd_sane s f n (solo_crowd s (front_solo k (member_used k x m)))

        parts : (k : ℕ) → Member k (labels_of x) → g k + out s (carrying k x) ≡ inn s (carrying k x)
        parts k m = omega (arith, sane_out s f (carrying k x) (sane k m))

        small : (k : ℕ) → Member k (labels_of x) → g k ≤ 1
        small k m = go (ms.stage _ (front_solo k (member_used k x m)))
          where
            go : Stage s (carrying k x) → g k ≤ 1
            go (inl z) = absurd (member_used k x m z)
            go (inr (inl z)) = omega (arith, z.1, z.2)
            go (inr (inr z)) = omega (arith, ms.entered _ z)

        is : (k : ℕ) → (Member k (labels_of x) × (g k ≡ 1)) ↔ RunsAcross x y k
        is k = (to, from)
          where
            to : Member k (labels_of x) × (g k ≡ 1) → RunsAcross x y k
            to (m, h) = (member_used k x m, λ z. let w = word z in omega (arith, h, ms.entered _ w, ms.left _ w))
              where
                word : carrying k y ≡ [] → IsWord s (carrying k x)
                word z = subst (IsWord s) (ap (λ u. carrying k x ++ u) z ∙ append-nil (carrying k x)) (subst (IsWord s) (carrying_append k x y) (each k (λ q. member_used k x m (sym (append-nil (carrying k x)) ∙ ap (λ u. carrying k x ++ u) (sym z) ∙ sym (carrying_append k x y) ∙ q))))

            from : RunsAcross x y k → Member k (labels_of x) × (g k ≡ 1)
            from (u, r) = (used_member k x u, go (ms.stage _ (front_solo k u)))
              where
                go : Stage s (carrying k x) → g k ≡ 1
                go (inl z) = absurd (u z)
                go (inr (inl z)) = omega (arith, z.1, z.2)
                go (inr (inr z)) = absurd (r (word_ends (carrying k x) (carrying k y) z (whole_solo k u)))

  -- a labelling is within the bound exactly when the counts fit
  pub within : (b : Bound) (w : List Event) → ((x y : List Event) → w ≡ x ++ y → Fits b (count s 0 x)) → (ls : List (ℕ × Event)) → events_of ls ≡ w → EachLabel (IsWord s) ls → WithinBound b ls
  within any w fits ls e each = tt
  within (most m) w fits ls e each = λ x y q. many_at_most (RunsAcross x y) (count s 0 (events_of x)) m (underway_many x y (subst (EachLabel (IsWord s)) q each)) (fits (events_of x) (events_of y) (sym e ∙ ap events_of q ∙ events_append x y))

  pub fits_within : (b : Bound) (w : List Event) (ls : List (ℕ × Event)) → events_of ls ≡ w → EachLabel (IsWord s) ls → WithinBound b ls → (x y : List Event) → w ≡ x ++ y → Fits b (count s 0 x)
  fits_within any w ls e each k x y q = tt
  fits_within (most m) w ls e each k x y q = go (events_split x y ls (e ∙ q))
    where
      go : Split ls x → count s 0 x ≤ m
      go p = subst (λ u. count s 0 u ≤ m) p.events (at_most_many (RunsAcross p.front p.rest) _ m (k p.front p.rest p.joined) (underway_many p.front p.rest (subst (EachLabel (IsWord s)) p.joined each)))
