-- Each part labelling counts what the values count.
use Rattle.std.proofs.Common.{◌≡◌, ◌⊎◌, ◌==◌, if◌then◌else◌, ◌<◌, ◌≤◌, ◌+◌, ◌-◌, ℕ, List, [], ◌∷◌, ◌++◌, refl, sym, ap, ◌∙◌, subst, inl, inr, arith}
use Rattle.std.proofs.lemmas.List.{append-nil}
use Rattle.std.proofs.lemmas.Bool.{eq-eqb, ne_eqb, cond-true, cond-false}
use Rattle.path_model.specs.declared.ids.OpId.{OpId}
use Rattle.path_model.specs.declared.history.Event.{Event}
use Rattle.path_model.specs.declared.history.Event.TheVariants.{Began, Ended}
use Rattle.path_model.specs.Trees.{Tree, op, seq, alt, burst, Names, NoRepeats, NoBraces, NoNesting, has}
use Rattle.path_model.specs.Histories.{op_of}
use Rattle.path_model.specs.Words.{IsWord}
use Rattle.path_model.specs.Behaviour.{IsFront, IsPartLabelling}
use Rattle.path_model.proofs.Lists.{not_nil}
use Rattle.path_model.proofs.Counts.{entry, exit, inn, out, May, Foreign, Named, foreign_entry, foreign_exit}
use Rattle.path_model.proofs.Same.{Balanced, May_weaken, inn_nil, out_nil, foreign_left, Starts, start_may, May_split, May_nothing}
use Rattle.std.proofs.Common.{true, false, ◌↔◌}
use Rattle.std.proofs.lemmas.Bool.{cases_eq, cases_Bool}
use Rattle.path_model.specs.Labellings.{Member, events_of, carrying}
use Rattle.path_model.specs.Projection.{projection}
use Rattle.path_model.specs.Machine.{semicolons, braces}
use Rattle.path_model.specs.BurstCounts.{Inside, itself, seq_first, seq_second, alt_first, alt_second, in_braces, Many, InUse, Unfinished, StandsAt}
use Rattle.path_model.proofs.Solo.{Solo, alone, on, named_solo, solo_front, solo_front, Stage, Meets, word_some, seq_parts, SeqParts, alt_parts, apart_foreign, apart_swap}
use Rattle.path_model.proofs.Crowd.{Sane, sane_out, solo_crowd, solo_last, crowd_sane}
use Rattle.path_model.proofs.Path.{meets, flat_fits}
use Rattle.path_model.proofs.Upward.{has_names, has_not}
use Rattle.path_model.proofs.Sums.{nil_or, total, labels_of, member_used, used_member, labels_once, sum_add, sum_lt, some_less, many_ones}
use Rattle.path_model.proofs.Totals.{inn_total, out_total, inn_sum, out_sum}

-- projections
pub projection_append : (t : Tree) (x y : List Event) → projection t (x ++ y) ≡ projection t x ++ projection t y
projection_append t [] y = refl
projection_append t (e ∷ x) y =
    let r = projection_append t x y in
    elim (has t (op_of e)) as (λ b. (if b then (e ∷ projection t (x ++ y)) else projection t (x ++ y)) ≡ (if b then (e ∷ projection t x) else projection t x) ++ projection t y) [ true ↦ ap (λ u. e ∷ u) r | false ↦ r ]

projection_named : (t : Tree) (x : List Event) → Named t x → projection t x ≡ x
projection_named t [] n = refl
projection_named t (e ∷ x) n = cond-true _ _ _ (has_names t (op_of e) n.0) ∙ ap (λ u. e ∷ u) (projection_named t x n.1)

projection_foreign : (t : Tree) (x : List Event) → Foreign t x → projection t x ≡ []
projection_foreign t [] n = refl
projection_foreign t (e ∷ x) n = cond-false _ _ _ (has_not t (op_of e) n.0) ∙ projection_foreign t x n.1

projection_total : (t : Tree) (f : Event → ℕ) → ((e : Event) → (Names t (op_of e) → ⊥) → f e ≡ 0) → (x : List Event) → total f (projection t x) ≡ total f x
projection_total t f z [] = refl
projection_total t f z (e ∷ x) = elim (cases_Bool (has t (op_of e))) [
  | inl h ↦ omega (arith, ap (total f) (cond-true (has t (op_of e)) (e ∷ projection t x) (projection t x) h), projection_total t f z x)
  | inr h ↦ omega (arith, ap (total f) (cond-false (has t (op_of e)) (e ∷ projection t x) (projection t x) h), projection_total t f z x, z e (λ k. true_false (sym (has_names t (op_of e) k) ∙ h)))
]
  where
    true_false : true ≡ false → ⊥
    true_false h = cc

inn_projection : (t : Tree) → NoBraces t → (x : List Event) → inn t (projection t x) ≡ inn t x
inn_projection t f x = inn_total t f (projection t x) ∙ projection_total t (λ e. entry t e) (λ e n. foreign_entry t e n) x ∙ sym (inn_total t f x)

out_projection : (t : Tree) → NoBraces t → (x : List Event) → out t (projection t x) ≡ out t x
out_projection t f x = out_total t f (projection t x) ∙ projection_total t (λ e. exit t e) (λ e n. foreign_exit t e n) x ∙ sym (out_total t f x)

-- parts of trees
module _ {t : Tree} {i j : ℕ} where
  pub inside_names : {s : Tree} {n m : ℕ} → Inside t i j s n m → (a : OpId) → Names t a → Names s a
  inside_names itself a k = k
  inside_names (seq_first s u n m r) a k = inl (inside_names r a k)
  inside_names (seq_second s u n m r) a k = inr (inside_names r a k)
  inside_names (alt_first s u n m r) a k = inl (inside_names r a k)
  inside_names (alt_second s u n m r) a k = inr (inside_names r a k)
  inside_names (in_braces bd s n m r) a k = inside_names r a k

  pub inside_flat : {s : Tree} {n m : ℕ} → Inside t i j s n m → NoBraces s → NoBraces t
  inside_flat itself f = f
  inside_flat (seq_first s u n m r) f = inside_flat r f.0
  inside_flat (seq_second s u n m r) f = inside_flat r f.1
  inside_flat (alt_first s u n m r) f = inside_flat r f.0
  inside_flat (alt_second s u n m r) f = inside_flat r f.1
  inside_flat (in_braces bd s n m r) f = absurd f

  pub inside_once : {s : Tree} {n m : ℕ} → Inside t i j s n m → NoRepeats s → NoRepeats t
  inside_once itself f = f
  inside_once (seq_first s u n m r) f = inside_once r f.0
  inside_once (seq_second s u n m r) f = inside_once r f.1
  inside_once (alt_first s u n m r) f = inside_once r f.0
  inside_once (alt_second s u n m r) f = inside_once r f.1
  inside_once (in_braces bd s n m r) f = inside_once r f

  pub inside_fits : {s : Tree} {n m : ℕ} → Inside t i j s n m → NoNesting s → NoNesting t
  inside_fits itself f = f
  inside_fits (seq_first s u n m r) f = inside_fits r f.0
  inside_fits (seq_second s u n m r) f = inside_fits r f.1
  inside_fits (alt_first s u n m r) f = inside_fits r f.0
  inside_fits (alt_second s u n m r) f = inside_fits r f.1
  inside_fits (in_braces bd s n m r) f = inside_fits r (flat_fits s f.0)

  pub inside_balanced : {s : Tree} {n m : ℕ} (w : List Event) → Inside t i j s n m → Balanced s w → Balanced t w
  inside_balanced w itself f = f
  inside_balanced w (seq_first s u n m r) f = inside_balanced w r f.0
  inside_balanced w (seq_second s u n m r) f = inside_balanced w r f.1
  inside_balanced w (alt_first s u n m r) f = inside_balanced w r f.0
  inside_balanced w (alt_second s u n m r) f = inside_balanced w r f.1
  inside_balanced w (in_braces bd s n m r) f = inside_balanced w r f.0

  pub inside_sane : {s : Tree} {n m : ℕ} (w : List Event) → Inside t i j s n m → Sane s w → Sane t w
  inside_sane w itself f = f
  inside_sane w (seq_first s u n m r) f = inside_sane w r f.0
  inside_sane w (seq_second s u n m r) f = inside_sane w r f.1
  inside_sane w (alt_first s u n m r) f = inside_sane w r f.0
  inside_sane w (alt_second s u n m r) f = inside_sane w r f.1
  inside_sane w (in_braces bd s n m r) f = inside_sane w r f

  pub inside_foreign : {s : Tree} {n m : ℕ} (w : List Event) → Inside t i j s n m → Foreign s w → Foreign t w
  inside_foreign {s = s} w r f = foreign_left t s w (λ a. inside_names r a) f

  part_seq_first : (s u : Tree) (n m : ℕ) → Inside t i j s n m → NoRepeats (seq s u) → NoBraces (seq s u) → ((y : List Event) → Solo s y → Solo t (projection t y)) → (x : List Event) → Solo (seq s u) x → Solo t (projection t x)
  part_seq_first s u n m k nr f rec x r = go (seq_parts s u nr.2 ms mu r)
    where
      ms : Meets s
      ms = meets s nr.0 (flat_fits s f.0)

      mu : Meets u
      mu = meets u nr.1 (flat_fits u f.1)

      go : SeqParts s u nr.2 ms mu x → Solo t (projection t x)
      go (inl q) = rec x q
      go (inr (y, z, e, wy, rz)) =
          let away = inside_foreign z k (apart_foreign u s z (apart_swap s u nr.2) (named_solo u rz)) in
          subst (Solo t) (sym (ap (projection t) e ∙ projection_append t y z ∙ ap (λ v. projection t y ++ v) (projection_foreign t z away) ∙ append-nil (projection t y))) (rec y (ms.whole y wy))

  part_seq_second : (s u : Tree) (n m : ℕ) → Inside t i j u n m → NoRepeats (seq s u) → NoBraces (seq s u) → ((y : List Event) → Solo u y → Solo t (projection t y)) → (x : List Event) → Solo (seq s u) x → Solo t (projection t x)
  part_seq_second s u n m k nr f rec x r = go (seq_parts s u nr.2 ms mu r)
    where
      ms : Meets s
      ms = meets s nr.0 (flat_fits s f.0)

      mu : Meets u
      mu = meets u nr.1 (flat_fits u f.1)

      away : (y : List Event) → Solo s y → projection t y ≡ []
      away y q = projection_foreign t y (inside_foreign y k (apart_foreign s u y nr.2 (named_solo s q)))

      go : SeqParts s u nr.2 ms mu x → Solo t (projection t x)
      go (inl q) = subst (Solo t) (sym (away x q)) alone
      go (inr (y, z, e, wy, rz)) = subst (Solo t) (sym (ap (projection t) e ∙ projection_append t y z ∙ ap (λ v. v ++ projection t z) (away y (ms.whole y wy)))) (rec z rz)

  part_alt_first : (s u : Tree) (n m : ℕ) → Inside t i j s n m → NoRepeats (alt s u) → NoBraces (alt s u) → ((y : List Event) → Solo s y → Solo t (projection t y)) → (x : List Event) → Solo (alt s u) x → Solo t (projection t x)
  part_alt_first s u n m k nr f rec x r = elim (alt_parts s u nr.2 (meets s nr.0 (flat_fits s f.0)) (meets u nr.1 (flat_fits u f.1)) r) [
    | inl q ↦ rec x q
    | inr q ↦ subst (Solo t) (sym (projection_foreign t x (inside_foreign x k (apart_foreign u s x (apart_swap s u nr.2) (named_solo u q))))) alone
  ]

  part_alt_second : (s u : Tree) (n m : ℕ) → Inside t i j u n m → NoRepeats (alt s u) → NoBraces (alt s u) → ((y : List Event) → Solo u y → Solo t (projection t y)) → (x : List Event) → Solo (alt s u) x → Solo t (projection t x)
  part_alt_second s u n m k nr f rec x r = elim (alt_parts s u nr.2 (meets s nr.0 (flat_fits s f.0)) (meets u nr.1 (flat_fits u f.1)) r) [
    | inl q ↦ subst (Solo t) (sym (projection_foreign t x (inside_foreign x k (apart_foreign s u x nr.2 (named_solo s q))))) alone
    | inr q ↦ rec x q
  ]

  -- one execution of a tree without braces has at most one of each part
  pub solo_part : {s : Tree} {n m : ℕ} → Inside t i j s n m → NoRepeats s → NoBraces s → (x : List Event) → Solo s x → Solo t (projection t x)
  solo_part itself nr f x r = subst (Solo t) (sym (projection_named t x (named_solo t r))) r
  solo_part (seq_first s u n m k) nr f x r = part_seq_first s u n m k nr f (λ y q. solo_part k nr.0 f.0 y q) x r
  solo_part (seq_second s u n m k) nr f x r = part_seq_second s u _ _ k nr f (λ y q. solo_part k nr.1 f.1 y q) x r
  solo_part (alt_first s u n m k) nr f x r = part_alt_first s u n m k nr f (λ y q. solo_part k nr.0 f.0 y q) x r
  solo_part (alt_second s u n m k) nr f x r = part_alt_second s u _ _ k nr f (λ y q. solo_part k nr.1 f.1 y q) x r
  solo_part (in_braces bd s n m k) nr f x r = absurd f

module _ {l r : Tree} {i j : ℕ} where
  inside_left : {s : Tree} {n m : ℕ} → Inside (seq l r) i j s n m → Inside l i j s n m
  inside_left itself = seq_first l r i j itself
  inside_left (seq_first s u n m k) = seq_first s u n m (inside_left k)
  inside_left (seq_second s u n m k) = seq_second s u n m (inside_left k)
  inside_left (alt_first s u n m k) = alt_first s u n m (inside_left k)
  inside_left (alt_second s u n m k) = alt_second s u n m (inside_left k)
  inside_left (in_braces bd s n m k) = in_braces bd s n m (inside_left k)

  inside_right : {s : Tree} {n m : ℕ} → Inside (seq l r) i j s n m → Inside r (i + semicolons l + 1) (j + braces l) s n m
  inside_right itself = seq_second l r i j itself
  inside_right (seq_first s u n m k) = seq_first s u n m (inside_right k)
  inside_right (seq_second s u n m k) = seq_second s u n m (inside_right k)
  inside_right (alt_first s u n m k) = alt_first s u n m (inside_right k)
  inside_right (alt_second s u n m k) = alt_second s u n m (inside_right k)
  inside_right (in_braces bd s n m k) = in_braces bd s n m (inside_right k)

-- one label for each execution of a tree without braces
module _ (b : Tree) (f : NoBraces b) (nr : NoRepeats b) (ls : List (ℕ × Event)) (each : IsPartLabelling b ls) where
  word : ℕ → List Event
  word k = carrying k ls

  mb : Meets b
  mb = meets b nr (flat_fits b f)

  pub label_solo : (k : ℕ) → InUse ls k → Solo b (carrying k ls)
  label_solo k u = let (z, h) = each k u in solo_front b (mb.whole _ h) (carrying k ls) z refl

  label_sane : (k : ℕ) → Member k (labels_of ls) → Sane b (carrying k ls)
  label_sane k m = crowd_sane b f nr (solo_crowd b (label_solo k (member_used k ls m)))

  -- as many labels are unfinished as the tree was entered more often than it was left
  pub unfinished_many : (c : ℕ) → c + out b (events_of ls) ≡ inn b (events_of ls) → Many (Unfinished b ls) c
  unfinished_many c e = many_ones g (labels_of ls) (Unfinished b ls) c (labels_once ls) small is (omega (arith, sum_add g (λ k. out b (carrying k ls)) (λ k. inn b (carrying k ls)) (labels_of ls) parts, inn_sum b f ls, out_sum b f ls, e))
    where
      g : ℕ → ℕ
      g k = inn b (carrying k ls) - out b (carrying k ls)

      parts : (k : ℕ) → Member k (labels_of ls) → g k + out b (carrying k ls) ≡ inn b (carrying k ls)
      parts k m = omega (arith, sane_out b f (carrying k ls) (label_sane k m))

      small : (k : ℕ) → Member k (labels_of ls) → g k ≤ 1
      small k m = go (mb.stage _ (label_solo k (member_used k ls m)))
        where
          go : Stage b (carrying k ls) → g k ≤ 1
          go (inl z) = absurd (member_used k ls m z)
          go (inr (inl z)) = omega (arith, z.1, z.2)
          go (inr (inr z)) = omega (arith, mb.entered _ z)

      is : (k : ℕ) → (Member k (labels_of ls) × (g k ≡ 1)) ↔ Unfinished b ls k
      is k = (to, from)
        where
          to : Member k (labels_of ls) × (g k ≡ 1) → Unfinished b ls k
          to (m, h) = (member_used k ls m, λ w. omega (arith, h, mb.entered _ w, mb.left _ w))

          from : Unfinished b ls k → Member k (labels_of ls) × (g k ≡ 1)
          from (u, n) = (used_member k ls u, go (mb.stage _ (label_solo k u)))
            where
              go : Stage b (carrying k ls) → g k ≡ 1
              go (inl z) = absurd (u z)
              go (inr (inl z)) = omega (arith, z.1, z.2)
              go (inr (inr z)) = absurd (n z)

  -- as many labels stand at a semicolon as its left operand was left more often than its right one was entered
  pub standing_many : (l r : Tree) (n m i j : ℕ) → Inside (seq l r) n m b i j → (c : ℕ) → c + inn r (events_of ls) ≡ out l (events_of ls) → Many (StandsAt l r ls) c
  standing_many l r n m i j at c e = many_ones g (labels_of ls) (StandsAt l r ls) c (labels_once ls) small is (omega (arith, sum_add g (λ k. inn r (carrying k ls)) (λ k. out l (carrying k ls)) (labels_of ls) parts, inn_sum r ff.1 ls, out_sum l ff.0 ls, e))
    where
      ff : NoBraces (seq l r)
      ff = inside_flat at f

      nn : NoRepeats (seq l r)
      nn = inside_once at nr

      ml : Meets l
      ml = meets l nn.0 (flat_fits l ff.0)

      mr : Meets r
      mr = meets r nn.1 (flat_fits r ff.1)

      g : ℕ → ℕ
      g k = out l (carrying k ls) - inn r (carrying k ls)

      left : (k : ℕ) → InUse ls k → Stage l (projection l (carrying k ls))
      left k u = ml.stage _ (solo_part (inside_left at) nr f (carrying k ls) (label_solo k u))

      right : (k : ℕ) → InUse ls k → Stage r (projection r (carrying k ls))
      right k u = mr.stage _ (solo_part (inside_right at) nr f (carrying k ls) (label_solo k u))

      parts : (k : ℕ) → Member k (labels_of ls) → g k + inn r (carrying k ls) ≡ out l (carrying k ls)
      parts k m = omega (arith, (inside_sane (carrying k ls) at (label_sane k m)).2)

      small : (k : ℕ) → Member k (labels_of ls) → g k ≤ 1
      small k m = go (left k (member_used k ls m))
        where
          go : Stage l (projection l (carrying k ls)) → g k ≤ 1
          go (inl z) = omega (arith, out_projection l ff.0 (carrying k ls), ap (out l) z, out_nil l)
          go (inr (inl z)) = omega (arith, out_projection l ff.0 (carrying k ls), z.2)
          go (inr (inr z)) = omega (arith, out_projection l ff.0 (carrying k ls), ml.left _ z)

      is : (k : ℕ) → (Member k (labels_of ls) × (g k ≡ 1)) ↔ StandsAt l r ls k
      is k = (to, from)
        where
          to : Member k (labels_of ls) × (g k ≡ 1) → StandsAt l r ls k
          to (m, h) = (one (left k (member_used k ls m)), none (left k (member_used k ls m)) (right k (member_used k ls m)))
            where
              one : Stage l (projection l (carrying k ls)) → IsWord l (projection l (carrying k ls))
              one (inl z) = absurd (omega (arith, h, out_projection l ff.0 (carrying k ls), ap (out l) z, out_nil l))
              one (inr (inl z)) = absurd (omega (arith, h, out_projection l ff.0 (carrying k ls), z.2))
              one (inr (inr z)) = z

              none : Stage l (projection l (carrying k ls)) → Stage r (projection r (carrying k ls)) → projection r (carrying k ls) ≡ []
              none st (inl z) = z
              none st (inr (inl z)) = absurd (omega (arith, h, out_projection l ff.0 (carrying k ls), ml.left _ (one st), inn_projection r ff.1 (carrying k ls), z.1))
              none st (inr (inr z)) = absurd (omega (arith, h, out_projection l ff.0 (carrying k ls), ml.left _ (one st), inn_projection r ff.1 (carrying k ls), mr.entered _ z))

          from : StandsAt l r ls k → Member k (labels_of ls) × (g k ≡ 1)
          from (wl, nor) = (used_member k ls used, omega (arith, out_projection l ff.0 (carrying k ls), ml.left _ wl, inn_projection r ff.1 (carrying k ls), ap (inn r) nor, inn_nil r))
            where
              used : InUse ls k
              used z = word_some l ml _ wl (ap (projection l) z)

  -- what may follow without an entry may follow one label
  pub may_some : (t : Tree) → NoBraces t → (e : Event) → May t (events_of ls) e ⊥ → (k : ℕ) × Member k (labels_of ls) × May t (carrying k ls) e ⊥
  may_some (op c) g (Began a) h = absurd h.1
  may_some (op c) g (Ended a) h =
      let r = some_less (λ i. out (op c) (carrying i ls)) (λ i. inn (op c) (carrying i ls)) (labels_of ls) (omega (arith, h.1, inn_sum (op c) tt ls, out_sum (op c) tt ls)) in
      (r.0, r.1, (h.0, r.2))
  may_some (seq l r) g e (inl h) = let q = may_some l g.0 e h in (q.0, q.1, inl q.2)
  may_some (seq l r) g e (inr h) = go (λ k. may_some r g.1 e k) (May_split r (events_of ls) e h)
    where
      go : (May r (events_of ls) e ⊥ → (k : ℕ) × Member k (labels_of ls) × May r (carrying k ls) e ⊥) → (May r (events_of ls) e ⊥ ⊎ ((inn r (events_of ls) < out l (events_of ls)) × Starts r e)) → (k : ℕ) × Member k (labels_of ls) × May (seq l r) (carrying k ls) e ⊥
      go rec (inl k) = let q = rec k in (q.0, q.1, inr (May_weaken r _ e absurd q.2))
      go rec (inr k) =
          let q = some_less (λ i. inn r (carrying i ls)) (λ i. out l (carrying i ls)) (labels_of ls) (omega (arith, k.0, inn_sum r g.1 ls, out_sum l g.0 ls)) in
          (q.0, q.1, inr (start_may r g.1 _ e k.1 q.2))
  may_some (alt l r) g e (inl h) = let q = may_some l g.0 e h in (q.0, q.1, inl q.2)
  may_some (alt l r) g e (inr h) = let q = may_some r g.1 e h in (q.0, q.1, inr q.2)
  may_some (burst bd t) g e h = absurd g

  pub may_all : (t : Tree) → NoBraces t → ((k : ℕ) → Member k (labels_of ls) → Sane t (carrying k ls)) → (e : Event) {p q : Type 0} → (p → q) → (k : ℕ) → Member k (labels_of ls) → May t (carrying k ls) e p → May t (events_of ls) e q
  may_all (op c) g sane (Began a) to k m h = (h.0, to h.1)
  may_all (op c) g sane (Ended a) to k m h =
      let r = sum_lt (λ i. out (op c) (carrying i ls)) (λ i. inn (op c) (carrying i ls)) (labels_of ls) k m h.1 sane in
      (h.0, omega (arith, r, inn_sum (op c) tt ls, out_sum (op c) tt ls))
  may_all (seq l r) g sane e to k m (inl h) = inl (may_all l g.0 (λ i x. (sane i x).0) e to k m h)
  may_all (seq l r) g sane e to k m (inr h) = inr (may_all r g.1 (λ i x. (sane i x).1) e (λ (x : inn r (carrying k ls) < out l (carrying k ls)). omega (arith, sum_lt (λ i. inn r (carrying i ls)) (λ i. out l (carrying i ls)) (labels_of ls) k m x (λ i y. (sane i y).2), inn_sum r g.1 ls, out_sum l g.0 ls)) k m h)
  may_all (alt l r) g sane e to k m (inl h) = inl (may_all l g.0 (λ i x. (sane i x).0) e to k m h)
  may_all (alt l r) g sane e to k m (inr h) = inr (may_all r g.1 (λ i x. (sane i x).1) e to k m h)
  may_all (burst bd t) g sane e to k m h = absurd g

  carrying_same : (k : ℕ) (e : Event) (xs : List (ℕ × Event)) → carrying k (xs ++ (k, e) ∷ []) ≡ carrying k xs ++ e ∷ []
  carrying_same k e [] = cond-true _ _ _ (eq-eqb k k refl)
  carrying_same k e (x ∷ xs) = let r = carrying_same k e xs in elim (k == x.0) as (λ c. (if c then (x.1 ∷ carrying k (xs ++ (k, e) ∷ [])) else carrying k (xs ++ (k, e) ∷ [])) ≡ (if c then (x.1 ∷ carrying k xs) else carrying k xs) ++ e ∷ []) [ true ↦ ap (λ u. x.1 ∷ u) r | false ↦ r ]

  carrying_other : (i k : ℕ) (e : Event) (xs : List (ℕ × Event)) → (i ≡ k → ⊥) → carrying i (xs ++ (k, e) ∷ []) ≡ carrying i xs
  carrying_other i k e [] n = cond-false _ _ _ (ne_eqb i k n)
  carrying_other i k e (x ∷ xs) n = let r = carrying_other i k e xs n in elim (i == x.0) as (λ c. (if c then (x.1 ∷ carrying i (xs ++ (k, e) ∷ [])) else carrying i (xs ++ (k, e) ∷ [])) ≡ (if c then (x.1 ∷ carrying i xs) else carrying i xs)) [ true ↦ ap (λ u. x.1 ∷ u) r | false ↦ r ]

  -- a label that may take the event
  pub extended : (k : ℕ) (e : Event) → Solo b (carrying k ls ++ e ∷ []) → IsPartLabelling b (ls ++ (k, e) ∷ [])
  extended k e r i u = elim (cases_eq i k) [
    | inl q ↦ subst (IsFront (IsWord b)) (sym (ap (λ x. carrying x (ls ++ (k, e) ∷ [])) q ∙ carrying_same k e ls)) (mb.finish _ r)
    | inr n ↦ let q = carrying_other i k e ls n in subst (IsFront (IsWord b)) (sym q) (each i (λ z. u (q ∙ z)))
  ]

  pub goes_on : (e : Event) → May b (events_of ls) e ⊥ ↔ ((k : ℕ) × InUse ls k × IsPartLabelling b (ls ++ (k, e) ∷ []))
  goes_on e = (to, from)
    where
      to : May b (events_of ls) e ⊥ → (k : ℕ) × InUse ls k × IsPartLabelling b (ls ++ (k, e) ∷ [])
      to h =
          let q = may_some b f e h in
          let u = member_used q.0 ls q.1 in
          (q.0, u, extended q.0 e (on _ e (label_solo q.0 u) (May_weaken b _ e absurd q.2) refl))

      from : ((k : ℕ) × InUse ls k × IsPartLabelling b (ls ++ (k, e) ∷ [])) → May b (events_of ls) e ⊥
      from (k, u, p) = may_all b f label_sane e u k (used_member k ls u) (solo_last b here (carrying k ls) e refl).1
        where
          same : carrying k (ls ++ (k, e) ∷ []) ≡ carrying k ls ++ e ∷ []
          same = carrying_same k e ls

          front : IsFront (IsWord b) (carrying k ls ++ e ∷ [])
          front = subst (IsFront (IsWord b)) same (p k (λ z. not_nil (carrying k ls) e (sym same ∙ z)))

          here : Solo b (carrying k ls ++ e ∷ [])
          here = solo_front b (mb.whole _ front.1) (carrying k ls ++ e ∷ []) front.0 refl

  pub begins : (e : Event) → Starts b e → (k : ℕ) → (InUse ls k → ⊥) → IsPartLabelling b (ls ++ (k, e) ∷ [])
  begins e st k n = extended k e (subst (λ u. Solo b (u ++ e ∷ [])) (sym none) (on [] e alone (start_may b f [] e st refl) refl))
    where
      none : carrying k ls ≡ []
      none = elim (nil_or (carrying k ls)) [ inl z ↦ z | inr u ↦ absurd (n u) ]

  -- what isn't first can be given to labels in use alone
  pub only_in_use : (e : Event) → (Starts b e → ⊥) → (k : ℕ) → IsPartLabelling b (ls ++ (k, e) ∷ []) → InUse ls k
  only_in_use e later k p none = elim (May_split b [] e (solo_last b one [] e refl).1) [ inl m ↦ May_nothing b e m | inr x ↦ later x.1 ]
    where
      same : carrying k (ls ++ (k, e) ∷ []) ≡ e ∷ []
      same = carrying_same k e ls ∙ ap (λ u. u ++ e ∷ []) none

      front : IsFront (IsWord b) (e ∷ [])
      front = subst (IsFront (IsWord b)) same (p k (λ z. not_nil [] e (sym same ∙ z)))

      one : Solo b (e ∷ [])
      one = solo_front b (mb.whole _ front.1) (e ∷ []) front.0 refl
