-- The trimmed table gives the same answers as the whole one.
use Rattle.std.proofs.Common.{◌≡◌, ◌⊎◌, ◌==◌, if◌then◌else◌, ◌<◌, ◌+◌, ◌-◌, ℕ, List, [], ◌∷◌, ◌++◌, ◌↔◌, Bool, true, false, refl, sym, ap, ◌∙◌, subst, inl, inr, arith}
use Rattle.std.proofs.lemmas.Bool.{eqb-true, eq-eqb, ne_eqb, cond-true, cond-false, cond_both, cases_eq, or_cases, and_parts}
use Rattle.path_model.specs.declared.ids.OpId.{OpId}
use Rattle.path_model.specs.declared.history.Event.{Event}
use Rattle.path_model.specs.declared.history.Event.TheVariants.{Began, Ended}
use Rattle.path_model.specs.Trees.{Bound, any, most, Tree, op, seq, alt, burst, has, NoBraces, WellFormed}
use Rattle.path_model.specs.Histories.{op_of}
use Rattle.path_model.specs.Machine.{semicolons, braces, Above, LeftOf, RightOf, Within, above, Term, Plain, Braced, Counted, through, prologue_below, epilogue_below, prologue, epilogue, Values, put, take_one, add_one, Passes, started, finished, opening, changed}
use Rattle.path_model.specs.AmongOthers.{values_among}
use Rattle.path_model.specs.Projection.{LegalOn}
use Rattle.path_model.specs.Legal.{Every, First, NoneOf, Legal, Forbids}
use Rattle.path_model.specs.AllPaths.{Judged, Running, after, Blocks}
use Rattle.path_model.specs.Trimmed.{is_burst, nothing, does, limits, same_bound, lean, lean_prologue, LeanPasses, lean_started, lean_finished, lean_changed, lean_among, same_tree, stands_in, kept, lean_moved, lean_run, lean_opened, lean_after, LeanBlocks, Trims, EachPathTrims, SameAnswers, TrimmingKeepsAnswers, TrimmedAdmitsTheWords}
use Rattle.path_model.proofs.Counts.{op_same}
use Rattle.path_model.proofs.Moves.{put_same, put_other}
use Rattle.path_model.proofs.AllPaths.{every_map, first_same, none_same, on_tree, placed, after_placed, first_to, first_from, every_to, every_from, every_both, now, blocks_forbids, all_paths_judge}

true_false : true ≡ false → ⊥
true_false z = cc

does_nothing : (t : Term) → does t ≡ nothing → ⊥
does_nothing t z = cc

-- a path that isn't one pair of braces: nothing changes
pub whole_term : (w : Bool) → w ≡ false → (t : Term) → lean w t ≡ does t
whole_term w z (Plain q) = refl
whole_term w z (Braced c q) = cond-false w nothing (does (Braced c q)) z
whole_term w z (Counted c q) = cond-false w (limits c) (does (Counted c q)) z

module _ (s : Tree) (z : is_burst s ≡ false) where
  same_changed : (e : Event) (v : Values) → lean_changed s e v ≡ changed s e v
  same_changed (Began a) v = ap (λ x. lean_started x v) (whole_term (is_burst s) z (prologue s a))
  same_changed (Ended a) v = ap (λ x. lean_finished x v) (whole_term (is_burst s) z (epilogue s a))

  same_among : (v : Values) (h : List Event) → lean_among s v h ≡ values_among s v h
  same_among v [] = refl
  same_among v (e ∷ h) = ap (λ w. lean_among s (if has s (op_of e) then w else v) h) (same_changed e v) ∙ same_among (if has s (op_of e) then changed s e v else v) h

  trims_other : (h : List Event) → Trims s h
  trims_other h = record {
    kept_values = record { semaphores = λ q k. ap (λ w. w.semaphore q) (same_among (opening s) h); counters = λ c k. ap (λ w. w.counter c) (same_among (opening s) h); bounds = λ c. ap (λ w. w.bound c) (same_among (opening s) h) };
    removed_part = λ a c q k. absurd (true_false (sym k ∙ z));
    removed_passes = λ a k. absurd (does_nothing _ (sym (whole_term (is_burst s) z (prologue s a)) ∙ k));
    same_passes = λ a. (
      λ p. subst (Passes (prologue s a)) (same_among (opening s) h) (subst (λ x. LeanPasses x (lean_among s (opening s) h)) (whole_term (is_burst s) z (prologue s a)) p),
      λ p. subst (λ x. LeanPasses x (lean_among s (opening s) h)) (sym (whole_term (is_burst s) z (prologue s a))) (subst (Passes (prologue s a)) (sym (same_among (opening s) h)) p),
    );
  }

-- a path that is one pair of braces: its terms go through the counter 0 and the semaphore 0, or touch neither
abbrev pub Outer : Bound → Term → Type 0
Outer bd t = (t ≡ through bd 0 0) ⊎ ((q : ℕ) × (t ≡ Plain q) × (0 < q))

abbrev Low : List Above → Type 0
Low [] = Unit {0}
Low (LeftOf q ∷ up) = (0 < q) × Low up
Low (RightOf q ∷ up) = (0 < q) × Low up
Low (Within b c ∷ up) = ⊥

low_append : (x y : List Above) → Low x → Low y → Low (x ++ y)
low_append [] y k l = l
low_append (LeftOf q ∷ x) y k l = (k.0, low_append x y k.1 l)
low_append (RightOf q ∷ x) y k l = (k.0, low_append x y k.1 l)
low_append (Within b c ∷ x) y k l = absurd k

low : (s : Tree) → NoBraces s → (n m : ℕ) → 0 < n → (a : OpId) → Low (above s n m a)
low (op b) f n m l a = tt
low (seq s t) f n m l a =
    cond_both (has s a) (above s n m a ++ LeftOf (n + semicolons s) ∷ []) (above t (n + semicolons s + 1) (m + braces s) a ++ RightOf (n + semicolons s) ∷ []) Low
    (λ _. low_append (above s n m a) _ (low s f.0 n m l a) (omega (arith, l), tt))
    (λ _. low_append (above t (n + semicolons s + 1) (m + braces s) a) _ (low t f.1 (n + semicolons s + 1) (m + braces s) (omega arith) a) (omega (arith, l), tt))
low (alt s t) f n m l a =
    cond_both (has s a) (above s n m a) (above t (n + semicolons s) (m + braces s) a) Low
    (λ _. low s f.0 n m l a)
    (λ _. low t f.1 (n + semicolons s) (m + braces s) (omega (arith, l)) a)
low (burst bd s) f n m l a = absurd f

outer_prologue : (bd : Bound) (up : List Above) → Low up → Outer bd (prologue_below (up ++ Within bd 0 ∷ []))
outer_prologue bd [] l = inl refl
outer_prologue bd (RightOf q ∷ up) l = inr (q, refl, l.0)
outer_prologue bd (LeftOf q ∷ up) l = outer_prologue bd up l.1
outer_prologue bd (Within b c ∷ up) l = absurd l

outer_epilogue : (bd : Bound) (up : List Above) → Low up → Outer bd (epilogue_below (up ++ Within bd 0 ∷ []))
outer_epilogue bd [] l = inl refl
outer_epilogue bd (LeftOf q ∷ up) l = inr (q, refl, l.0)
outer_epilogue bd (RightOf q ∷ up) l = outer_epilogue bd up l.1
outer_epilogue bd (Within b c ∷ up) l = absurd l

-- the check that is removed
abbrev Ready : Values → Type 0
Ready v = Passes (Braced 0 0) v

abbrev Alike : Values → Values → Type 0
Alike v w = ((q : ℕ) → 0 < q → v.semaphore q ≡ w.semaphore q) × ((c : ℕ) → v.bound c ≡ w.bound c)

put_alike : (f g : ℕ → ℕ) (k x y i : ℕ) → x ≡ y → f i ≡ g i → put f k x i ≡ put g k y i
put_alike f g k x y i e d = ap (λ z. if i == k then z else f i) e ∙ ap (λ z. if i == k then y else z) d

module _ (v w : Values) (k : Alike v w) (r : Ready w) where
  start_semaphore : (q : ℕ) → 0 < q → v.semaphore q ≡ (started (Braced 0 0) w).semaphore q
  start_semaphore q l = k.0 q l ∙ sym (cond_both (w.counter 0 == 0) (take_one w.semaphore 0) w.semaphore (λ f. f q ≡ w.semaphore q) (λ _. put_other w.semaphore 0 (w.semaphore 0 - 1) q (λ z. omega (arith, l, z))) (λ _. refl))

  start_ready : Ready (started (Braced 0 0) w)
  start_ready = inl (let z = put_same w.counter 0 (w.counter 0 + 1) in omega (arith, z))

  start_through : (bd : Bound) → Alike (lean_started (lean true (through bd 0 0)) v) (started (through bd 0 0) w) × Ready (started (through bd 0 0) w)
  start_through any = ((start_semaphore, k.1), start_ready)
  start_through (most n) = ((start_semaphore, λ c. put_alike v.bound w.bound 0 (v.bound 0 - 1) (w.bound 0 - 1) c (ap (λ x. x - 1) (k.1 0)) (k.1 c)), start_ready)

  finish_semaphore : (q : ℕ) → 0 < q → v.semaphore q ≡ (finished (Braced 0 0) w).semaphore q
  finish_semaphore q l = k.0 q l ∙ sym (cond_both (w.counter 0 == 1) (add_one w.semaphore 0) w.semaphore (λ f. f q ≡ w.semaphore q) (λ _. put_other w.semaphore 0 (w.semaphore 0 + 1) q (λ z. omega (arith, l, z))) (λ _. refl))

  finish_ready : Ready (finished (Braced 0 0) w)
  finish_ready = go (cases_eq (w.counter 0) 1) r
    where
      go : (w.counter 0 ≡ 1) ⊎ (w.counter 0 ≡ 1 → ⊥) → Ready w → Ready (finished (Braced 0 0) w)
      go (inl x) y = inr (
          let a = ap (λ f. f 0) (cond-true (w.counter 0 == 1) (add_one w.semaphore 0) w.semaphore (eq-eqb (w.counter 0) 1 x)) in
          let b = put_same w.semaphore 0 (w.semaphore 0 + 1) in
          omega (arith, a, b))
      go (inr x) (inl y) = inl (let b = put_same w.counter 0 (w.counter 0 - 1) in omega (arith, b, x, y))
      go (inr x) (inr y) = inr (
          let a = ap (λ f. f 0) (cond-false (w.counter 0 == 1) (add_one w.semaphore 0) w.semaphore (ne_eqb (w.counter 0) 1 x)) in
          omega (arith, a, y))

  finish_through : (bd : Bound) → Alike (lean_finished (lean true (through bd 0 0)) v) (finished (through bd 0 0) w) × Ready (finished (through bd 0 0) w)
  finish_through any = ((finish_semaphore, k.1), finish_ready)
  finish_through (most n) = ((finish_semaphore, λ c. put_alike v.bound w.bound 0 (v.bound 0 + 1) (w.bound 0 + 1) c (ap (λ x. x + 1) (k.1 0)) (k.1 c)), finish_ready)

start_step : (bd : Bound) (t : Term) → Outer bd t → (v w : Values) → Alike v w → Ready w → Alike (lean_started (lean true t) v) (started t w) × Ready (started t w)
start_step bd t (inl e) v w k r = subst (λ x. Alike (lean_started (lean true x) v) (started x w) × Ready (started x w)) (sym e) (start_through v w k r bd)
start_step bd t (inr (p, e, l)) v w k r = subst (λ x. Alike (lean_started (lean true x) v) (started x w) × Ready (started x w)) (sym e) (
  (λ q i. put_alike v.semaphore w.semaphore p (v.semaphore p - 1) (w.semaphore p - 1) q (ap (λ x. x - 1) (k.0 p l)) (k.0 q i), k.1),
  go r,
)
  where
    stay : put w.semaphore p (w.semaphore p - 1) 0 ≡ w.semaphore 0
    stay = put_other w.semaphore p (w.semaphore p - 1) 0 (λ z. omega (arith, l, z))

    go : Ready w → Ready (started (Plain p) w)
    go (inl x) = inl x
    go (inr x) = inr (omega (arith, x, stay))

finish_step : (bd : Bound) (t : Term) → Outer bd t → (v w : Values) → Alike v w → Ready w → Alike (lean_finished (lean true t) v) (finished t w) × Ready (finished t w)
finish_step bd t (inl e) v w k r = subst (λ x. Alike (lean_finished (lean true x) v) (finished x w) × Ready (finished x w)) (sym e) (finish_through v w k r bd)
finish_step bd t (inr (p, e, l)) v w k r = subst (λ x. Alike (lean_finished (lean true x) v) (finished x w) × Ready (finished x w)) (sym e) (
  (λ q i. put_alike v.semaphore w.semaphore p (v.semaphore p + 1) (w.semaphore p + 1) q (ap (λ x. x + 1) (k.0 p l)) (k.0 q i), k.1),
  go r,
)
  where
    stay : put w.semaphore p (w.semaphore p + 1) 0 ≡ w.semaphore 0
    stay = put_other w.semaphore p (w.semaphore p + 1) 0 (λ z. omega (arith, l, z))

    go : Ready w → Ready (finished (Plain p) w)
    go (inl x) = inl x
    go (inr x) = inr (omega (arith, x, stay))

-- what the trimmed term of the outer braces asks, where the rest passes
outer_passes : (bd : Bound) (v w : Values) → Alike v w → Ready w → LeanPasses (lean true (through bd 0 0)) v ↔ Passes (through bd 0 0) w
outer_passes any v w k r = (λ p. r, λ p. tt)
outer_passes (most n) v w k r = (λ p. (r, (let e = k.1 0 in omega (arith, p, e))), λ p. (let e = k.1 0 in let l = p.1 in omega (arith, l, e)))

no_part : (bd : Bound) → lean true (through bd 0 0) ≡ nothing → (w : Values) → Ready w → Passes (through bd 0 0) w
no_part any z w r = r
no_part (most n) z w r = absurd (limits_nothing z)
  where
    limits_nothing : limits 0 ≡ nothing → ⊥
    limits_nothing z = cc

part_ready : (bd : Bound) (c q : ℕ) → through bd 0 0 ≡ Counted c q → (w : Values) → Ready w → Passes (Braced c q) w
part_ready any c q z w r = absurd (no z)
  where
    no : Braced 0 0 ≡ Counted c q → ⊥
    no z = cc
part_ready (most n) c q z w r = subst (λ d. Passes (Braced d q) w) (both.0) (subst (λ d. Passes (Braced 0 d) w) both.1 r)
  where
    both : (0 ≡ c) × (0 ≡ q)
    both = (cc, cc)

plain_counted : (p c q : ℕ) → Plain p ≡ Counted c q → ⊥
plain_counted p c q z = cc

module _ (bd : Bound) (b : Tree) (f : NoBraces b) where
  pub begin_term : (a : OpId) → Outer bd (prologue (burst bd b) a)
  begin_term a = outer_prologue bd (above b 1 1 a) (low b f 1 1 (omega arith) a)

  pub end_term : (a : OpId) → Outer bd (epilogue (burst bd b) a)
  end_term a = outer_epilogue bd (above b 1 1 a) (low b f 1 1 (omega arith) a)

  along : (v w : Values) (h : List Event) → Alike v w → Ready w → Alike (lean_among (burst bd b) v h) (values_among (burst bd b) w h) × Ready (values_among (burst bd b) w h)
  along v w [] k r = (k, r)
  along v w (Began a ∷ h) k r = go (has b a) (λ v' w' k' r'. along v' w' h k' r') (start_step bd (prologue (burst bd b) a) (begin_term a) v w k r)
    where
      go : (x : Bool) → ((v' w' : Values) → Alike v' w' → Ready w' → Alike (lean_among (burst bd b) v' h) (values_among (burst bd b) w' h) × Ready (values_among (burst bd b) w' h)) → Alike (lean_changed (burst bd b) (Began a) v) (changed (burst bd b) (Began a) w) × Ready (changed (burst bd b) (Began a) w) → Alike (lean_among (burst bd b) (if x then lean_changed (burst bd b) (Began a) v else v) h) (values_among (burst bd b) (if x then changed (burst bd b) (Began a) w else w) h) × Ready (values_among (burst bd b) (if x then changed (burst bd b) (Began a) w else w) h)
      go true rec y = rec _ _ y.0 y.1
      go false rec y = rec _ _ k r
  along v w (Ended a ∷ h) k r = go (has b a) (λ v' w' k' r'. along v' w' h k' r') (finish_step bd (epilogue (burst bd b) a) (end_term a) v w k r)
    where
      go : (x : Bool) → ((v' w' : Values) → Alike v' w' → Ready w' → Alike (lean_among (burst bd b) v' h) (values_among (burst bd b) w' h) × Ready (values_among (burst bd b) w' h)) → Alike (lean_changed (burst bd b) (Ended a) v) (changed (burst bd b) (Ended a) w) × Ready (changed (burst bd b) (Ended a) w) → Alike (lean_among (burst bd b) (if x then lean_changed (burst bd b) (Ended a) v else v) h) (values_among (burst bd b) (if x then changed (burst bd b) (Ended a) w else w) h) × Ready (values_among (burst bd b) (if x then changed (burst bd b) (Ended a) w else w) h)
      go true rec y = rec _ _ y.0 y.1
      go false rec y = rec _ _ k r

  trims_burst : (h : List Event) → Trims (burst bd b) h
  trims_burst h = record {
    kept_values = record { semaphores = λ q k. r.0.0 q (k refl); counters = λ c k. absurd (true_false k); bounds = r.0.1 };
    removed_part = λ a c q k e. part a c q (begin_term a) e;
    removed_passes = λ a k. removed a (begin_term a) k;
    same_passes = λ a. (to a (begin_term a), from a (begin_term a));
  }
    where
      v : Values
      v = lean_among (burst bd b) (opening (burst bd b)) h

      w : Values
      w = values_among (burst bd b) (opening (burst bd b)) h

      r : Alike v w × Ready w
      r = along (opening (burst bd b)) (opening (burst bd b)) h (λ q l. refl, λ c. refl) (inr (omega arith))

      part : (a : OpId) (c q : ℕ) → Outer bd (prologue (burst bd b) a) → prologue (burst bd b) a ≡ Counted c q → Passes (Braced c q) w
      part a c q (inl e) z = part_ready bd c q (sym e ∙ z) w r.1
      part a c q (inr (p, e, l)) z = absurd (plain_counted p c q (sym e ∙ z))

      removed : (a : OpId) → Outer bd (prologue (burst bd b) a) → lean_prologue (burst bd b) a ≡ nothing → Passes (prologue (burst bd b) a) w
      removed a (inl e) k = subst (λ t. Passes t w) (sym e) (no_part bd (sym (ap (lean true) e) ∙ k) w r.1)
      removed a (inr (q, e, l)) k = absurd (does_nothing (Plain q) (sym (ap (lean true) e) ∙ k))

      to : (a : OpId) → Outer bd (prologue (burst bd b) a) → LeanPasses (lean_prologue (burst bd b) a) v → Passes (prologue (burst bd b) a) w
      to a (inl e) p = subst (λ t. Passes t w) (sym e) ((outer_passes bd v w r.0 r.1).0 (subst (λ t. LeanPasses (lean true t) v) e p))
      to a (inr (q, e, l)) p = subst (λ t. Passes t w) (sym e) (let x : 0 < v.semaphore q = subst (λ t. LeanPasses (lean true t) v) e p in omega (arith, x, r.0.0 q l))

      from : (a : OpId) → Outer bd (prologue (burst bd b) a) → Passes (prologue (burst bd b) a) w → LeanPasses (lean_prologue (burst bd b) a) v
      from a (inl e) p = subst (λ t. LeanPasses (lean true t) v) (sym e) ((outer_passes bd v w r.0 r.1).1 (subst (λ t. Passes t w) e p))
      from a (inr (q, e, l)) p = subst (λ t. LeanPasses (lean true t) v) (sym e) (let x : 0 < w.semaphore q = subst (λ t. Passes t w) e p in omega (arith, x, r.0.0 q l))

trims : (s : Tree) → WellFormed s → (h : List Event) → Trims s h
trims (op b) wf h = trims_other (op b) refl h
trims (seq s t) wf h = trims_other (seq s t) refl h
trims (alt s t) wf h = trims_other (alt s t) refl h
trims (burst bd s) wf h = trims_burst bd s wf.not_nested.0 h

pub each_path_trims : EachPathTrims
each_path_trims s wf h = trims s wf h

-- equal trees
false_true : false ≡ true → ⊥
false_true z = cc

same_bound_same : (b c : Bound) → same_bound b c ≡ true → b ≡ c
same_bound_same any any h = refl
same_bound_same (most n) (most m) h = ap most (eqb-true n m h)
same_bound_same any (most m) h = absurd (false_true h)
same_bound_same (most n) any h = absurd (false_true h)

pub same_tree_same : (s t : Tree) → same_tree s t ≡ true → s ≡ t
same_tree_same (op a) (op b) h = ap op (op_same a b (eqb-true a.0 b.0 h))
same_tree_same (seq s t) (seq u v) h =
    let p = and_parts (same_tree s u) (same_tree t v) h in
    ap (λ x. seq x t) (same_tree_same s u p.0) ∙ ap (λ x. seq u x) (same_tree_same t v p.1)
same_tree_same (alt s t) (alt u v) h =
    let p = and_parts (same_tree s u) (same_tree t v) h in
    ap (λ x. alt x t) (same_tree_same s u p.0) ∙ ap (λ x. alt u x) (same_tree_same t v p.1)
same_tree_same (burst b s) (burst c t) h =
    let p = and_parts (same_bound b c) (same_tree s t) h in
    ap (λ x. burst x s) (same_bound_same b c p.0) ∙ ap (burst c) (same_tree_same s t p.1)
same_tree_same (op a) (seq u v) h = absurd (false_true h)
same_tree_same (op a) (alt u v) h = absurd (false_true h)
same_tree_same (op a) (burst bd u) h = absurd (false_true h)
same_tree_same (seq s t) (op b) h = absurd (false_true h)
same_tree_same (seq s t) (alt u v) h = absurd (false_true h)
same_tree_same (seq s t) (burst bd u) h = absurd (false_true h)
same_tree_same (alt s t) (op b) h = absurd (false_true h)
same_tree_same (alt s t) (seq u v) h = absurd (false_true h)
same_tree_same (alt s t) (burst bd u) h = absurd (false_true h)
same_tree_same (burst bd s) (op b) h = absurd (false_true h)
same_tree_same (burst bd s) (seq u v) h = absurd (false_true h)
same_tree_same (burst bd s) (alt u v) h = absurd (false_true h)

-- what an equal earlier path answers for
module _ (P : Tree → Type 0) where
  abbrev Failed : List Tree → Type 0
  Failed seen = (t : Tree) → stands_in t seen ≡ true → P t → ⊥

  failed_more : (seen : List Tree) (s : Tree) → Failed seen → (P s → ⊥) → Failed (s ∷ seen)
  failed_more seen s f n t h k = elim (or_cases (same_tree t s) (stands_in t seen) h) [ inl e ↦ n (subst P (same_tree_same t s e) k) | inr e ↦ f t e k ]

  kept_first : (xs : List (ℕ × Tree)) (seen : List Tree) → Failed seen → (p : ℕ) → First P (kept seen xs) p ↔ First P xs p
  kept_first [] seen f p = (λ k. k, λ k. k)
  kept_first (x ∷ xs) seen f p = go (stands_in x.1 seen) refl (kept_first xs seen f p) (λ g. kept_first xs (x.1 ∷ seen) g p)
    where
      go : (b : Bool) → stands_in x.1 seen ≡ b → First P (kept seen xs) p ↔ First P xs p → (Failed (x.1 ∷ seen) → First P (kept (x.1 ∷ seen) xs) p ↔ First P xs p) → First P (if b then kept seen xs else (x ∷ kept (x.1 ∷ seen) xs)) p ↔ First P (x ∷ xs) p
      go true e r g = (λ k. inr (f x.1 e, r.0 k), from)
        where
          from : First P (x ∷ xs) p → First P (kept seen xs) p
          from (inl k) = absurd (f x.1 e k.0)
          from (inr k) = r.1 k.1
      go false e r g = (to, from)
        where
          to : First P (x ∷ kept (x.1 ∷ seen) xs) p → First P (x ∷ xs) p
          to (inl k) = inl k
          to (inr k) = inr (k.0, (g (failed_more seen x.1 f k.0)).0 k.1)

          from : First P (x ∷ xs) p → First P (x ∷ kept (x.1 ∷ seen) xs) p
          from (inl k) = inl k
          from (inr k) = inr (k.0, (g (failed_more seen x.1 f k.0)).1 k.1)

  pub kept_none : (xs : List (ℕ × Tree)) (seen : List Tree) → Failed seen → NoneOf P (kept seen xs) ↔ NoneOf P xs
  kept_none [] seen f = (λ k. k, λ k. k)
  kept_none (x ∷ xs) seen f = go (stands_in x.1 seen) refl (kept_none xs seen f) (λ g. kept_none xs (x.1 ∷ seen) g)
    where
      go : (b : Bool) → stands_in x.1 seen ≡ b → NoneOf P (kept seen xs) ↔ NoneOf P xs → (Failed (x.1 ∷ seen) → NoneOf P (kept (x.1 ∷ seen) xs) ↔ NoneOf P xs) → NoneOf P (if b then kept seen xs else (x ∷ kept (x.1 ∷ seen) xs)) ↔ NoneOf P (x ∷ xs)
      go true e r g = (λ k. (f x.1 e, r.0 k), λ k. r.1 k.1)
      go false e r g = (λ k. (k.0, (g (failed_more seen x.1 f k.0)).0 k.1), λ k. (k.0, (g (failed_more seen x.1 f k.0)).1 k.1))

  -- what holds of all paths holds of those that are kept
  pub kept_every : (xs : List (ℕ × Tree)) (seen : List Tree) → Every P xs → Every P (kept seen xs)
  kept_every [] seen e = e
  kept_every (x ∷ xs) seen e =
      elim (stands_in x.1 seen) as (λ b. Every P (if b then kept seen xs else (x ∷ kept (x.1 ∷ seen) xs))) [ true ↦ kept_every xs seen e.1 | false ↦ (e.0, kept_every xs (x.1 ∷ seen) e.1) ]

-- the values of the kept paths
lean_opened_placed : (xs : List (ℕ × Tree)) → lean_opened xs ≡ placed (λ s. opening s) xs
lean_opened_placed [] = refl
lean_opened_placed (x ∷ xs) = ap (λ l. (x.0, on_tree (λ s. opening s) x.1) ∷ l) (lean_opened_placed xs)

abbrev lean_stepped : Event → (Tree → Values) → Tree → Values
lean_stepped e f s = if has s (op_of e) then lean_changed s e (f s) else f s

lean_moved_placed : (e : Event) (f : Tree → Values) (xs : List (ℕ × Tree)) → lean_moved e (placed f xs) ≡ placed (lean_stepped e f) xs
lean_moved_placed e f [] = refl
lean_moved_placed e f (x ∷ xs) = ap (λ l. (x.0, on_tree (lean_stepped e f) x.1) ∷ l) (lean_moved_placed e f xs)

lean_run_placed : (f : Tree → Values) (xs : List (ℕ × Tree)) (h : List Event) → lean_run (placed f xs) h ≡ placed (λ s. lean_among s (f s) h) xs
lean_run_placed f xs [] = refl
lean_run_placed f xs (e ∷ h) = ap (λ m. lean_run m h) (lean_moved_placed e f xs) ∙ lean_run_placed (lean_stepped e f) xs h

abbrev pub lean_now : List Event → Tree → Values
lean_now h s = lean_among s (opening s) h

pub lean_after_placed : (xs : List (ℕ × Tree)) (h : List Event) → lean_after xs h ≡ placed (lean_now h) (kept [] xs)
lean_after_placed xs h = ap (λ m. lean_run m h) (lean_opened_placed (kept [] xs)) ∙ lean_run_placed (λ s. opening s) (kept [] xs) h

pub trimming_keeps_answers : TrimmingKeepsAnswers
trimming_keeps_answers xs wf h a = record { first = firsts; none = nones }
  where
    same : Every (λ s. LeanBlocks a (on_tree (lean_now h) s) ↔ Blocks a (on_tree (now h) s)) xs
    same = every_map (λ s w. (λ b. (b.0, λ p. b.1 (((trims s w h).same_passes a).1 p)), λ b. (b.0, λ p. b.1 (((trims s w h).same_passes a).0 p)))) xs wf

    back : Every (λ s. Blocks a (on_tree (now h) s) ↔ LeanBlocks a (on_tree (lean_now h) s)) xs
    back = every_map (λ s w. (λ b. (b.0, λ p. b.1 (((trims s w h).same_passes a).0 p)), λ b. (b.0, λ p. b.1 (((trims s w h).same_passes a).1 p)))) xs wf

    firsts : (p : ℕ) → First (LeanBlocks a) (lean_after xs h) p ↔ First (Blocks a) (after xs h) p
    firsts p = (
      λ f. subst (λ m. First (Blocks a) m p) (sym (after_placed xs h)) (first_from (Blocks a) (now h) xs p (first_same _ _ xs same p ((kept_first (λ s. LeanBlocks a (on_tree (lean_now h) s)) xs [] (λ t e k. false_true e) p).0 (first_to (LeanBlocks a) (lean_now h) (kept [] xs) p (subst (λ m. First (LeanBlocks a) m p) (lean_after_placed xs h) f))))),
      λ f. subst (λ m. First (LeanBlocks a) m p) (sym (lean_after_placed xs h)) (first_from (LeanBlocks a) (lean_now h) (kept [] xs) p ((kept_first (λ s. LeanBlocks a (on_tree (lean_now h) s)) xs [] (λ t e k. false_true e) p).1 (first_same _ _ xs back p (first_to (Blocks a) (now h) xs p (subst (λ m. First (Blocks a) m p) (after_placed xs h) f))))),
    )

    nones : NoneOf (LeanBlocks a) (lean_after xs h) ↔ NoneOf (Blocks a) (after xs h)
    nones = (
      λ f. subst (λ m. NoneOf (Blocks a) m) (sym (after_placed xs h)) (every_from (λ r. Blocks a r → ⊥) (now h) xs (none_same _ _ xs same ((kept_none (λ s. LeanBlocks a (on_tree (lean_now h) s)) xs [] (λ t e k. false_true e)).0 (every_to (λ r. LeanBlocks a r → ⊥) (lean_now h) (kept [] xs) (subst (λ m. NoneOf (LeanBlocks a) m) (lean_after_placed xs h) f))))),
      λ f. subst (λ m. NoneOf (LeanBlocks a) m) (sym (lean_after_placed xs h)) (every_from (λ r. LeanBlocks a r → ⊥) (lean_now h) (kept [] xs) ((kept_none (λ s. LeanBlocks a (on_tree (lean_now h) s)) xs [] (λ t e k. false_true e)).1 (none_same _ _ xs back (every_to (λ r. Blocks a r → ⊥) (now h) xs (subst (λ m. NoneOf (Blocks a) m) (after_placed xs h) f))))),
    )

lean_run_append : (m : List (ℕ × Running)) (h u : List Event) → lean_run m (h ++ u) ≡ lean_run (lean_run m h) u
lean_run_append m [] u = refl
lean_run_append m (e ∷ h) u = lean_run_append (lean_moved e m) h u

module _ (xs : List (ℕ × Tree)) (wf : Every WellFormed xs) (h : List Event) (l : Legal xs h) (a : OpId) where
  lean_forbids : (s : Tree) → WellFormed s → LegalOn s h → LeanBlocks a (on_tree (lean_now h) s) ↔ Forbids h a s
  lean_forbids s w k =
      let i = blocks_forbids s w h k a in
      let t = (trims s w h).same_passes a in
      (λ b. i.0 (b.0, λ p. b.1 (t.1 p)), λ f. let b = i.1 f in (b.0, λ p. b.1 (t.0 p)))

  each_lean_forbids : Every (λ r. LeanBlocks a r ↔ Forbids h a r.tree) (lean_after xs h)
  each_lean_forbids =
      subst (λ m. Every (λ r. LeanBlocks a r ↔ Forbids h a r.tree) m) (sym (lean_after_placed xs h))
      (every_from (λ r. LeanBlocks a r ↔ Forbids h a r.tree) (lean_now h) (kept [] xs)
      (kept_every (λ s. LeanBlocks a (on_tree (lean_now h) s) ↔ Forbids h a s) xs [] (every_both lean_forbids xs wf l)))

pub trimmed_admits_the_words : TrimmedAdmitsTheWords
trimmed_admits_the_words xs wf h l a = record {
  first = λ p. (λ f. (j.first a p).0 ((t.first p).0 f), λ f. (t.first p).1 ((j.first a p).1 f));
  each = each_lean_forbids xs wf h l a;
  starts = (λ n. (j.starts a).0 (t.none.0 n), λ k. t.none.1 ((j.starts a).1 k));
  decided = elim (j.decided a) [ inl n ↦ inl (t.none.1 n) | inr f ↦ inr (f.0, (t.first f.0).1 f.1) ];
  moves = λ e. lean_run_append (lean_opened (kept [] xs)) h (e ∷ []);
}
  where
    j : Judged xs h
    j = all_paths_judge xs wf h l

    t : SameAnswers xs h a
    t = trimming_keeps_answers xs wf h a
