-- What a whole tree has, each part of it has: values, terms, and what may come next.
use Rattle.std.proofs.Common.{◌≡◌, ◌⊎◌, ◌+◌, ℕ, List, ◌∷◌, ◌++◌, refl, ap, ◌∙◌, inl, inr}
use Rattle.path_model.specs.declared.ids.OpId.{OpId}
use Rattle.path_model.specs.declared.history.Event.{Event}
use Rattle.path_model.specs.declared.history.Event.TheVariants.{Began}
use Rattle.path_model.specs.Trees.{Bound, any, most, Tree, op, seq, alt, burst, Names, NoRepeats, NoBraces, NoNesting}
use Rattle.path_model.specs.Histories.{op_of}
use Rattle.path_model.proofs.Counts.{May, May-names}
use Rattle.path_model.proofs.Same.{May_weaken, Starts}
use Rattle.path_model.specs.Machine.{semicolons, braces, Above, LeftOf, RightOf, Within, above, Plain, through, prologue_below, Values}
use Rattle.path_model.proofs.Steady.{Steady}
use Rattle.path_model.specs.BurstCounts.{Inside, itself, seq_first, seq_second, alt_first, alt_second, Many, InUse, Unfinished, StandsAt, OpenBurst, Spare, Counts, EachLabellingCounts}
use Rattle.path_model.specs.BurstCounts
use Rattle.path_model.proofs.Crowd.{starts_names}
use Rattle.path_model.proofs.Upward.{Holds, path_left, path_right, path_one, path_other, path_in}
use Rattle.path_model.proofs.Labelled.{inside_names, inside_flat}

module _ {t : Tree} {i j : ℕ} where
  pub inside_steady : {s : Tree} {n m : ℕ} (w : List Event) → Inside t i j s n m → (NoBraces t → ⊥) → NoNesting s → Steady s w → Steady t w
  inside_steady w itself no_flat f k = k
  inside_steady w (seq_first s u n m r) no_flat f k = inside_steady w r no_flat f.0 k.0
  inside_steady w (seq_second s u n m r) no_flat f k = inside_steady w r no_flat f.1 k.1
  inside_steady w (alt_first s u n m r) no_flat f k = inside_steady w r no_flat f.0 k.0
  inside_steady w (alt_second s u n m r) no_flat f k = inside_steady w r no_flat f.1 k.1
  inside_steady w (BurstCounts.in_braces bd s n m r) no_flat f k = absurd (no_flat (inside_flat r f.0))

  pub holds_inside : {s : Tree} {n m : ℕ} (h : List Event) (v : Values) → Inside t i j s n m → Holds s n m h v → Holds t i j h v
  holds_inside h v itself H = H
  holds_inside h v (seq_first s u n m r) H = holds_inside h v r H.0
  holds_inside h v (seq_second s u n m r) H = holds_inside h v r H.1
  holds_inside h v (alt_first s u n m r) H = holds_inside h v r H.0
  holds_inside h v (alt_second s u n m r) H = holds_inside h v r H.1
  holds_inside h v (BurstCounts.in_braces bd s n m r) H = holds_inside h v r H.0

  pub inside_may : {s : Tree} {n m : ℕ} → Inside t i j s n m → NoRepeats s → (h : List Event) (e : Event) (p : Type 0) → Names t (op_of e) → May s h e p → May t h e (Unit {0})
  inside_may itself nr h e p k m = May_weaken t h e (λ _. tt) m
  inside_may (seq_first s u n x r) nr h e p k (inl m) = inside_may r nr.0 h e _ k m
  inside_may (seq_first s u n x r) nr h e p k (inr m) = absurd (nr.2 (op_of e) (inside_names r _ k) (May-names u h e _ m))
  inside_may (seq_second s u n x r) nr h e p k (inl m) = absurd (nr.2 (op_of e) (May-names s h e _ m) (inside_names r _ k))
  inside_may (seq_second s u n x r) nr h e p k (inr m) = inside_may r nr.1 h e _ k m
  inside_may (alt_first s u n x r) nr h e p k (inl m) = inside_may r nr.0 h e _ k m
  inside_may (alt_first s u n x r) nr h e p k (inr m) = absurd (nr.2 (op_of e) (inside_names r _ k) (May-names u h e _ m))
  inside_may (alt_second s u n x r) nr h e p k (inl m) = absurd (nr.2 (op_of e) (May-names s h e _ m) (inside_names r _ k))
  inside_may (alt_second s u n x r) nr h e p k (inr m) = inside_may r nr.1 h e _ k m
  inside_may (BurstCounts.in_braces bd s n x r) nr h e p k m = inside_may r nr h e _ k m

  -- what stands above a part's names
  pub inside_above : {s : Tree} {n m : ℕ} → Inside t i j s n m → NoRepeats s → (up : List Above) → (up' : List Above) × ((a : OpId) → Names t a → above s n m a ++ up ≡ above t i j a ++ up')
  inside_above itself nr up = (up, λ a k. refl)
  inside_above (seq_first s u n m r) nr up =
      let q = inside_above r nr.0 (LeftOf (n + semicolons s) ∷ up) in
      (q.0, λ a k. path_left s u n m a up (inside_names r a k) ∙ q.1 a k)
  inside_above (seq_second s u n m r) nr up =
      let q = inside_above r nr.1 (RightOf (n + semicolons s) ∷ up) in
      (q.0, λ a k. path_right s u n m a up (λ x. nr.2 a x (inside_names r a k)) ∙ q.1 a k)
  inside_above (alt_first s u n m r) nr up =
      let q = inside_above r nr.0 up in
      (q.0, λ a k. path_one s u n m a up (inside_names r a k) ∙ q.1 a k)
  inside_above (alt_second s u n m r) nr up =
      let q = inside_above r nr.1 up in
      (q.0, λ a k. path_other s u n m a up (λ x. nr.2 a x (inside_names r a k)) ∙ q.1 a k)
  inside_above (BurstCounts.in_braces bd s n m r) nr up =
      let q = inside_above r nr (Within bd m ∷ up) in
      (q.0, λ a k. path_in bd s n m a up ∙ q.1 a k)

-- the term of an operation that begins a tree is that of the tree
pub start_term : (s : Tree) → NoRepeats s → NoBraces s → (n m : ℕ) (a : OpId) (up : List Above) → Starts s (Began a) → prologue_below (above s n m a ++ up) ≡ prologue_below up
start_term (op b) nr f n m a up k = refl
start_term (seq s t) nr f n m a up k = ap prologue_below (path_left s t n m a up (starts_names s (Began a) k)) ∙ start_term s nr.0 f.0 n m a (LeftOf (n + semicolons s) ∷ up) k
start_term (alt s t) nr f n m a up (inl k) = ap prologue_below (path_one s t n m a up (starts_names s (Began a) k)) ∙ start_term s nr.0 f.0 n m a up k
start_term (alt s t) nr f n m a up (inr k) = ap prologue_below (path_other s t n m a up (λ x. nr.2 a x (starts_names t (Began a) k))) ∙ start_term t nr.1 f.1 _ _ a up k
start_term (burst bd s) nr f n m a up k = absurd f

-- any other operation has a P
pub other_term : (s : Tree) → NoRepeats s → NoBraces s → (n m : ℕ) (a : OpId) (up : List Above) → Names s a → Starts s (Began a) ⊎ ((q : ℕ) × (prologue_below (above s n m a ++ up) ≡ Plain q))
other_term (op b) nr f n m a up k = inl k
other_term (seq s t) nr f n m a up (inl k) = elim (other_term s nr.0 f.0 n m a (LeftOf (n + semicolons s) ∷ up) k) [
  | inl x ↦ inl x
  | inr x ↦ inr (x.0, ap prologue_below (path_left s t n m a up k) ∙ x.1)
]
other_term (seq s t) nr f n m a up (inr k) =
    let p = ap prologue_below (path_right s t n m a up (λ x. nr.2 a x k)) in
    elim (other_term t nr.1 f.1 (n + semicolons s + 1) (m + braces s) a (RightOf (n + semicolons s) ∷ up) k) [
      | inl x ↦ inr (n + semicolons s, p ∙ start_term t nr.1 f.1 _ _ a (RightOf (n + semicolons s) ∷ up) x)
      | inr x ↦ inr (x.0, p ∙ x.1)
    ]
other_term (alt s t) nr f n m a up (inl k) = elim (other_term s nr.0 f.0 n m a up k) [
  | inl x ↦ inl (inl x)
  | inr x ↦ inr (x.0, ap prologue_below (path_one s t n m a up k) ∙ x.1)
]
other_term (alt s t) nr f n m a up (inr k) = elim (other_term t nr.1 f.1 (n + semicolons s) (m + braces s) a up k) [
  | inl x ↦ inl (inr x)
  | inr x ↦ inr (x.0, ap prologue_below (path_other s t n m a up (λ y. nr.2 a y k)) ∙ x.1)
]
other_term (burst bd s) nr f n m a up k = absurd f

pub plain_through : (b : Bound) (q c p : ℕ) → Plain q ≡ through b c p → ⊥
plain_through any q c p h = cc
plain_through (most n) q c p h = cc
