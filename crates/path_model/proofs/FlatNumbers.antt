-- The numbers of a path's semaphores, braces and bounds: those in its terms, and those of its bounds in their order.
use Rattle.std.proofs.Common.{◌≡◌, ◌==◌, if◌then◌else◌, ◌<◌, ◌≤◌, ◌+◌, ℕ, List, [], ◌∷◌, ◌++◌, ◌⊎◌, true, false, refl, sym, ◌∙◌, subst, inl, inr, arith}
use Rattle.std.proofs.lemmas.Bool.{eq-eqb, ne_eqb, cond-true, cond-false, cases_Bool, cases_eq, cases_lt, or_cases, lt-ltb, le-ltb}
use Rattle.std.specs.Prelude.{◌||◌, nat_lt}
use Rattle.path_model.specs.declared.ids.OpId.{OpId}
use Rattle.path_model.specs.Trees.{Bound, any, most, Tree, op, seq, alt, burst, NoBraces, has}
use Rattle.path_model.specs.Machine.{semicolons, braces, Above, LeftOf, RightOf, Within, above, Term, Plain, Braced, Counted, through, waits_on, signals, prologue_below, epilogue_below, prologue, epilogue, bound_at}
use Rattle.path_model.specs.Flat.{bound_count, counted_braces, rank, IsBound, HasBound, bound_opening}
use Rattle.path_model.proofs.Moves.{Out}
use Rattle.path_model.proofs.OnePath.{bounds_out}

-- the numbers in terms
abbrev Ranged : ℕ → ℕ → ℕ → ℕ → List Above → Type 0
Ranged n k m j [] = Unit {0}
Ranged n k m j (LeftOf q ∷ up) = (n ≤ q) × (q < n + k) × Ranged n k m j up
Ranged n k m j (RightOf q ∷ up) = (n ≤ q) × (q < n + k) × Ranged n k m j up
Ranged n k m j (Within b c ∷ up) = (m ≤ c) × (c < m + j) × Ranged n k m j up

ranged_wider : (n k m j n' k' m' j' : ℕ) → n ≤ n' → n' + k' ≤ n + k → m ≤ m' → m' + j' ≤ m + j → (x y : List Above) → Ranged n' k' m' j' x → Ranged n k m j y → Ranged n k m j (x ++ y)
ranged_wider n k m j n' k' m' j' a b c d [] y r s = s
ranged_wider n k m j n' k' m' j' a b c d (LeftOf q ∷ x) y r s = (omega (arith, a, r.0), omega (arith, b, r.1), ranged_wider n k m j n' k' m' j' a b c d x y r.2 s)
ranged_wider n k m j n' k' m' j' a b c d (RightOf q ∷ x) y r s = (omega (arith, a, r.0), omega (arith, b, r.1), ranged_wider n k m j n' k' m' j' a b c d x y r.2 s)
ranged_wider n k m j n' k' m' j' a b c d (Within e q ∷ x) y r s = (omega (arith, c, r.0), omega (arith, d, r.1), ranged_wider n k m j n' k' m' j' a b c d x y r.2 s)

ranged_nil : (n k m j n' k' m' j' : ℕ) → n ≤ n' → n' + k' ≤ n + k → m ≤ m' → m' + j' ≤ m + j → (x : List Above) → Ranged n' k' m' j' x → Ranged n k m j x
ranged_nil n k m j n' k' m' j' a b c d [] r = tt
ranged_nil n k m j n' k' m' j' a b c d (LeftOf q ∷ x) r = (omega (arith, a, r.0), omega (arith, b, r.1), ranged_nil n k m j n' k' m' j' a b c d x r.2)
ranged_nil n k m j n' k' m' j' a b c d (RightOf q ∷ x) r = (omega (arith, a, r.0), omega (arith, b, r.1), ranged_nil n k m j n' k' m' j' a b c d x r.2)
ranged_nil n k m j n' k' m' j' a b c d (Within e q ∷ x) r = (omega (arith, c, r.0), omega (arith, d, r.1), ranged_nil n k m j n' k' m' j' a b c d x r.2)

true_false : true ≡ false → ⊥
true_false z = cc

right_has : (s t : Tree) (a : OpId) → (has s a || has t a) ≡ true → has s a ≡ false → has t a ≡ true
right_has s t a h z = elim (or_cases (has s a) (has t a) h) [ inl k ↦ absurd (true_false (sym k ∙ z)) | inr k ↦ k ]

ranged : (s : Tree) (n m : ℕ) (a : OpId) → has s a ≡ true → Ranged n (semicolons s) m (braces s) (above s n m a)
ranged (op b) n m a h = tt
ranged (seq s t) n m a h = elim (cases_Bool (has s a)) [
  | inl k ↦ subst (Ranged n (semicolons s + semicolons t + 1) m (braces s + braces t)) (sym (cond-true (has s a) _ _ k)) (ranged_wider n (semicolons s + semicolons t + 1) m (braces s + braces t) n (semicolons s) m (braces s) (omega arith) (omega arith) (omega arith) (omega arith) (above s n m a) _ (ranged s n m a k) (omega arith, omega arith, tt))
  | inr k ↦ subst (Ranged n (semicolons s + semicolons t + 1) m (braces s + braces t)) (sym (cond-false (has s a) _ _ k)) (ranged_wider n (semicolons s + semicolons t + 1) m (braces s + braces t) (n + semicolons s + 1) (semicolons t) (m + braces s) (braces t) (omega arith) (omega arith) (omega arith) (omega arith) (above t (n + semicolons s + 1) (m + braces s) a) _ (ranged t (n + semicolons s + 1) (m + braces s) a (right_has s t a h k)) (omega arith, omega arith, tt))
]
ranged (alt s t) n m a h = elim (cases_Bool (has s a)) [
  | inl k ↦ subst (Ranged n (semicolons s + semicolons t) m (braces s + braces t)) (sym (cond-true (has s a) _ _ k)) (ranged_nil n (semicolons s + semicolons t) m (braces s + braces t) n (semicolons s) m (braces s) (omega arith) (omega arith) (omega arith) (omega arith) (above s n m a) (ranged s n m a k))
  | inr k ↦ subst (Ranged n (semicolons s + semicolons t) m (braces s + braces t)) (sym (cond-false (has s a) _ _ k)) (ranged_nil n (semicolons s + semicolons t) m (braces s + braces t) (n + semicolons s) (semicolons t) (m + braces s) (braces t) (omega arith) (omega arith) (omega arith) (omega arith) (above t (n + semicolons s) (m + braces s) a) (ranged t (n + semicolons s) (m + braces s) a (right_has s t a h k)))
]
ranged (burst bd s) n m a h = ranged_wider n (semicolons s) m (braces s + 1) n (semicolons s) (m + 1) (braces s) (omega arith) (omega arith) (omega arith) (omega arith) (above s n (m + 1) a) _ (ranged s n (m + 1) a h) (omega arith, omega arith, tt)

-- of each pair of braces that has a bound the number has a property
abbrev Sure : (ℕ → Type 0) → List Above → Type 0
Sure P [] = Unit {0}
Sure P (LeftOf q ∷ up) = Sure P up
Sure P (RightOf q ∷ up) = Sure P up
Sure P (Within bd c ∷ up) = (IsBound bd → P c) × Sure P up

module _ (P Q : ℕ → Type 0) (f : (c : ℕ) → P c → Q c) where
  sure_map : (x : List Above) → Sure P x → Sure Q x
  sure_map [] s = tt
  sure_map (LeftOf q ∷ x) s = sure_map x s
  sure_map (RightOf q ∷ x) s = sure_map x s
  sure_map (Within bd c ∷ x) s = (λ b. f c (s.0 b), sure_map x s.1)

  sure_more : (x y : List Above) → Sure P x → Sure Q y → Sure Q (x ++ y)
  sure_more [] y s t = t
  sure_more (LeftOf q ∷ x) y s t = sure_more x y s t
  sure_more (RightOf q ∷ x) y s t = sure_more x y s t
  sure_more (Within bd c ∷ x) y s t = (λ b. f c (s.0 b), sure_more x y s.1 t)

sure : (s : Tree) (n m : ℕ) (a : OpId) → has s a ≡ true → Sure (HasBound s m) (above s n m a)
sure (op b) n m a h = tt
sure (seq s t) n m a h = elim (cases_Bool (has s a)) [
  | inl k ↦ subst (Sure (HasBound (seq s t) m)) (sym (cond-true (has s a) _ _ k)) (sure_more (HasBound s m) (HasBound (seq s t) m) (λ c p. inl p) (above s n m a) _ (sure s n m a k) tt)
  | inr k ↦ subst (Sure (HasBound (seq s t) m)) (sym (cond-false (has s a) _ _ k))
      (sure_more (HasBound t (m + braces s)) (HasBound (seq s t) m) (λ c p. inr p) (above t (n + semicolons s + 1) (m + braces s) a) _ (sure t (n + semicolons s + 1) (m + braces s) a (right_has s t a h k)) tt)
]
sure (alt s t) n m a h = elim (cases_Bool (has s a)) [
  | inl k ↦ subst (Sure (HasBound (alt s t) m)) (sym (cond-true (has s a) _ _ k)) (sure_map (HasBound s m) (HasBound (alt s t) m) (λ c p. inl p) (above s n m a) (sure s n m a k))
  | inr k ↦ subst (Sure (HasBound (alt s t) m)) (sym (cond-false (has s a) _ _ k))
      (sure_map (HasBound t (m + braces s)) (HasBound (alt s t) m) (λ c p. inr p) (above t (n + semicolons s) (m + braces s) a) (sure t (n + semicolons s) (m + braces s) a (right_has s t a h k)))
]
sure (burst bd s) n m a h =
    sure_more (HasBound s (m + 1)) (HasBound (burst bd s) m) (λ c p. inr p) (above s n (m + 1) a) _ (sure s n (m + 1) a h) (λ b. inl (b, refl), tt)

-- the numbers in a term are those of the path
abbrev pub InTable : Tree → Term → Type 0
InTable s (Plain q) = q ≤ semicolons s
InTable s (Braced c q) = (c < braces s) × (q ≤ semicolons s)
InTable s (Counted c q) = (c < braces s) × (q ≤ semicolons s) × HasBound s 0 c

module _ (s : Tree) where
  in_through : (b : Bound) (c q : ℕ) → c < braces s → q ≤ semicolons s → (IsBound b → HasBound s 0 c) → InTable s (through b c q)
  in_through any c q x y z = (x, y)
  in_through (most n) c q x y z = (x, y, z tt)

  waits_low : (up : List Above) → Ranged 1 (semicolons s) 0 (braces s) up → waits_on up ≤ semicolons s
  waits_low [] r = omega arith
  waits_low (RightOf q ∷ up) r = omega (arith, r.1)
  waits_low (LeftOf q ∷ up) r = waits_low up r.2
  waits_low (Within b c ∷ up) r = waits_low up r.2

  signals_low : (up : List Above) → Ranged 1 (semicolons s) 0 (braces s) up → signals up ≤ semicolons s
  signals_low [] r = omega arith
  signals_low (LeftOf q ∷ up) r = omega (arith, r.1)
  signals_low (RightOf q ∷ up) r = signals_low up r.2
  signals_low (Within b c ∷ up) r = signals_low up r.2

  prologue_in : (up : List Above) → Ranged 1 (semicolons s) 0 (braces s) up → Sure (HasBound s 0) up → InTable s (prologue_below up)
  prologue_in [] r t = omega arith
  prologue_in (RightOf q ∷ up) r t = omega (arith, r.1)
  prologue_in (LeftOf q ∷ up) r t = prologue_in up r.2 t
  prologue_in (Within b c ∷ up) r t = in_through b c (waits_on up) (omega (arith, r.1)) (waits_low up r.2) t.0

  epilogue_in : (up : List Above) → Ranged 1 (semicolons s) 0 (braces s) up → Sure (HasBound s 0) up → InTable s (epilogue_below up)
  epilogue_in [] r t = omega arith
  epilogue_in (LeftOf q ∷ up) r t = omega (arith, r.1)
  epilogue_in (RightOf q ∷ up) r t = epilogue_in up r.2 t
  epilogue_in (Within b c ∷ up) r t = in_through b c (signals up) (omega (arith, r.1)) (signals_low up r.2) t.0

pub prologue_has : (s : Tree) (a : OpId) → has s a ≡ true → InTable s (prologue s a)
prologue_has s a h = prologue_in s (above s 1 0 a) (ranged s 1 0 a h) (sure s 1 0 a h)

pub epilogue_has : (s : Tree) (a : OpId) → has s a ≡ true → InTable s (epilogue s a)
epilogue_has s a h = epilogue_in s (above s 1 0 a) (ranged s 1 0 a h) (sure s 1 0 a h)

-- the ranks of braces that have a bound
abbrev before : Bound → ℕ → ℕ → ℕ
before bd m c = if nat_lt m c then bound_count bd else 0

before_yes : (bd : Bound) (m c : ℕ) → m < c → before bd m c ≡ bound_count bd
before_yes bd m c l = cond-true (nat_lt m c) (bound_count bd) 0 (lt-ltb m c l)

before_no : (bd : Bound) (m c : ℕ) → c ≤ m → before bd m c ≡ 0
before_no bd m c l = cond-false (nat_lt m c) (bound_count bd) 0 (le-ltb m c l)

one_bound : (bd : Bound) → IsBound bd → bound_count bd ≡ 1
one_bound any b = absurd b
one_bound (most n) b = refl

pub rank_before : (s : Tree) (m c : ℕ) → c ≤ m → rank s m c ≡ 0
rank_before (op a) m c l = refl
rank_before (seq s t) m c l = let x = rank_before s m c l in let y = rank_before t (m + braces s) c (omega (arith, l)) in omega (arith, x, y)
rank_before (alt s t) m c l = let x = rank_before s m c l in let y = rank_before t (m + braces s) c (omega (arith, l)) in omega (arith, x, y)
rank_before (burst bd s) m c l = let x = before_no bd m c l in let y = rank_before s (m + 1) c (omega (arith, l)) in omega (arith, x, y)

pub rank_after : (s : Tree) (m c : ℕ) → m + braces s ≤ c → rank s m c ≡ counted_braces s
rank_after (op a) m c l = refl
rank_after (seq s t) m c l = let x = rank_after s m c (omega (arith, l)) in let y = rank_after t (m + braces s) c (omega (arith, l)) in omega (arith, x, y)
rank_after (alt s t) m c l = let x = rank_after s m c (omega (arith, l)) in let y = rank_after t (m + braces s) c (omega (arith, l)) in omega (arith, x, y)
rank_after (burst bd s) m c l = let x = before_yes bd m c (omega (arith, l)) in let y = rank_after s (m + 1) c (omega (arith, l)) in omega (arith, x, y)

rank_grows : (s : Tree) (m c d : ℕ) → c ≤ d → rank s m c ≤ rank s m d
rank_grows (op a) m c d l = omega arith
rank_grows (seq s t) m c d l = omega (arith, rank_grows s m c d l, rank_grows t (m + braces s) c d l)
rank_grows (alt s t) m c d l = omega (arith, rank_grows s m c d l, rank_grows t (m + braces s) c d l)
rank_grows (burst bd s) m c d l = let x = rank_grows s (m + 1) c d l in elim (cases_lt m c) [
  | inl k ↦ let y = before_yes bd m c k in let z = before_yes bd m d (omega (arith, k, l)) in omega (arith, x, y, z)
  | inr k ↦ let y = before_no bd m c k in omega (arith, x, y)
]

pub bound_within : (s : Tree) (m c : ℕ) → HasBound s m c → (m ≤ c) × (c < m + braces s)
bound_within (op a) m c h = absurd h
bound_within (seq s t) m c (inl h) = let x = bound_within s m c h in (x.0, omega (arith, x.1))
bound_within (seq s t) m c (inr h) = let x = bound_within t (m + braces s) c h in (omega (arith, x.0), omega (arith, x.1))
bound_within (alt s t) m c (inl h) = let x = bound_within s m c h in (x.0, omega (arith, x.1))
bound_within (alt s t) m c (inr h) = let x = bound_within t (m + braces s) c h in (omega (arith, x.0), omega (arith, x.1))
bound_within (burst bd s) m c (inl h) = (omega (arith, h.1), omega (arith, h.1))
bound_within (burst bd s) m c (inr h) = let x = bound_within s (m + 1) c h in (omega (arith, x.0), omega (arith, x.1))

rank_rises : (s : Tree) (m c d : ℕ) → HasBound s m c → c < d → rank s m c < rank s m d
rank_rises (op a) m c d h l = absurd h
rank_rises (seq s t) m c d (inl h) l = omega (arith, rank_rises s m c d h l, rank_grows t (m + braces s) c d (omega (arith, l)))
rank_rises (seq s t) m c d (inr h) l = omega (arith, rank_grows s m c d (omega (arith, l)), rank_rises t (m + braces s) c d h l)
rank_rises (alt s t) m c d (inl h) l = omega (arith, rank_rises s m c d h l, rank_grows t (m + braces s) c d (omega (arith, l)))
rank_rises (alt s t) m c d (inr h) l = omega (arith, rank_grows s m c d (omega (arith, l)), rank_rises t (m + braces s) c d h l)
rank_rises (burst bd s) m c d (inl h) l =
    let x = before_no bd m c (omega (arith, h.1)) in
    let y = before_yes bd m d (omega (arith, h.1, l)) in
    let z = one_bound bd h.0 in
    let w = rank_grows s (m + 1) c d (omega (arith, l)) in
    omega (arith, x, y, z, w)
rank_rises (burst bd s) m c d (inr h) l =
    let k = bound_within s (m + 1) c h in
    let x = before_yes bd m c (omega (arith, k.0)) in
    let y = before_yes bd m d (omega (arith, k.0, l)) in
    let w = rank_rises s (m + 1) c d h l in
    omega (arith, x, y, w)

pub rank_low : (s : Tree) (m c : ℕ) → HasBound s m c → rank s m c < counted_braces s
rank_low s m c h =
    let k = bound_within s m c h in
    let x = rank_rises s m c (m + braces s) h k.1 in
    let y = rank_after s m (m + braces s) (omega arith) in
    omega (arith, x, y)

pub rank_apart : (s : Tree) (c d : ℕ) → HasBound s 0 c → HasBound s 0 d → rank s 0 c ≡ rank s 0 d → c ≡ d
rank_apart s c d g h e = elim (cases_lt c d) [
  | inl l ↦ absurd (let x = rank_rises s 0 c d g l in omega (arith, x, e))
  | inr l ↦ elim (cases_lt d c) [ inl k ↦ absurd (let x = rank_rises s 0 d c h k in omega (arith, x, e)) | inr k ↦ omega (arith, l, k) ]
]

is_bound_or : (bd : Bound) → IsBound bd ⊎ (IsBound bd → ⊥)
is_bound_or any = inr (λ b. b)
is_bound_or (most n) = inl tt

either_or : {A B : Type 0} → A ⊎ (A → ⊥) → B ⊎ (B → ⊥) → (A ⊎ B) ⊎ (A ⊎ B → ⊥)
either_or (inl a) y = inl (inl a)
either_or (inr n) (inl b) = inl (inr b)
either_or {A} {B} (inr n) (inr m) = inr no
  where
    no : A ⊎ B → ⊥
    no (inl a) = n a
    no (inr b) = m b

-- whether braces have a bound is decided
pub bound_or : (s : Tree) (m c : ℕ) → HasBound s m c ⊎ (HasBound s m c → ⊥)
bound_or (op a) m c = inr (λ h. h)
bound_or (seq s t) m c = either_or (bound_or s m c) (bound_or t (m + braces s) c)
bound_or (alt s t) m c = either_or (bound_or s m c) (bound_or t (m + braces s) c)
bound_or (burst bd s) m c = either_or (here (is_bound_or bd) (cases_eq c m)) (bound_or s (m + 1) c)
  where
    here : IsBound bd ⊎ (IsBound bd → ⊥) → (c ≡ m) ⊎ (c ≡ m → ⊥) → (IsBound bd × (c ≡ m)) ⊎ (IsBound bd × (c ≡ m) → ⊥)
    here (inl b) (inl e) = inl (b, e)
    here (inl b) (inr n) = inr (λ p. n p.1)
    here (inr n) e = inr (λ p. n p.0)

-- what the semaphores of bounds open with
pub opening_out : (s : Tree) (n i : ℕ) → Out n (counted_braces s) i → bound_opening s n i ≡ 0
opening_out (op a) n i o = refl
opening_out (seq s t) n i o =
    let x = opening_out s n i (elim o [ inl l ↦ inl l | inr l ↦ inr (omega (arith, l)) ]) in
    let y = opening_out t (n + counted_braces s) i (elim o [ inl l ↦ inl (omega (arith, l)) | inr l ↦ inr (omega (arith, l)) ]) in
    omega (arith, x, y)
opening_out (alt s t) n i o =
    let x = opening_out s n i (elim o [ inl l ↦ inl l | inr l ↦ inr (omega (arith, l)) ]) in
    let y = opening_out t (n + counted_braces s) i (elim o [ inl l ↦ inl (omega (arith, l)) | inr l ↦ inr (omega (arith, l)) ]) in
    omega (arith, x, y)
opening_out (burst any s) n i o = opening_out s n i (elim o [ inl l ↦ inl l | inr l ↦ inr (omega (arith, l)) ])
opening_out (burst (most k) s) n i o =
    cond-false (i == n) k (bound_opening s (n + 1) i) (ne_eqb i n (λ z. elim o [ inl l ↦ omega (arith, l, z) | inr l ↦ omega (arith, l, z) ]))
    ∙ opening_out s (n + 1) i (elim o [ inl l ↦ inl (omega (arith, l)) | inr l ↦ inr (omega (arith, l)) ])

-- of two trees side by side, the one without the braces adds nothing
module _ (s t : Tree) (n m c i : ℕ) (e : i ≡ n + (rank s m c + rank t (m + braces s) c)) where
  opening_first : HasBound s m c → (i ≡ n + rank s m c → bound_opening s n i ≡ bound_at s m c) → bound_opening s n i + bound_opening t (n + counted_braces s) i ≡ bound_at s m c + bound_at t (m + braces s) c
  opening_first h own =
      let k = bound_within s m c h in
      let r = rank_before t (m + braces s) c (omega (arith, k.1)) in
      let l = rank_low s m c h in
      let x = own (omega (arith, e, r)) in
      let y = opening_out t (n + counted_braces s) i (inl (omega (arith, e, r, l))) in
      let z = bounds_out t (m + braces s) c (inl k.1) in
      omega (arith, x, y, z)

  opening_second : HasBound t (m + braces s) c → (i ≡ n + counted_braces s + rank t (m + braces s) c → bound_opening t (n + counted_braces s) i ≡ bound_at t (m + braces s) c) → bound_opening s n i + bound_opening t (n + counted_braces s) i ≡ bound_at s m c + bound_at t (m + braces s) c
  opening_second h own =
      let k = bound_within t (m + braces s) c h in
      let r = rank_after s m c k.0 in
      let x = own (omega (arith, e, r)) in
      let y = opening_out s n i (inr (omega (arith, e, r))) in
      let z = bounds_out s m c (inr k.0) in
      omega (arith, x, y, z)

pub opening_of : (s : Tree) (n m c i : ℕ) → HasBound s m c → i ≡ n + rank s m c → bound_opening s n i ≡ bound_at s m c
opening_of (op a) n m c i h e = absurd h
opening_of (seq s t) n m c i (inl h) e = opening_first s t n m c i e h (opening_of s n m c i h)
opening_of (seq s t) n m c i (inr h) e = opening_second s t n m c i e h (opening_of t (n + counted_braces s) (m + braces s) c i h)
opening_of (alt s t) n m c i (inl h) e = opening_first s t n m c i e h (opening_of s n m c i h)
opening_of (alt s t) n m c i (inr h) e = opening_second s t n m c i e h (opening_of t (n + counted_braces s) (m + braces s) c i h)
opening_of (burst any s) n m c i (inl h) e = absurd h.0
opening_of (burst any s) n m c i (inr h) e =
    let k = bound_within s (m + 1) c h in
    let r = before_yes any m c (omega (arith, k.0)) in
    opening_of s n (m + 1) c i h (omega (arith, e, r)) ∙ sym (cond-false (c == m) 0 (bound_at s (m + 1) c) (ne_eqb c m (λ z. omega (arith, k.0, z))))
opening_of (burst (most b) s) n m c i (inl h) e =
    let r = before_no (most b) m c (omega (arith, h.1)) in
    let l = rank_before s (m + 1) c (omega (arith, h.1)) in
    cond-true (i == n) b (bound_opening s (n + 1) i) (eq-eqb i n (omega (arith, e, r, l))) ∙ sym (cond-true (c == m) b (bound_at s (m + 1) c) (eq-eqb c m h.1))
opening_of (burst (most b) s) n m c i (inr h) e =
    let k = bound_within s (m + 1) c h in
    let r = before_yes (most b) m c (omega (arith, k.0)) in
    cond-false (i == n) b (bound_opening s (n + 1) i) (ne_eqb i n (λ z. omega (arith, e, r, z)))
    ∙ opening_of s (n + 1) (m + 1) c i h (omega (arith, e, r))
    ∙ sym (cond-false (c == m) b (bound_at s (m + 1) c) (ne_eqb c m (λ z. omega (arith, k.0, z))))

-- a path without braces has no bounds
pub none_counted : (s : Tree) → NoBraces s → counted_braces s ≡ 0
none_counted (op a) n = refl
none_counted (seq s t) n = omega (arith, none_counted s n.0, none_counted t n.1)
none_counted (alt s t) n = omega (arith, none_counted s n.0, none_counted t n.1)
none_counted (burst bd s) n = absurd n
