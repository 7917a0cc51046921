-- Which paths are in the lists of operations.
use Rattle.std.proofs.Common.{◌≡◌, ℕ, zero, suc, ◌+◌, ◌<◌, ◌≤◌, Bool, true, false, Option, Some, None, List, [], ◌∷◌, ◌++◌, length, get_or, map, filter, refl, sym, ap, ◌∙◌, append_assoc, arith, slice_get, option_map, replicate, Vec, set, take, ◌||◌, eq-eqb, ne_eqb, ◌⊎◌, inl, inr}
use Rattle.std.proofs.lemmas.List.{append-nil, map_push, map-append, replicate-append-replicate, length-map, take_more}
use Rattle.std.proofs.lemmas.List.Elements.{filter-append}
use Rattle.std.proofs.Common.{length-take}
use Rattle.std.proofs.lemmas.Option.{slice_get-get_or, slice_get_past}
use Rattle.std.proofs.lemmas.Bool.{cases_order}
use Rattle.path_model.specs.declared.ids.OpId.{OpId}
use Rattle.path_model.specs.declared.ids.PathId.{PathId}
use Rattle.path_model.specs.Trees.{Tree, op, seq, alt, burst, has, NoRepeats}
use Rattle.path_model.specs.Legal.{numbered}
use Rattle.path_model.proofs.CallerLemmas.{names_has}
use Rattle.path_decl.specs.Table.{noted, times, naming_from}

set_other : {X : Type 0} (xs : List X) (i j : ℕ) (x : X) → (j ≡ i → ⊥) → slice_get (set xs i x) j ≡ slice_get xs j
set_other [] i j x ne = refl
set_other (y ∷ ys) zero zero x ne = absurd (ne refl)
set_other (y ∷ ys) zero (suc j) x ne = refl
set_other (y ∷ ys) (suc i) zero x ne = refl
set_other (y ∷ ys) (suc i) (suc j) x ne = set_other ys i j x (λ e. ne (ap suc e))

set_same : {X : Type 0} (xs : List X) (i : ℕ) (x : X) → i < length xs → slice_get (set xs i x) i ≡ Some x
set_same [] i x lt = absurd (omega arith)
set_same (y ∷ ys) zero x lt = refl
set_same (y ∷ ys) (suc i) x lt = set_same ys i x (omega arith)

once_at : (b a : ℕ) → a ≡ b → times (op (record { 0 = b })) (record { 0 = a }) ≡ 1
once_at b a e = let t = eq-eqb a b e in rw t refl

never_at : (b a : ℕ) → (a ≡ b → ⊥) → times (op (record { 0 = b })) (record { 0 = a }) ≡ 0
never_at b a ne = let t = ne_eqb a b ne in rw t refl

-- the list with this many more at its end
abbrev pub more : ℕ → PathId → List PathId → List PathId
more n p ps = ps ++ replicate n p

none_more : (n : ℕ) (p : PathId) (o : Option (List PathId)) → n ≡ 0 → o ≡ option_map (more n p) o
none_more n p None e = refl
none_more n p (Some ps) e = ap Some (sym (ap (λ k. ps ++ replicate k p) e ∙ append-nil ps))

pub note_push : {Y : Type 0} (vs : List (Vec PathId Y)) (b a : ℕ) (v w : Vec PathId Y) (p : PathId) → b < length vs → v ≡ get_or vs b v → w.items ≡ v.items ++ p ∷ []
    → noted (set vs b w) a ≡ option_map (more (times (op (record { 0 = b })) (record { 0 = a })) p) (noted vs a)
note_push vs b a v w p lt is e =
    let other : (a ≡ b → ⊥) → noted (set vs b w) a ≡ option_map (more (times (op (record { 0 = b })) (record { 0 = a })) p) (noted vs a) =
    λ ne. ap (option_map (λ x. x.items)) (set_other vs b a w ne) ∙ none_more (times (op (record { 0 = b })) (record { 0 = a })) p (noted vs a) (never_at b a ne) in
    elim (cases_order a b) [
      | inl same ↦
          let here : slice_get vs b ≡ Some v = slice_get-get_or vs b v lt ∙ ap Some (sym is) in
          ap (noted (set vs b w)) same ∙ ap (option_map (λ x. x.items)) (set_same vs b w lt) ∙ ap Some e
          ∙ ap (λ n. Some (more n p v.items)) (sym (once_at b a same))
          ∙ ap (option_map (more (times (op (record { 0 = b })) (record { 0 = a })) p)) (ap (option_map (λ x. x.items)) (sym here) ∙ ap (noted vs) (sym same))
      | inr o ↦ elim o [
        | inl less ↦ other (λ q. absurd (omega arith))
        | inr above ↦ other (λ q. absurd (omega arith))
      ]
    ]

pub note_past : {Y : Type 0} (vs : List (Vec PathId Y)) (b a : ℕ) (p : PathId) → length vs ≤ b → noted vs a ≡ option_map (more (times (op (record { 0 = b })) (record { 0 = a })) p) (noted vs a)
note_past vs b a p le =
    elim (cases_order a b) [
      | inl same ↦
          let gone : noted vs a ≡ None = ap (option_map (λ x. x.items)) (slice_get_past vs a (omega arith)) in
          gone ∙ ap (option_map (more (times (op (record { 0 = b })) (record { 0 = a })) p)) (sym gone)
      | inr o ↦ none_more (times (op (record { 0 = b })) (record { 0 = a })) p (noted vs a) (never_at b a (λ q. elim o [ inl less ↦ omega arith | inr above ↦ omega arith ]))
    ]

more_more : (m n : ℕ) (p : PathId) (o : Option (List PathId)) → option_map (more n p) (option_map (more m p) o) ≡ option_map (more (m + n) p) o
more_more m n p None = refl
more_more m n p (Some ps) = ap Some (append_assoc ps (replicate m p) (replicate n p) ∙ ap (λ x. ps ++ x) (replicate-append-replicate m n p))

pub note_both : (m n : ℕ) (p : PathId) (a b c : Option (List PathId)) → b ≡ option_map (more m p) a → c ≡ option_map (more n p) b → c ≡ option_map (more (m + n) p) a
note_both m n p a b c e f = f ∙ ap (option_map (more n p)) e ∙ more_more m n p a

-- as many empty lists
pub empty_more : {Y : Type 0} (vs : List (Vec PathId Y)) (v : Vec PathId Y) (n : ℕ) → length vs ≡ n → v.items ≡ [] → ((a : ℕ) → a < n → noted vs a ≡ Some []) → (a : ℕ) → a < n + 1 → noted (vs ++ v ∷ []) a ≡ Some []
empty_more [] v n len e all zero lt = ap Some e
empty_more [] v n len e all (suc a) lt = absurd (omega arith)
empty_more (x ∷ vs) v n len e all zero lt = all 0 (omega arith)
empty_more (x ∷ vs) v n len e all (suc a) lt = empty_more vs v (length vs) refl e (λ b l. all (suc b) (omega arith)) a (omega arith)

-- without repeats an operation stands in a tree once or never
abbrev Counted : Tree → OpId → Type 0
Counted t a = ((has t a ≡ true) × (times t a ≡ 1)) ⊎ ((has t a ≡ false) × (times t a ≡ 0))

both_counted : (s t : Tree) (a : OpId) → (has s a ≡ true → has t a ≡ true → ⊥) → Counted s a → Counted t a → ((has s a || has t a) ≡ true) × (times s a + times t a ≡ 1) ⊎ ((has s a || has t a) ≡ false) × (times s a + times t a ≡ 0)
both_counted s t a apart (inl x) (inl y) = absurd (apart x.0 y.0)
both_counted s t a apart (inl x) (inr y) = let e = x.0 in inl (rw e refl, omega (arith, x.1, y.1))
both_counted s t a apart (inr x) (inl y) = let e = x.0 in inl (rw e y.0, omega (arith, x.1, y.1))
both_counted s t a apart (inr x) (inr y) = let e = x.0 in inr (rw e y.0, omega (arith, x.1, y.1))

one_counted : (b a : OpId) (t : Bool) → has (op b) a ≡ t → Counted (op b) a
one_counted b a true e = inl (e, rw e refl)
one_counted b a false e = inr (e, rw e refl)

counted : (t : Tree) (a : OpId) → NoRepeats t → Counted t a
counted (op b) a n = one_counted b a (has (op b) a) refl
counted (seq s t) a n = both_counted s t a (λ x y. n.2 a (names_has s a x) (names_has t a y)) (counted s a n.0) (counted t a n.1)
counted (alt s t) a n = both_counted s t a (λ x y. n.2 a (names_has s a x) (names_has t a y)) (counted s a n.0) (counted t a n.1)
counted (burst bd s) a n = counted s a n

numbered-push : (n : ℕ) (ts : List Tree) (t : Tree) → numbered n (ts ++ t ∷ []) ≡ numbered n ts ++ (n + length ts, t) ∷ []
numbered-push n [] t = ap (λ (k : ℕ). (k, t) ∷ []) (omega arith)
numbered-push n (s ∷ ts) t = ap (λ x. (n, s) ∷ x) (numbered-push (n + 1) ts t ∙ ap (λ (k : ℕ). numbered (n + 1) ts ++ (k, t) ∷ []) (omega arith))

-- a path's number
abbrev numbered_path : ℕ × Tree → PathId
numbered_path p = record { 0 = p.0 }

kept_one : (k n : ℕ) (t : Tree) (a : OpId) → n ≡ k → Counted t a → map numbered_path (filter (λ p. has p.1 a) ((n, t) ∷ [])) ≡ replicate (times t a) (record { 0 = k })
kept_one k n t a e (inl x) = let h = x.0 in let c = x.1 in rw (h, c) (ap (λ (i : ℕ). record { 0 = i } ∷ []) e)
kept_one k n t a e (inr x) = let h = x.0 in let c = x.1 in rw (h, c) refl

naming-push : (ts : List Tree) (t : Tree) (a : OpId) → NoRepeats t → naming_from 0 (ts ++ t ∷ []) a ≡ more (times t a) (record { 0 = length ts }) (naming_from 0 ts a)
naming-push ts t a n =
    let f : ℕ × Tree → PathId = numbered_path in
    let q : ℕ × Tree → Bool = λ (p : ℕ × Tree). has p.1 a in
    ap (λ x. map f (filter q x)) (numbered-push 0 ts t)
    ∙ ap (map f) (filter-append q (numbered 0 ts) ((0 + length ts, t) ∷ []))
    ∙ map-append f (filter q (numbered 0 ts)) (filter q ((0 + length ts, t) ∷ []))
    ∙ ap (λ x. naming_from 0 ts a ++ x) (kept_one (length ts) (0 + length ts) t a (omega arith) (counted t a n))

-- one path more
pub named_more : {X : Type 0} (f : X → Tree) (xs : List X) (i : ℕ) (x : X) (a : OpId) (b c : Option (List PathId)) → i < length xs → x ≡ get_or xs i x → NoRepeats (f x) → b ≡ Some (naming_from 0 (map f (take i xs)) a) → c ≡ option_map (more (times (f x) a) (record { 0 = i })) b
    → c ≡ Some (naming_from 0 (map f (take (i + 1) xs)) a)
named_more f xs i x a b c lt is n e g =
    let so_far : List Tree = map f (take i xs) in
    let len : length so_far ≡ i = simp (length-map, length-take) (omega arith) in
    let one : map f (take (i + 1) xs) ≡ so_far ++ f x ∷ [] = ap (map f) (take_more xs i x lt) ∙ map_push f (take i xs) (get_or xs i x) ∙ ap (λ y. so_far ++ f y ∷ []) (sym is) in
    g ∙ ap (option_map (more (times (f x) a) (record { 0 = i }))) e
    ∙ ap (λ (k : ℕ). Some (more (times (f x) a) (record { 0 = k }) (naming_from 0 so_far a))) (sym len)
    ∙ ap Some (sym (naming-push so_far (f x) a n))
    ∙ ap (λ y. Some (naming_from 0 y a)) (sym one)

pub not_below : (m n : ℕ) → (m < n → ⊥) → n ≤ m
not_below m n f = elim (cases_order m n) [
  | inl e ↦ omega arith
  | inr o ↦ elim o [ inl lt ↦ absurd (f lt) | inr gt ↦ omega arith ]
]
