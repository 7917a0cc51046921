-- The operation and the path at an index, and what follows them.
use Rattle.std.proofs.Common.{◌≡◌, ℕ, zero, suc, ◌+◌, ◌<◌, ◌≤◌, ◌==◌, Bool, true, false, List, [], ◌∷◌, ◌++◌, length, drop, nat_lt, Option, Some, None, slice_get, option_map, unwrap_or, refl, sym, ap, ◌∙◌, subst, arith, add-one, append_assoc, append-nil, inl, inr, if◌then◌else◌}
use Rattle.std.proofs.Math.Seq.{drop-nil}
use Rattle.std.proofs.lemmas.List.{drop_all}
use Rattle.std.proofs.lemmas.Bool.{lt-ltb, le-ltb, ltb-true, ltb-false, cases_Bool}
use Rattle.path_model.specs.Trees.{Tree}
use Rattle.path_model.specs.Declarations.{Resource, Operation, Path}
use Rattle.path_lex.specs.Spelling.{Piece}
use Rattle.path_print.specs.Printed.{spaced, resource_pieces, names_pieces, more_names, paths_pieces, path_pieces}
use Rattle.path_print.proofs.PrintedBytes.{spaced-append}
use Rattle.path_print.specs.Inner.PrintedSteps.{here, after, names_here, operations_after, trees_here, paths_after}

some_is : {X : Type 0} {m n : X} → Some m ≡ Some n → m ≡ n
some_is e = cc

-- what an option shows where it is known
pub shown_or : {A B : Type 0} (v : A → B) (o : Option A) (d : A) (y : B) → option_map v o ≡ Some y → v (unwrap_or o d) ≡ y
shown_or v None d y e = absurd (cc)
shown_or v (Some x) d y e = some_is e

-- the list from i on, where x stands at i
pub from_at : {X : Type 0} (xs : List X) (i : ℕ) (x : X) → slice_get xs i ≡ Some x → drop i xs ≡ x ∷ drop (i + 1) xs
from_at [] i x e = absurd (cc)
from_at (y ∷ xs) zero x e = ap (λ z. z ∷ xs) (some_is e)
from_at (y ∷ xs) (suc i) x e = rw (add-one (suc i)) (from_at xs i x e ∙ ap (λ j. x ∷ drop j xs) (add-one i))

-- one more of a resource at the front
pub record Steps {X Y : Type 0} (r : X → ℕ) (v : X → Y) (k : ℕ) (xs rest : List X) (y : Y) : Type 0 where
  pub shown : here r v k xs ≡ y ∷ here r v k rest
  pub left : after r k xs ≡ after r k rest

-- nothing of a resource at the front
pub record Stops {X Y : Type 0} (r : X → ℕ) (v : X → Y) (k : ℕ) (xs : List X) : Type 0 where
  pub shown : here r v k xs ≡ []
  pub left : after r k xs ≡ xs

by_test : {X Y : Type 0} (b : Bool) (y z : Y) (ys : List Y) (ls ms : List X) → Some y ≡ slice_get (if b then z ∷ ys else []) 0 → ((if b then z ∷ ys else []) ≡ y ∷ ys) × ((if b then ls else ms) ≡ ls)
by_test true y z ys ls ms e = (cc, refl)
by_test false y z ys ls ms e = absurd (cc)

by_none : {X Y : Type 0} (b : Bool) (z : Y) (ys : List Y) (ls ms : List X) → None ≡ slice_get (if b then z ∷ ys else []) 0 → ((if b then z ∷ ys else []) ≡ []) × ((if b then ls else ms) ≡ ms)
by_none true z ys ls ms e = absurd (cc)
by_none false z ys ls ms e = (refl, refl)

stepped : {X Y : Type 0} (r : X → ℕ) (v : X → Y) (k : ℕ) (xs : List X) (i : ℕ) (y : Y) → Some y ≡ slice_get (here r v k (drop i xs)) 0 → Steps r v k (drop i xs) (drop (suc i) xs) y
stepped r v k [] i y e = let f : slice_get (here r v k (drop i [])) 0 ≡ None = ap (λ l. slice_get (here r v k l) 0) (drop-nil i) in absurd (cc)
stepped r v k (x ∷ xs) zero y e = let t = by_test (r x == k) y (v x) (here r v k xs) (after r k xs) (x ∷ xs) e in record { shown = t.0; left = t.1 }
stepped r v k (x ∷ xs) (suc i) y e = stepped r v k xs i y e

pub steps_at : {X Y : Type 0} (r : X → ℕ) (v : X → Y) (k : ℕ) (xs : List X) (i : ℕ) (y : Y) → Some y ≡ slice_get (here r v k (drop i xs)) 0 → Steps r v k (drop i xs) (drop (i + 1) xs) y
steps_at r v k xs i y e = rw (add-one i) (stepped r v k xs i y e)

pub stops_at : {X Y : Type 0} (r : X → ℕ) (v : X → Y) (k : ℕ) (xs : List X) → None ≡ slice_get (here r v k xs) 0 → Stops r v k xs
stops_at r v k [] e = record { shown = refl; left = refl }
stops_at r v k (x ∷ xs) e = let t = by_none (r x == k) (v x) (here r v k xs) (after r k xs) (x ∷ xs) e in record { shown = t.0; left = t.1 }

-- what a look at an index says
test_true : {Y : Type 0} (b : Bool) (z : Y) (ys : List Y) → b ≡ true → Some z ≡ slice_get (if b then z ∷ ys else []) 0
test_true true z ys e = refl
test_true false z ys e = absurd (cc)

test_false : {Y : Type 0} (b : Bool) (z : Y) (ys : List Y) → b ≡ false → None ≡ slice_get (if b then z ∷ ys else []) 0
test_false true z ys e = absurd (cc)
test_false false z ys e = refl

pub seen_at : {X Y : Type 0} (r : X → ℕ) (v : X → Y) (k m : ℕ) (xs : List X) (i : ℕ) → Some m ≡ option_map r (slice_get xs i) → (m == k) ≡ true → option_map v (slice_get xs i) ≡ slice_get (here r v k (drop i xs)) 0
seen_at r v k m [] i e t = absurd (cc)
seen_at r v k m (x ∷ xs) zero e t = test_true (r x == k) (v x) (here r v k xs) (subst (λ n. (n == k) ≡ true) (some_is e) t)
seen_at r v k m (x ∷ xs) (suc i) e t = seen_at r v k m xs i e t

pub unseen_at : {X Y : Type 0} (r : X → ℕ) (v : X → Y) (k m : ℕ) (xs : List X) (i : ℕ) → Some m ≡ option_map r (slice_get xs i) → (m == k) ≡ false → None ≡ slice_get (here r v k (drop i xs)) 0
unseen_at r v k m [] i e t = absurd (cc)
unseen_at r v k m (x ∷ xs) zero e t = test_false (r x == k) (v x) (here r v k xs) (subst (λ n. (n == k) ≡ false) (some_is e) t)
unseen_at r v k m (x ∷ xs) (suc i) e t = unseen_at r v k m xs i e t

pub past_at : {X Y : Type 0} (r : X → ℕ) (v : X → Y) (k : ℕ) (xs : List X) (i : ℕ) → None ≡ option_map r (slice_get xs i) → None ≡ slice_get (here r v k (drop i xs)) 0
past_at r v k [] i e = rw (drop-nil i) refl
past_at r v k (x ∷ xs) zero e = absurd (cc)
past_at r v k (x ∷ xs) (suc i) e = past_at r v k xs i e

-- names that follow another, or the first one of them
abbrev pub names_from : Bool → List (List ℕ) → List Piece
names_from true ns = more_names ns
names_from false ns = names_pieces ns

names_end : (b : Bool) → spaced (names_from b []) ≡ []
names_end true = refl
names_end false = refl

-- the names before i are printed: what is left of them makes the text whole
pub record Named (before out : List ℕ) (k : ℕ) (os : List Operation) (first i : ℕ) : Type 0 where
  pub reached : first ≤ i
  pub text : out ++ spaced (names_from (nat_lt first i) (names_here k (drop i os))) ≡ before ++ spaced (names_pieces (names_here k (drop first os)))
  pub left : operations_after k (drop i os) ≡ operations_after k (drop first os)

-- the paths before i are printed
pub record Pathed (before out : List ℕ) (k : ℕ) (os : List Operation) (ps : List Path) (first i : ℕ) : Type 0 where
  pub reached : first ≤ i
  pub text : out ++ spaced (paths_pieces os (trees_here k (drop i ps))) ≡ before ++ spaced (paths_pieces os (trees_here k (drop first ps)))
  pub left : paths_after k (drop i ps) ≡ paths_after k (drop first ps)

pub named_end : (before out : List ℕ) (k : ℕ) (os : List Operation) (first i : ℕ) → Named before out k os first i → None ≡ slice_get (names_here k (drop i os)) 0 →
    (out ≡ before ++ spaced (names_pieces (names_here k (drop first os)))) × (drop i os ≡ operations_after k (drop first os))
named_end before out k os first i n e =
    let s = stops_at (λ o. o.resource) (λ o. o.name) k (drop i os) e in
    let f : spaced (names_from (nat_lt first i) (names_here k (drop i os))) ≡ [] = ap (λ l. spaced (names_from (nat_lt first i) l)) s.shown ∙ names_end (nat_lt first i) in
    (sym (append-nil out) ∙ ap (λ l. out ++ l) (sym f) ∙ n.text, sym s.left ∙ n.left)

pub none_past : {X Y : Type 0} (r : X → ℕ) (v : X → Y) (k : ℕ) (xs : List X) (i : ℕ) → length xs ≤ i → None ≡ slice_get (here r v k (drop i xs)) 0
none_past r v k xs i h = rw (drop_all i xs h) refl

pub named_first : (before : List ℕ) (k : ℕ) (os : List Operation) (first : ℕ) → Named before before k os first first
named_first before k os first = record { reached = omega arith; text = rw (le-ltb first first (omega arith)) refl; left = refl }

-- the first name, and each later one after a comma
named_one : (before out next name : List ℕ) (k : ℕ) (os : List Operation) (first i : ℕ) → Named before out k os first i → Some name ≡ slice_get (names_here k (drop i os)) 0 → i ≤ first →
    next ≡ out ++ 32 ∷ name → Named before next k os first (i + 1)
named_one before out next name k os first i n e h is =
    let s = steps_at (λ o. o.resource) (λ o. o.name) k os i name e in
    let less : nat_lt first i ≡ false = le-ltb first i h in
    let more : nat_lt first (i + 1) ≡ true = let r : first ≤ i = n.reached in lt-ltb first (i + 1) (omega arith) in
    let was : spaced (names_from (nat_lt first i) (names_here k (drop i os))) ≡ (32 ∷ name) ++ spaced (more_names (names_here k (drop (i + 1) os))) = rw (less, s.shown) refl in
    record {
      reached = let r : first ≤ i = n.reached in omega arith;
      text = rw (is, more, append_assoc) (ap (λ l. out ++ l) (sym was) ∙ n.text);
      left = sym s.left ∙ n.left;
    }

named_more : (before out next name : List ℕ) (k : ℕ) (os : List Operation) (first i : ℕ) → Named before out k os first i → Some name ≡ slice_get (names_here k (drop i os)) 0 → first < i →
    next ≡ (out ++ 44 ∷ []) ++ 32 ∷ name → Named before next k os first (i + 1)
named_more before out next name k os first i n e h is =
    let s = steps_at (λ o. o.resource) (λ o. o.name) k os i name e in
    let less : nat_lt first i ≡ true = lt-ltb first i h in
    let more : nat_lt first (i + 1) ≡ true = lt-ltb first (i + 1) (omega arith) in
    let was : spaced (names_from (nat_lt first i) (names_here k (drop i os))) ≡ 44 ∷ ((32 ∷ name) ++ spaced (more_names (names_here k (drop (i + 1) os)))) = rw (less, s.shown) refl in
    record {
      reached = omega arith;
      text = rw (is, more) (simp append_assoc (ap (λ l. out ++ l) (sym was) ∙ n.text));
      left = sym s.left ∙ n.left;
    }

pub named_next : (before out next name : List ℕ) (k : ℕ) (os : List Operation) (first i : ℕ) → Named before out k os first i → Some name ≡ slice_get (names_here k (drop i os)) 0 →
    next ≡ (out ++ (if nat_lt first i then 44 ∷ [] else [])) ++ 32 ∷ name → Named before next k os first (i + 1)
named_next before out next name k os first i n e is = elim (cases_Bool (nat_lt first i)) [
  | inl t ↦ named_more before out next name k os first i n e (ltb-true first i t) (is ∙ ap (λ b. (out ++ (if b then 44 ∷ [] else [])) ++ 32 ∷ name) t)
  | inr t ↦ named_one before out next name k os first i n e (ltb-false first i t) (is ∙ ap (λ b. (out ++ (if b then 44 ∷ [] else [])) ++ 32 ∷ name) t ∙ ap (λ l. l ++ 32 ∷ name) (append-nil out))
]

pub pathed_end : (before out : List ℕ) (k : ℕ) (os : List Operation) (ps : List Path) (first i : ℕ) → Pathed before out k os ps first i → None ≡ slice_get (trees_here k (drop i ps)) 0 →
    (out ≡ before ++ spaced (paths_pieces os (trees_here k (drop first ps)))) × (drop i ps ≡ paths_after k (drop first ps))
pathed_end before out k os ps first i n e =
    let s = stops_at (λ p. p.resource) (λ p. p.tree) k (drop i ps) e in
    let f : spaced (paths_pieces os (trees_here k (drop i ps))) ≡ [] = ap (λ l. spaced (paths_pieces os l)) s.shown in
    (sym (append-nil out) ∙ ap (λ l. out ++ l) (sym f) ∙ n.text, sym s.left ∙ n.left)

pub pathed_first : (before : List ℕ) (k : ℕ) (os : List Operation) (ps : List Path) (first : ℕ) → Pathed before before k os ps first first
pathed_first before k os ps first = record { reached = omega arith; text = refl; left = refl }

pub pathed_more : (before out next : List ℕ) (tree : Tree) (k : ℕ) (os : List Operation) (ps : List Path) (first i : ℕ) → Pathed before out k os ps first i → Some tree ≡ slice_get (trees_here k (drop i ps)) 0 →
    next ≡ out ++ spaced (path_pieces os tree) → Pathed before next k os ps first (i + 1)
pathed_more before out next tree k os ps first i n e is =
    let s = steps_at (λ p. p.resource) (λ p. p.tree) k ps i tree e in
    let was : spaced (paths_pieces os (trees_here k (drop i ps))) ≡ spaced (path_pieces os tree) ++ spaced (paths_pieces os (trees_here k (drop (i + 1) ps))) = rw s.shown (spaced-append (path_pieces os tree) (paths_pieces os (trees_here k (drop (i + 1) ps)))) in
    record {
      reached = let r : first ≤ i = n.reached in omega arith;
      text = rw (is, append_assoc) (ap (λ l. out ++ l) (sym was) ∙ n.text);
      left = sym s.left ∙ n.left;
    }

-- the tokens of resources, of which the first is k, whose operations and paths begin these lists
unfoldable pub walked : List Operation → ℕ → List Resource → List Operation → List Path → List Piece
walked all k [] os ps = []
walked all k (r ∷ rs) os ps = resource_pieces all r (names_here k os) (trees_here k ps) ++ walked all (k + 1) rs (operations_after k os) (paths_after k ps)
