-- The well-formed trees are those that pass the test.
use Rattle.std.proofs.Common.{◌≡◌, ◌==◌, ◌&&◌, not, Bool, true, false, refl, sym, ◌∙◌, subst, inl, inr, arith}
use Rattle.std.proofs.lemmas.Bool.{cases_lt, eqb-false, ne_eqb, and_parts, and_from, or_left, or_right, or_cases, not-true, false_from_ne_true}
use Rattle.path_model.specs.declared.ids.OpId.{OpId}
use Rattle.path_model.specs.Trees.{Bound, any, most, BoundAdmits, Tree, op, seq, alt, burst, Names, Apart, NoRepeats, NoBraces, NoNesting}
use Rattle.path_model.specs.TreeTests.{share, no_repeats, no_braces, has_room, no_nesting, WellFormedTreesPass}
use Rattle.path_model.proofs.Upward.{has_names, names_has}

true_false : (b : Bool) → b ≡ true → b ≡ false → ⊥
true_false b x y = let z : true ≡ false = sym x ∙ y in cc

not_from : (b : Bool) → b ≡ false → not b ≡ true
not_from b e = subst (λ x. not x ≡ true) (sym e) refl

share_both : (s t : Tree) (a : OpId) → Names s a → Names t a → share s t ≡ true
share_both (op b) t a k n = has_names t b (subst (Names t) k n)
share_both (seq l r) t a (inl k) n = or_left (share l t) (share r t) (share_both l t a k n)
share_both (seq l r) t a (inr k) n = or_right (share l t) (share r t) (share_both r t a k n)
share_both (alt l r) t a (inl k) n = or_left (share l t) (share r t) (share_both l t a k n)
share_both (alt l r) t a (inr k) n = or_right (share l t) (share r t) (share_both r t a k n)
share_both (burst bd s) t a k n = share_both s t a k n

shared : (s t : Tree) → share s t ≡ true → (a : OpId) × Names s a × Names t a
shared (op b) t e = (b, refl, names_has t b e)
shared (seq l r) t e = elim (or_cases (share l t) (share r t) e) [
  | inl x ↦ let y = shared l t x in (y.0, inl y.1, y.2)
  | inr x ↦ let y = shared r t x in (y.0, inr y.1, y.2)
]
shared (alt l r) t e = elim (or_cases (share l t) (share r t) e) [
  | inl x ↦ let y = shared l t x in (y.0, inl y.1, y.2)
  | inr x ↦ let y = shared r t x in (y.0, inr y.1, y.2)
]
shared (burst bd s) t e = shared s t e

apart_from : (s t : Tree) → not (share s t) ≡ true → Apart s t
apart_from s t e a k n = true_false (share s t) (share_both s t a k n) (not-true (share s t) e)

apart_to : (s t : Tree) → Apart s t → not (share s t) ≡ true
apart_to s t d = not_from (share s t) (false_from_ne_true (share s t) (λ e. let x = shared s t e in d x.0 x.1 x.2))

-- of a semicolon or a comma
both_from : (s t : Tree) → (no_repeats s ≡ true → NoRepeats s) → (no_repeats t ≡ true → NoRepeats t) → (no_repeats s && (no_repeats t && not (share s t))) ≡ true → NoRepeats s × NoRepeats t × Apart s t
both_from s t f g e =
    let x = and_parts (no_repeats s) (no_repeats t && not (share s t)) e in
    let y = and_parts (no_repeats t) (not (share s t)) x.1 in
    (f x.0, g y.0, apart_from s t y.1)

both_to : (s t : Tree) → no_repeats s ≡ true → no_repeats t ≡ true → Apart s t → (no_repeats s && (no_repeats t && not (share s t))) ≡ true
both_to s t x y d = and_from (no_repeats s) (no_repeats t && not (share s t)) x (and_from (no_repeats t) (not (share s t)) y (apart_to s t d))

repeats_from : (s : Tree) → no_repeats s ≡ true → NoRepeats s
repeats_from (op a) e = tt
repeats_from (seq l r) e = both_from l r (λ x. repeats_from l x) (λ x. repeats_from r x) e
repeats_from (alt l r) e = both_from l r (λ x. repeats_from l x) (λ x. repeats_from r x) e
repeats_from (burst bd s) e = repeats_from s e

repeats_to : (s : Tree) → NoRepeats s → no_repeats s ≡ true
repeats_to (op a) n = refl
repeats_to (seq l r) n = both_to l r (repeats_to l n.0) (repeats_to r n.1) n.2
repeats_to (alt l r) n = both_to l r (repeats_to l n.0) (repeats_to r n.1) n.2
repeats_to (burst bd s) n = repeats_to s n

braces_from : (s : Tree) → no_braces s ≡ true → NoBraces s
braces_from (op a) e = tt
braces_from (seq l r) e = let x = and_parts (no_braces l) (no_braces r) e in (braces_from l x.0, braces_from r x.1)
braces_from (alt l r) e = let x = and_parts (no_braces l) (no_braces r) e in (braces_from l x.0, braces_from r x.1)
braces_from (burst bd s) e = cc

braces_to : (s : Tree) → NoBraces s → no_braces s ≡ true
braces_to (op a) n = refl
braces_to (seq l r) n = and_from (no_braces l) (no_braces r) (braces_to l n.0) (braces_to r n.1)
braces_to (alt l r) n = and_from (no_braces l) (no_braces r) (braces_to l n.0) (braces_to r n.1)
braces_to (burst bd s) n = absurd n

room_from : (bd : Bound) → has_room bd ≡ true → BoundAdmits bd 0
room_from any e = tt
room_from (most n) e = let x = eqb-false n 0 (not-true (n == 0) e) in elim (cases_lt 0 n) [ inl l ↦ l | inr l ↦ absurd (x (omega (arith, l))) ]

room_to : (bd : Bound) → BoundAdmits bd 0 → has_room bd ≡ true
room_to any r = refl
room_to (most n) r = not_from (n == 0) (ne_eqb n 0 (λ e. omega (arith, e, r)))

nesting_from : (s : Tree) → no_nesting s ≡ true → NoNesting s
nesting_from (op a) e = tt
nesting_from (seq l r) e = let x = and_parts (no_nesting l) (no_nesting r) e in (nesting_from l x.0, nesting_from r x.1)
nesting_from (alt l r) e = let x = and_parts (no_nesting l) (no_nesting r) e in (nesting_from l x.0, nesting_from r x.1)
nesting_from (burst bd s) e = let x = and_parts (no_braces s) (has_room bd) e in (braces_from s x.0, room_from bd x.1)

nesting_to : (s : Tree) → NoNesting s → no_nesting s ≡ true
nesting_to (op a) n = refl
nesting_to (seq l r) n = and_from (no_nesting l) (no_nesting r) (nesting_to l n.0) (nesting_to r n.1)
nesting_to (alt l r) n = and_from (no_nesting l) (no_nesting r) (nesting_to l n.0) (nesting_to r n.1)
nesting_to (burst bd s) n = and_from (no_braces s) (has_room bd) (braces_to s n.0) (room_to bd n.1)

pub well_formed_trees_pass : WellFormedTreesPass
well_formed_trees_pass s = (
  (λ e. let x = and_parts (no_repeats s) (no_nesting s) e in record { names_once = repeats_from s x.0; not_nested = nesting_from s x.1 }),
  (λ w. and_from (no_repeats s) (no_nesting s) (repeats_to s w.names_once) (nesting_to s w.not_nested)),
)
