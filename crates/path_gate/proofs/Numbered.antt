-- Places and numbers behind earlier lines.
use Rattle.std.proofs.Common.{◌≡◌, ◌≤◌, ◌+◌, ℕ, Bool, true, false, List, [], ◌∷◌, ◌++◌, length, refl, sym, ap, ◌∙◌, subst, arith}
use Rattle.std.specs.Prelude.{◌||◌, ◌&&◌, not, nat_le}
use Rattle.std.proofs.lemmas.Bool.Decides.{nat_tests}
use Rattle.path_model.specs.declared.journal.Attempt.{Attempt}
use Rattle.path_model.specs.declared.journal.Attempt.TheVariants.{Start, Apply, Finish}
use Rattle.path_model.specs.declared.journal.Reply.{Reply}
use Rattle.path_model.specs.declared.journal.Reply.TheVariants.{NoRoom}
use Rattle.path_model.specs.declared.journal.Line.{Line}
use Rattle.path_model.specs.declared.journal.Activation.{Activation}
use Rattle.path_model.specs.Declarations.{Declaration}
use Rattle.path_model.specs.Journals.{begun_in}
use Rattle.path_model.specs.Owed.{OwedToStart, Owed}
use Rattle.path_model.specs.Rooms.{IsRoom}
use Rattle.path_model.specs.Segments.{room_behind, has_no_number, OwedUnless, OwedBehind}
use Rattle.path_model.proofs.CallerLemmas.{begun_lines}
use Rattle.path_model.specs.Places.{has_room, wanted_places, has_place, lacks_number}

-- what is taken has room
pub both_left : (a b : Bool) → (a && b) ≡ true → a ≡ true
both_left true b e = refl
both_left false b e = e

-- what isn't taken, although there is a number, lacks room; without a number nothing is taken
pub left_fails : (a b : Bool) → (a && not b) ≡ false → b ≡ false → a ≡ false
left_fails true true e f = f
left_fails true false e f = e
left_fails false b e f = refl

pub right_fails : (a b : Bool) → b ≡ true → (a && not b) ≡ false
right_fails true b e = ap not e
right_fails false b e = refl

-- as much more room as there are more lines is the same room
shifted : (taken room k : ℕ) → nat_le (taken + k) (room + k) ≡ nat_le taken room
shifted taken room k = grind (arith, nat_tests)

pub same_room : (room lines k : ℕ) (activations : List Activation) (w : ℕ) (attempt : Attempt) → has_room (room + k) (lines + k) activations w attempt ≡ has_room room lines activations w attempt
same_room room lines k activations w attempt =
    let n : ℕ = length activations in
    let p : ℕ = wanted_places attempt in
    let same : lines + k + n + p ≡ lines + n + p + k = omega arith in
    ap (λ t. nat_le t (room + k) || has_place activations w attempt) same ∙ ap (λ b. b || has_place activations w attempt) (shifted (lines + n + p) room k)

module _ (d : Declaration) (room : ℕ) (openings : List (List ℕ)) (good : IsRoom room) (w begun : ℕ) (reply : Reply) where
  -- where a start lacks a number, and there are no earlier lines, there is no room either
  full : (ls : List Line) (attempt : Attempt) → begun ≡ begun_in ls → lacks_number begun attempt ≡ true → reply ≡ NoRoom → Owed d room openings ls w attempt reply
  full ls (Start a) counted lacks is =
      let k : 4294967295 ≤ begun = grind (arith, nat_tests) in
      let l = begun_lines ls in
      let m = good.1 in
      rw is (OwedToStart.no_room (omega (arith, k, l, m, counted)))
  full ls (Apply n verb) counted lacks is = absurd (cc)
  full ls (Finish n) counted lacks is = absurd (cc)

  -- without a number NoRoom is owed
  pub owed_without_number : (earlier ls : List Line) (attempt : Attempt) → begun ≡ begun_in (earlier ++ ls) → lacks_number begun attempt ≡ true → reply ≡ NoRoom
      → OwedBehind d room openings earlier ls w attempt reply
  owed_without_number [] ls attempt counted lacks is = full ls attempt counted lacks is
  owed_without_number (l ∷ earlier) ls (Start a) counted lacks is =
      let same : has_no_number (l ∷ earlier) ls (Start a) ≡ true = ap (λ n. nat_le 4294967295 n) (sym counted) ∙ lacks in
      subst (λ b. OwedUnless b (Owed d (room_behind (l ∷ earlier) room) openings ((l ∷ earlier) ++ ls) w (Start a) reply) reply) (sym same) is
  owed_without_number (l ∷ earlier) ls (Apply n verb) counted lacks is = absurd (cc)
  owed_without_number (l ∷ earlier) ls (Finish n) counted lacks is = absurd (cc)

  having : (earlier ls : List Line) (attempt : Attempt) → begun ≡ begun_in (earlier ++ ls) → lacks_number begun attempt ≡ false → has_no_number earlier ls attempt ≡ false
  having [] ls attempt counted has = refl
  having (l ∷ earlier) ls (Start a) counted has = ap (λ n. nat_le 4294967295 n) (sym counted) ∙ has
  having (l ∷ earlier) ls (Apply n verb) counted has = refl
  having (l ∷ earlier) ls (Finish n) counted has = refl

  -- with one, what all lines owe in the whole room
  pub owed_with_number : (earlier ls : List Line) (attempt : Attempt) → begun ≡ begun_in (earlier ++ ls) → lacks_number begun attempt ≡ false
      → Owed d (room_behind earlier room) openings (earlier ++ ls) w attempt reply → OwedBehind d room openings earlier ls w attempt reply
  owed_with_number earlier ls attempt counted has owed =
      subst (λ b. OwedUnless b (Owed d (room_behind earlier room) openings (earlier ++ ls) w attempt reply) reply) (sym (having earlier ls attempt counted has)) owed
