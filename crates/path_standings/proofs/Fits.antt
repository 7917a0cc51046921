-- What a walk over a tree finds.
use Rattle.std.proofs.Common.{◌≡◌, ◌+◌, ◌*◌, ◌^◌, ◌<◌, ◌≤◌, ℕ, Bool, true, false, List, length, get_or, All, arith, refl, sym, ◌∙◌, inl, inr, length-append}
use Rattle.std.specs.Prelude.{nat_le, IsTrue, ◌↔◌}
use Rattle.std.proofs.lemmas.Bool.{and_parts, and_from, leb-true, le-leb, cases_lt}
use Rattle.std.proofs.lemmas.List.{get_or_past}
use Rattle.std.proofs.lemmas.List.Elements.{All-get_or}
use Rattle.path_model.specs.declared.ids.OpId.{OpId}
use Rattle.path_model.specs.Trees.{Tree, op, seq, alt, burst, any, most}
use Rattle.path_model.specs.Machine.{semicolons, braces}
use Rattle.path_model.specs.Flat.{counted_braces}
use Rattle.path_decl.specs.Lawful.{names_count}
use Rattle.path_state.specs.Pasts.{underway, BoundsFit, in_all, names_in}
use Rattle.path_standings.specs.Numbers.{bounds_fit, spares, tallies}

pub true_false : true ≡ false → ⊥
true_false z = cc

module _ (progress : OpId → ℕ) (row : List ℕ) where
  pub fits_true : (t : Tree) (place : ℕ) → bounds_fit t place progress row ≡ true → BoundsFit t place progress row
  fits_true (op a) place e = tt
  fits_true (seq l r) place e =
      let b = and_parts (bounds_fit l place progress row) (bounds_fit r (place + semicolons l + 1) progress row) e in
      (fits_true l place b.0, fits_true r (place + semicolons l + 1) b.1)
  fits_true (alt l r) place e =
      let b = and_parts (bounds_fit l place progress row) (bounds_fit r (place + semicolons l) progress row) e in
      (fits_true l place b.0, fits_true r (place + semicolons l) b.1)
  fits_true (burst any t) place e = (fits_true t place e, tt)
  fits_true (burst (most n) t) place e =
      let b = and_parts (bounds_fit t place progress row) (nat_le (underway t place progress row) n) e in
      (fits_true t place b.0, (let m = leb-true (underway t place progress row) n b.1 in omega (arith, m)))

  fits_back : (t : Tree) (place : ℕ) → BoundsFit t place progress row → bounds_fit t place progress row ≡ true
  fits_back (op a) place k = refl
  fits_back (seq l r) place k = and_from (bounds_fit l place progress row) (bounds_fit r (place + semicolons l + 1) progress row) (fits_back l place k.0) (fits_back r (place + semicolons l + 1) k.1)
  fits_back (alt l r) place k = and_from (bounds_fit l place progress row) (bounds_fit r (place + semicolons l) progress row) (fits_back l place k.0) (fits_back r (place + semicolons l) k.1)
  fits_back (burst any t) place k = fits_back t place k.0
  fits_back (burst (most n) t) place k =
      and_from (bounds_fit t place progress row) (nat_le (underway t place progress row) n) (fits_back t place k.0) (le-leb (underway t place progress row) n (let m = k.1 in omega (arith, m)))

  pub fits_false : (t : Tree) (place : ℕ) → bounds_fit t place progress row ≡ false → BoundsFit t place progress row → ⊥
  fits_false t place e k = true_false (sym (fits_back t place k) ∙ e)

  pub fits_iff : (t : Tree) (place : ℕ) (b : Bool) → b ≡ bounds_fit t place progress row → IsTrue b ↔ BoundsFit t place progress row
  fits_iff t place true e = ((λ _. fits_true t place (sym e)), λ _. refl)
  fits_iff t place false e = ((λ z. absurd (true_false (sym z))), λ k. absurd (fits_false t place (sym e) k))

  pub spares_long : (t : Tree) (place : ℕ) → length (spares t place progress row) ≡ counted_braces t
  spares_long (op a) place = refl
  spares_long (seq l r) place = omega (arith, spares_long l place, spares_long r (place + semicolons l + 1), length-append {A = ℕ})
  spares_long (alt l r) place = omega (arith, spares_long l place, spares_long r (place + semicolons l), length-append {A = ℕ})
  spares_long (burst any t) place = omega (arith, spares_long t place)
  spares_long (burst (most n) t) place = omega (arith, spares_long t place)

  pub tallies_long : (t : Tree) (place : ℕ) → length (tallies t place progress row) ≡ braces t
  tallies_long (op a) place = refl
  tallies_long (seq l r) place = omega (arith, tallies_long l place, tallies_long r (place + semicolons l + 1), length-append {A = ℕ})
  tallies_long (alt l r) place = omega (arith, tallies_long l place, tallies_long r (place + semicolons l), length-append {A = ℕ})
  tallies_long (burst bd t) place = omega (arith, tallies_long t place)

  -- what is in progress and stands in a tree with small numbers is little
  pub all_small : ((a : OpId) → progress a < 2 ^ 32) → ((k : ℕ) → get_or row k 0 < 2 ^ 48) → (t : Tree) (place : ℕ) → in_all t place progress row + 2 ^ 48 ≤ names_count t * 2 ^ 49
  all_small p f (op a) place = let m = p a in omega (arith, m)
  all_small p f (seq l r) place = let m = f (place + semicolons l) in omega (arith, m, all_small p f l place, all_small p f r (place + semicolons l + 1))
  all_small p f (alt l r) place = omega (arith, all_small p f l place, all_small p f r (place + semicolons l))
  all_small p f (burst bd t) place = all_small p f t place

pub names_same : (t : Tree) → names_in t ≡ names_count t
names_same (op a) = refl
names_same (seq l r) = omega (arith, names_same l, names_same r)
names_same (alt l r) = omega (arith, names_same l, names_same r)
names_same (burst bd t) = names_same t

-- each number of a list, and 0 past its end
pub each_below : (xs : List ℕ) (m : ℕ) → 0 < m → All (λ n. n < m) xs → (k : ℕ) → get_or xs k 0 < m
each_below xs m some all k = elim (cases_lt k (length xs)) [
  | inl l ↦ All-get_or (λ n. n < m) xs k 0 l all
  | inr past ↦ let e = get_or_past xs k 0 past in omega (arith, e, some)
]
