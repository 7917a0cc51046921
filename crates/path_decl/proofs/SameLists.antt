-- Lists with the same items at each place.
use Rattle.std.proofs.Common.{◌≡◌, ℕ, suc, ◌+◌, ◌<◌, ◌≤◌, ◌↔◌, IsTrue, true, List, [], ◌∷◌, length, slice_get, refl, sym, ap, ◌∙◌, subst, arith, inl, inr}
use Rattle.std.proofs.lemmas.Option.{same_Some}
use Rattle.std.proofs.lemmas.Bool.{cases_eq}

-- the first n places of the lists have the same items
abbrev pub Alike : {X : Type 0} → ℕ → List X → List X → Type 0
Alike n xs ys = (i : ℕ) → i < n → slice_get xs i ≡ slice_get ys i

pub alike_none : {X : Type 0} (xs ys : List X) → Alike 0 xs ys
alike_none xs ys i lt = absurd (omega (arith, lt))

pub alike_more : {X : Type 0} (n : ℕ) (xs ys : List X) → Alike n xs ys → slice_get xs n ≡ slice_get ys n → Alike (n + 1) xs ys
alike_more n xs ys h e i lt = elim (cases_eq i n) [
  | inl same ↦ subst (λ k. slice_get xs k ≡ slice_get ys k) (sym same) e
  | inr other ↦ h i (omega (arith, lt, other))
]

pub alike_all : {X : Type 0} (xs ys : List X) → length xs ≡ length ys → Alike (length xs) xs ys → xs ≡ ys
alike_all [] [] e h = refl
alike_all [] (y ∷ ys) e h = absurd (omega (arith, e))
alike_all (x ∷ xs) [] e h = absurd (omega (arith, e))
alike_all (x ∷ xs) (y ∷ ys) e h =
    ap (λ z. z ∷ xs) (same_Some x y (h 0 (omega arith))) ∙ ap (λ zs. y ∷ zs) (alike_all xs ys (omega (arith, e)) (λ i lt. h (suc i) (omega (arith, lt))))

-- lists of one length that are alike to the end are equal
pub alike_through : {X : Type 0} (n : ℕ) (xs ys : List X) → length xs ≡ length ys → length xs ≤ n → Alike n xs ys → IsTrue true ↔ (xs ≡ ys)
alike_through n xs ys e le h = (λ t. alike_all xs ys e (λ i lt. h i (omega (arith, lt, le))), λ s. refl)
