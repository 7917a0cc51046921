-- A text is cut at a byte in one way.
use Rattle.std.proofs.Common.{◌≡◌, ◌≢◌, ℕ, List, [], ◌∷◌, ◌++◌, Bool, true, false, refl, sym, ◌∙◌}
use Rattle.std.specs.Cmp.Lexicographic.{pointwise}
use Rattle.std.proofs.Math.Dec.{eqb}
use Rattle.std.proofs.lemmas.Slice.Eq.{slice_eq-Decides}
use Rattle.std.proofs.lemmas.Bool.Decides.{Decides-eqb}
use Rattle.path_fields.specs.Splits.{HasNone, EndsAt}

pub cut_once : (sep : ℕ) (a a' b b' : List ℕ) → HasNone sep a → HasNone sep a' → a ++ sep ∷ b ≡ a' ++ sep ∷ b' → (a ≡ a') × (b ≡ b')
cut_once sep [] [] b b' h h' e = (refl, cc)
cut_once sep [] (x ∷ a') b b' h h' e = let i : x ≡ sep = cc in absurd (h'.0 i)
cut_once sep (x ∷ a) [] b b' h h' e = let i : x ≡ sep = cc in absurd (h.0 i)
cut_once sep (x ∷ a) (y ∷ a') b b' h h' e =
    let f : a ++ sep ∷ b ≡ a' ++ sep ∷ b' = cc in
    let i : x ≡ y = cc in
    let g = cut_once sep a a' b b' h.1 h'.1 f in
    (cc, g.1)

pub cut_none : (sep : ℕ) (a b : List ℕ) → HasNone sep (a ++ sep ∷ b) → ⊥
cut_none sep [] b h = h.0 refl
cut_none sep (x ∷ a) b h = cut_none sep a b h.1

pub none_joined : (sep : ℕ) (a b : List ℕ) → HasNone sep a → HasNone sep b → HasNone sep (a ++ b)
none_joined sep [] b h k = k
none_joined sep (x ∷ a) b h k = (h.0, none_joined sep a b h.1 k)

-- so is what stands before the first such byte
pub until_once : (sep : ℕ) (a a' b b' : List ℕ) → HasNone sep a → HasNone sep a' → EndsAt sep b → EndsAt sep b' → a ++ b ≡ a' ++ b' → (a ≡ a') × (b ≡ b')
until_once sep [] [] b b' h h' end end' e = (refl, e)
until_once sep [] (x ∷ a') [] b' h h' end end' e = let i : [] ≡ x ∷ (a' ++ b') = e in cc
until_once sep [] (x ∷ a') (y ∷ b) b' h h' end end' e = absurd (h'.0 (let i : y ≡ x = cc in sym i ∙ end))
until_once sep (x ∷ a) [] b [] h h' end end' e = let i : x ∷ (a ++ b) ≡ [] = e in cc
until_once sep (x ∷ a) [] b (y ∷ b') h h' end end' e = absurd (h.0 (let i : x ≡ y = cc in i ∙ end'))
until_once sep (x ∷ a) (y ∷ a') b b' h h' end end' e =
    let f : a ++ b ≡ a' ++ b' = cc in
    let i : x ≡ y = cc in
    let g = until_once sep a a' b b' h.1 h'.1 end end' f in
    (cc, g.1)

-- what a comparison of two texts says
pub is_text : (r : Bool) (xs ys zs : List ℕ) → zs ≡ ys → r ≡ true → r ≡ pointwise eqb xs zs → xs ≡ ys
is_text r xs ys zs e t f = (slice_eq-Decides Decides-eqb xs zs r f).0 t ∙ e

pub is_other : (r : Bool) (xs ys zs : List ℕ) → zs ≡ ys → r ≡ false → r ≡ pointwise eqb xs zs → xs ≢ ys
is_other r xs ys zs e t f g = let h = (slice_eq-Decides Decides-eqb xs zs r f).1 (g ∙ sym e) in cc
