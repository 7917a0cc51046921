-- What a crash leaves of bytes that were written.
use Rattle.std.proofs.Common.{◌≡◌, ◌≢◌, ℕ, zero, suc, ◌+◌, ◌-◌, ◌<◌, ◌≤◌, List, [], ◌∷◌, ◌++◌, length, take, get_or, ◌⊎◌, inl, inr, refl, sym, ap, ◌∙◌, arith, append_assoc}
use Rattle.std.proofs.lemmas.List.{take_all}
use Rattle.std.proofs.lemmas.Bool.{cases_eq}
use Rattle.path_fields.specs.Splits.{HasNone}
use Rattle.path_store.specs.Devices.{IsImage, behind_zeros, Torn, Cut}

-- what was written is an image of itself
pub image_whole : (w : List ℕ) → IsImage w w
image_whole [] = tt
image_whole (b ∷ w) = (inl refl, image_whole w)

pub image_short : (w t : List ℕ) → IsImage w t → length t ≤ length w
image_short w [] i = omega arith
image_short [] (b ∷ t) i = absurd i
image_short (a ∷ w) (b ∷ t) i = let n = image_short w t i.1 in omega (arith, n)

-- so is a front of an image
pub image_front : (w t : List ℕ) (n : ℕ) → IsImage w t → IsImage w (take n t)
image_front w t zero i = tt
image_front w [] (suc n) i = tt
image_front [] (b ∷ t) (suc n) i = absurd i
image_front (a ∷ w) (b ∷ t) (suc n) i = (i.0, image_front w t n i.1)

-- what was written behind a front that a crash has left
pub image_behind : (p w t : List ℕ) → IsImage (p ++ w) (p ++ t) → IsImage w t
image_behind [] w t i = i
image_behind (b ∷ p) w t i = image_behind p w t i.1

-- an image that is cut in two is one of what was written, cut there
pub image_split : (w x y : List ℕ) → IsImage w (x ++ y) → (a : List ℕ) × (v : List ℕ) × (w ≡ a ++ v) × IsImage v y
image_split w [] y i = ([], w, refl, i)
image_split [] (b ∷ x) y i = absurd i
image_split (a ∷ w) (b ∷ x) y i =
    let p = image_split w x y i.1 in
    (a ∷ p.0, p.1, ap (λ l. a ∷ l) p.2, p.3)

-- bytes without a zero were written so
pub image_same : (w x y : List ℕ) → HasNone 0 x → IsImage w (x ++ y) → (v : List ℕ) × (w ≡ x ++ v) × IsImage v y
image_same w [] y none i = (w, refl, i)
image_same [] (b ∷ x) y none i = absurd i
image_same (a ∷ w) (b ∷ x) y none i =
    let p = image_same w x y none.1 i.1 in
    let same : b ≡ a = elim i.0 [ inl e ↦ e | inr e ↦ absurd (none.0 e) ] in
    (p.0, ap (λ z. z ∷ w) (sym same) ∙ ap (λ l. b ∷ l) p.1, p.2)

-- zeros are an image of anything as long
zeros_image : (n : ℕ) (w b t : List ℕ) → length w ≡ n → IsImage (behind_zeros n b) t → IsImage (w ++ b) t
zeros_image zero [] b t e i = i
zeros_image zero (a ∷ w) b t e i = absurd (omega (arith, e))
zeros_image (suc n) [] b t e i = absurd (omega (arith, e))
zeros_image (suc n) (a ∷ w) b [] e i = tt
zeros_image (suc n) (a ∷ w) b (x ∷ t) e i = (elim i.0 [ inl is ↦ inr is | inr is ↦ inr is ], zeros_image n w b t (omega (arith, e)) i.1)

-- what is left of bytes, and then of those behind them
image_joined : (w b t s : List ℕ) (n : ℕ) → n ≡ length w - length t → IsImage w t → IsImage (behind_zeros n b) s → IsImage (w ++ b) (t ++ s)
image_joined w b [] s n e i j = zeros_image n w b s (omega (arith, e)) j
image_joined [] b (x ∷ t) s n e i j = absurd i
image_joined (a ∷ w) b (x ∷ t) s n e i j = (i.0, image_joined w b t s n (omega (arith, e)) i.1 j)

pub length_joined : (x y : List ℕ) → length (x ++ y) ≡ length x + length y
length_joined [] y = omega arith
length_joined (a ∷ x) y = omega (arith, length_joined x y)

-- an append behind bytes of which some were synced
pub torn_behind : (s w b c d : List ℕ) → (left : List ℕ) × (d ≡ s ++ left) × IsImage w left → Torn (length (s ++ w)) b d c → (left : List ℕ) × (c ≡ s ++ left) × IsImage (w ++ b) left
torn_behind s w b c d old torn =
    let size : length (s ++ w) - length d ≡ length w - length old.0 = let m = length_joined s w in let n = ap length old.1 in let k = length_joined s old.0 in omega (arith, m, n, k) in
    (old.0 ++ torn.0, torn.1 ∙ ap (λ x. x ++ torn.0) old.1 ∙ append_assoc s old.0 torn.0, image_joined w b old.0 torn.0 (length (s ++ w) - length d) size old.2 torn.2)

-- a text begins with these bytes or it doesn't
pub begins_or : (p t : List ℕ) → ((y : List ℕ) × (t ≡ p ++ y)) ⊎ ((y : List ℕ) → t ≢ p ++ y)
begins_or [] t = inl (t, refl)
begins_or (b ∷ p) [] = inr (λ y e. cc)
begins_or (b ∷ p) (a ∷ t) = elim (cases_eq a b) [
  | inl same ↦ elim (begins_or p t) [
    | inl found ↦ inl (found.0, ap (λ z. z ∷ t) same ∙ ap (λ l. b ∷ l) found.1)
    | inr none ↦ inr (λ y e. none y (let f : t ≡ p ++ y = cc in f))
  ]
  | inr other ↦ inr (λ y e. other (let f : a ≡ b = cc in f))
]

-- an image, byte by byte
pub image_at : (w t : List ℕ) (k : ℕ) → IsImage w t → k < length t → (get_or t k 0 ≡ get_or w k 0) ⊎ (get_or t k 0 ≡ 0)
image_at w [] k i lt = absurd (omega (arith, lt))
image_at [] (b ∷ t) k i lt = absurd i
image_at (a ∷ w) (b ∷ t) zero i lt = i.0
image_at (a ∷ w) (b ∷ t) (suc k) i lt = image_at w t k i.1 (omega (arith, lt))

pub image_from : (w t : List ℕ) → length t ≤ length w → ((k : ℕ) → k < length t → (get_or t k 0 ≡ get_or w k 0) ⊎ (get_or t k 0 ≡ 0)) → IsImage w t
image_from w [] le each = tt
image_from [] (b ∷ t) le each = absurd (omega (arith, le))
image_from (a ∷ w) (b ∷ t) le each = (each 0 (omega arith), image_from w t (omega (arith, le)) (λ k lt. each (suc k) (omega (arith, lt))))

-- a cut leaves a front
pub cut_front : (n : ℕ) (b c : List ℕ) → n ≤ length b → Cut n b c → (m : ℕ) × (n ≤ m) × (c ≡ take m b)
cut_front n b c le (inl same) = (length b, le, same ∙ sym (take_all (length b) b (omega arith)))
cut_front n b c le (inr p) = (length c, p.0, sym p.1)
