-- Which number digits denote, and their value.
use Rattle.std.proofs.Common.{◌≡◌, ℕ, ◌<◌, ◌≤◌, ◌^◌, Bool, true, false, List, [], ◌∷◌, ◌++◌, length, refl, sym, ap, ◌∙◌, arith}
use Rattle.std.specs.Prelude.{◌==◌}
use Rattle.std.specs.Fmt.{decimal}
use Rattle.std.specs.Str.Parse.{digits_value}
use Rattle.std.proofs.lemmas.Fmt.{decimal_is_IsNumeral, decimal_injective}
use Rattle.std.proofs.lemmas.List.{append-nil}
use Rattle.std.proofs.lemmas.Bool.Decides.{nat_tests}
use Rattle.path_fields.specs.Splits.{HasNoDigitNext}
use Rattle.path_fields.proofs.CallerLemmas.{number_once}
use Rattle.path_decl.specs.Numerals.{Denotes, IsUpTo}

small : (n : ℕ) → n ≤ 65535 → n < 2 ^ 64
small n h = omega arith

-- the value of digits is the number that they denote
pub value_of : (ds : List ℕ) (n : ℕ) → Denotes ds n → n ≤ 65535 → digits_value 10 ds ≡ n
value_of ds n e h = ap (digits_value 10) e ∙ (decimal_is_IsNumeral n (small n h)).1

-- digits denote one number
pub denotes_once : (ds : List ℕ) (m n : ℕ) → m ≤ 65535 → n ≤ 65535 → Denotes ds m → Denotes ds n → m ≡ n
denotes_once ds m n h k e f = decimal_injective m n (small m h) (small n k) (sym e ∙ f)

below : (n m : ℕ) → n ≤ m → m < 2 ^ 32 → n < 2 ^ 64
below n m h k = omega arith

-- digits that begin with a number, and that denote one, are that number
pub whole_number : (most : ℕ) (ds : List ℕ) (v : ℕ) (rest : List ℕ) → most < 2 ^ 32 → v < 2 ^ 64 → ds ≡ decimal v ++ rest → HasNoDigitNext rest → (u : IsUpTo most ds) → (u.number ≡ v) × ([] ≡ rest)
whole_number most ds v rest m fits e stop u = number_once u.number v [] rest (below u.number most u.within m) fits tt stop (append-nil (decimal u.number) ∙ sym u.denoted ∙ e)

-- digits that begin with no number denote none
pub no_whole_number : (most : ℕ) (ds : List ℕ) → most < 2 ^ 32 → ((n : ℕ) (rest : List ℕ) → n < 2 ^ 64 → HasNoDigitNext rest → ds ≡ decimal n ++ rest → ⊥) → IsUpTo most ds → ⊥
no_whole_number most ds m none u = none u.number [] (below u.number most u.within m) tt (u.denoted ∙ sym (append-nil (decimal u.number)))

-- a number alone
pub is_up_to : (most : ℕ) (ds : List ℕ) (v : ℕ) (rest : List ℕ) → most < 2 ^ 32 → ds ≡ decimal v ++ rest → rest ≡ [] → 0 < v → v ≤ most → IsUpTo most ds × (v ≡ digits_value 10 ds)
is_up_to most ds v rest m e none some le =
    let whole : Denotes ds v = e ∙ ap (λ r. decimal v ++ r) none ∙ append-nil (decimal v) in
    (record { number = v; denoted = whole; positive = some; within = le }, sym (ap (digits_value 10) whole ∙ (decimal_is_IsNumeral v (below v most le m)).1))

-- whether anything is left
pub nothing_left : (rest : List ℕ) {b : Bool} → b ≡ true → b ≡ (length rest == 0) → rest ≡ []
nothing_left [] e f = refl
nothing_left (x ∷ rest) e f = absurd (grind (arith, nat_tests))

pub something_left : (rest : List ℕ) {b : Bool} → b ≡ false → b ≡ (length rest == 0) → [] ≡ rest → ⊥
something_left [] e f g = cc
something_left (x ∷ rest) e f g = cc
