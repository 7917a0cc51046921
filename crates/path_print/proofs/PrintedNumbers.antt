-- Printed numbers are digits.
use Rattle.std.proofs.Common.{◌≡◌, ℕ, zero, suc, ◌+◌, ◌-◌, ◌<◌, ◌≤◌, List, [], ◌∷◌, length, refl, subst, rules, arith, decimal}
use Rattle.std.specs.List.{AllByRecursion}
use Rattle.std.specs.Str.Parse.{digits_value}
use Rattle.std.specs.Int.{IsInRange}
use Rattle.std.proofs.lemmas.Str.Parse.{IsNumeralModel, numerals_by_value}
use Rattle.std.proofs.lemmas.Fmt.{digits_decimal, decimal_nonempty, length-decimal-le}
use Rattle.path_lex.specs.declared.token.Class.TheVariants as classes
use Rattle.path_lex.specs.Bytes.{class_of}

abbrev AreDigits : List ℕ → Type 0
AreDigits ds = AllByRecursion (λ c. IsInRange 48 57 c) ds

-- one digit to nine
pub record IsNumberText (ds : List ℕ) : Type 0 where
  pub digits : AllByRecursion (λ c. class_of c ≡ classes.Digit) ds
  pub some : 0 < length ds
  pub short : length ds ≤ 9

digit : (d : ℕ) → d < 10 → class_of (48 + d) ≡ classes.Digit
unfolding class_of
digit zero h = refl
digit (suc zero) h = refl
digit (suc (suc zero)) h = refl
digit (suc (suc (suc zero))) h = refl
digit (suc (suc (suc (suc zero)))) h = refl
digit (suc (suc (suc (suc (suc zero))))) h = refl
digit (suc (suc (suc (suc (suc (suc zero)))))) h = refl
digit (suc (suc (suc (suc (suc (suc (suc zero))))))) h = refl
digit (suc (suc (suc (suc (suc (suc (suc (suc zero)))))))) h = refl
digit (suc (suc (suc (suc (suc (suc (suc (suc (suc zero))))))))) h = refl
digit (suc (suc (suc (suc (suc (suc (suc (suc (suc (suc d)))))))))) h = absurd (omega arith)

own : IsNumeralModel AreDigits (digits_value 10)
own = numerals_by_value AreDigits (search rules)

are_digits : (ds : List ℕ) → AreDigits ds → AllByRecursion (λ c. class_of c ≡ classes.Digit) ds
are_digits [] h = tt
are_digits (c ∷ cs) h =
    let e : 48 + (c - 48) ≡ c = omega (arith, h.0) in
    (subst (λ x. class_of x ≡ classes.Digit) e (digit (c - 48) (omega (arith, h.0))), are_digits cs h.1)

-- what a bound, and what a capacity is printed as
pub number_text : (n : ℕ) → n ≤ 65535 → IsNumberText (decimal n)
number_text n h = record {
  digits = are_digits (decimal n) (digits_decimal own n (omega (arith, h)));
  some = decimal_nonempty n (omega (arith, h));
  short = omega (arith, length-decimal-le 9 n (omega arith) (omega (arith, h)) (omega (arith, h)));
}
