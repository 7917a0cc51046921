-- Digits, read from the left, and the number that they spell.
use Rattle.std.proofs.Common.{◌≡◌, ℕ, ◌+◌, ◌-◌, ◌*◌, ◌<◌, ◌≤◌, ◌^◌, List, [], ◌∷◌, ◌++◌, length, take, drop, get_or, refl, sym, ap, inl, inr, ◌∙◌, subst, rules, arith, decimal}
use Rattle.std.proofs.lemmas.List.{take_more, take-append-drop, append-nil, get_or-take, length-take-le}
use Rattle.std.proofs.lemmas.Bool.{cases_lt}
use Rattle.std.specs.List.{AllByRecursion}
use Rattle.std.proofs.lemmas.Str.Parse.{IsNumeralModel, numerals_by_fold}
use Rattle.std.proofs.lemmas.Fmt.{digits_decimal, digits_value-decimal, decimal-digits_value, decimal_nonempty, first_decimal, decimal_digit, decimal_injective}
use Rattle.path_fields.specs.Splits.{HasNone, EndsAt, IsDigit, HasNoDigitNext}

abbrev pub read_on : ℕ → List ℕ → ℕ
read_on n [] = n
read_on n (c ∷ cs) = read_on (n * 10 + (c - 48)) cs

abbrev pub AreDigits : List ℕ → Type 0
AreDigits ds = AllByRecursion IsDigit ds

own : IsNumeralModel AreDigits (read_on 0)
own = numerals_by_fold AreDigits (search rules) read_on (search rules)

read_on_grows : (n : ℕ) (ds : List ℕ) → n ≤ read_on n ds
read_on_grows n [] = omega arith
read_on_grows n (c ∷ cs) = let h = read_on_grows (n * 10 + (c - 48)) cs in omega (arith, h)

read_on_joined : (n : ℕ) (xs ys : List ℕ) → read_on n (xs ++ ys) ≡ read_on (read_on n xs) ys
read_on_joined n [] ys = refl
read_on_joined n (x ∷ xs) ys = read_on_joined (n * 10 + (x - 48)) xs ys

digits_joined : (xs ys : List ℕ) → AreDigits xs → AreDigits ys → AreDigits (xs ++ ys)
digits_joined [] ys h k = k
digits_joined (x ∷ xs) ys h k = (h.0, digits_joined xs ys h.1 k)

-- how far the digits of a text were read, and what they write
pub record ReadSoFar (text : List ℕ) (at value : ℕ) : Type 0 where
  pub within : at ≤ length text
  pub digits : AreDigits (take at text)
  pub same : read_on 0 (take at text) ≡ value
  pub fits : value < 2 ^ 64

pub reads_none : (text : List ℕ) → ReadSoFar text 0 0
reads_none text = record { within = omega arith; digits = tt; same = refl; fits = omega arith }

-- one digit more
more : (text : List ℕ) (at value digit : ℕ) → at < length text → IsDigit (get_or text at 0) → get_or text at 0 ≡ 48 + digit → ReadSoFar text at value → AreDigits (take (at + 1) text) × (read_on 0 (take (at + 1) text) ≡ value * 10 + digit)
more text at value digit lt is shows r =
    let grown : take (at + 1) text ≡ take at text ++ get_or text at 0 ∷ [] = take_more text at 0 lt in
    let step : read_on value (get_or text at 0 ∷ []) ≡ value * 10 + digit = omega arith in (
      subst AreDigits (sym grown) (digits_joined (take at text) (get_or text at 0 ∷ []) r.digits (is, tt)),
      ap (read_on 0) grown ∙ read_on_joined 0 (take at text) (get_or text at 0 ∷ []) ∙ ap (λ n. read_on n (get_or text at 0 ∷ [])) r.same ∙ step,
    )

pub reads_more : (text : List ℕ) (at value sum digit : ℕ) → at < length text → IsDigit (get_or text at 0) → get_or text at 0 ≡ 48 + digit → sum ≡ value * 10 + digit → sum < 2 ^ 64 → ReadSoFar text at value → ReadSoFar text (at + 1) sum
reads_more text at value sum digit lt is shows total fit r =
    let p = more text at value digit lt is shows r in
    record { within = omega arith; digits = p.0; same = p.1 ∙ sym total; fits = fit }

-- digits in front of a text are a front of all the digits that it begins with
front_within : (xs ys ds rest : List ℕ) → AreDigits xs → HasNoDigitNext rest → xs ++ ys ≡ ds ++ rest → (zs : List ℕ) × (ds ≡ xs ++ zs)
front_within [] ys ds rest h end e = (ds, refl)
front_within (x ∷ xs) ys [] rest h end e = absurd (never rest end e)
  where
    never : (rest : List ℕ) → HasNoDigitNext rest → x ∷ (xs ++ ys) ≡ rest → ⊥
    never [] end e = cc
    never (r ∷ rest) end e = end (let i : x ≡ r = cc in subst IsDigit i h.0)
front_within (x ∷ xs) ys (d ∷ ds) rest h end e =
    let i : x ≡ d = cc in
    let f : xs ++ ys ≡ ds ++ rest = cc in
    let p = front_within xs ys ds rest h.1 end f in
    let j : ds ≡ xs ++ p.0 = p.1 in
    (p.0, cc)

no_more : (xs zs rest end : List ℕ) → AreDigits (xs ++ zs) → HasNoDigitNext rest → xs ++ rest ≡ (xs ++ zs) ++ end → zs ≡ []
no_more xs [] rest end h stop e = refl
no_more [] (z ∷ zs) [] end h stop e = absurd (let i : [] ≡ z ∷ (zs ++ end) = e in cc)
no_more [] (z ∷ zs) (r ∷ rest) end h stop e = absurd (stop (let i : r ≡ z = cc in subst IsDigit (sym i) h.0))
no_more (x ∷ xs) (z ∷ zs) rest end h stop e = no_more xs (z ∷ zs) rest end h.1 stop cc

tail_same : (xs ys zs : List ℕ) → xs ++ ys ≡ xs ++ zs → ys ≡ zs
tail_same [] ys zs e = e
tail_same (x ∷ xs) ys zs e = tail_same xs ys zs cc

-- the digits that a text begins with are cut off in one way
digits_once : (xs ys rest end : List ℕ) → AreDigits xs → AreDigits ys → HasNoDigitNext rest → HasNoDigitNext end → xs ++ rest ≡ ys ++ end → (xs ≡ ys) × (rest ≡ end)
digits_once xs ys rest end h k stop last e =
    let p = front_within xs rest ys end h last e in
    let none : p.0 ≡ [] = no_more xs p.0 rest end (subst AreDigits p.1 k) stop (e ∙ ap (λ v. v ++ end) p.1) in
    let same : xs ≡ ys = sym (p.1 ∙ ap (λ v. xs ++ v) none ∙ append-nil xs) in
    (same, tail_same xs rest end (e ∙ ap (λ v. v ++ end) (sym same)))

-- a number of more digits than were read is larger
grows_past : (text : List ℕ) (at value n : ℕ) (rest : List ℕ) → AreDigits (take at text) → read_on 0 (take at text) ≡ value → n < 2 ^ 64 → HasNoDigitNext rest → text ≡ decimal n ++ rest → value ≤ n
grows_past text at value n rest digits same fits end e =
    let p = front_within (take at text) (drop at text) (decimal n) rest digits end (take-append-drop at text ∙ e) in
    let total : n ≡ read_on value p.0 = sym (digits_value-decimal own n fits) ∙ ap (read_on 0) p.1 ∙ read_on_joined 0 (take at text) p.0 ∙ ap (λ v. read_on v p.0) same in
    let grows = read_on_grows value p.0 in
    omega (arith, total, grows)

pub too_large : (text : List ℕ) (at value digit n : ℕ) (rest : List ℕ) → ReadSoFar text at value → at < length text → IsDigit (get_or text at 0) → get_or text at 0 ≡ 48 + digit → 2 ^ 64 ≤ value * 10 + digit → n < 2 ^ 64 → HasNoDigitNext rest → text ≡ decimal n ++ rest → ⊥
too_large text at value digit n rest r lt is shows large fits end e =
    let p = more text at value digit lt is shows r in
    let grows = grows_past text (at + 1) (value * 10 + digit) n rest p.0 p.1 fits end e in
    omega (arith, grows)

-- the digits that were read are those of any number that the text begins with
pub same_digits : (text : List ℕ) (at value n : ℕ) (rest : List ℕ) → ReadSoFar text at value → HasNoDigitNext (drop at text) → n < 2 ^ 64 → HasNoDigitNext rest → text ≡ decimal n ++ rest → take at text ≡ decimal n
same_digits text at value n rest r stop fits end e =
    (digits_once (take at text) (decimal n) (drop at text) rest r.digits (digits_decimal own n fits) stop end (take-append-drop at text ∙ e)).0

pub reads_all : (text : List ℕ) (at value : ℕ) → ReadSoFar text at value → 0 < at → (1 < at → get_or text 0 0 ≡ 48 → ⊥) → text ≡ decimal value ++ drop at text
reads_all text at value r some first =
    let count : length (take at text) ≡ at = length-take-le at text r.within in
    let head : get_or (take at text) 0 0 ≡ get_or text 0 0 = get_or-take at text 0 0 some in
    let same = r.same in
    let fits = r.fits in
    let alone : get_or (take at text) 0 0 ≡ 48 → length (take at text) ≡ 1 = λ zero. elim (cases_lt 1 at) [
      | inl long ↦ absurd (first long (sym head ∙ zero))
      | inr short ↦ omega (arith, count, some)
    ] in
    let spelled : decimal value ≡ take at text = ap decimal (sym same) ∙ decimal-digits_value own (take at text) r.digits (omega (arith, count, some)) alone (omega (arith, same, fits)) in
    sym (ap (λ v. v ++ drop at text) spelled ∙ take-append-drop at text)

pub leading_zero : (text : List ℕ) (at value n : ℕ) (rest : List ℕ) → ReadSoFar text at value → HasNoDigitNext (drop at text) → 1 < at → get_or text 0 0 ≡ 48 → n < 2 ^ 64 → HasNoDigitNext rest → text ≡ decimal n ++ rest → ⊥
leading_zero text at value n rest r stop long zero fits end e =
    let same : take at text ≡ decimal n = same_digits text at value n rest r stop fits end e in
    let count : length (take at text) ≡ at = length-take-le at text r.within in
    let head : get_or (decimal n) 0 0 ≡ 48 = ap (λ v. get_or v 0 0) (sym same) ∙ get_or-take at text 0 0 (omega (arith, long)) ∙ zero in
    let size : length (decimal n) ≡ at = ap length (sym same) ∙ count in
    elim (cases_lt 0 n) [
      | inl some ↦ let h = first_decimal n some fits in omega (arith, h, head)
      | inr none ↦
          let is : n ≡ 0 = omega (arith, none) in
          let one : length (decimal n) ≡ 1 = ap (λ m. length (decimal m)) is ∙ ap length (decimal_digit 0 (omega arith)) in
          omega (arith, size, one, long)
    ]

pub empty_number : (text : List ℕ) (n : ℕ) (rest : List ℕ) → HasNoDigitNext (drop 0 text) → n < 2 ^ 64 → HasNoDigitNext rest → text ≡ decimal n ++ rest → ⊥
empty_number text n rest stop fits end e =
    let same : take 0 text ≡ decimal n = same_digits text 0 0 n rest (reads_none text) stop fits end e in
    let some = decimal_nonempty n fits in
    let none : 0 ≡ length (decimal n) = ap length same in
    omega (arith, some, none)

no_other : (b : ℕ) (ds : List ℕ) → (IsDigit b → ⊥) → AreDigits ds → HasNone b ds
no_other b [] other h = tt
no_other b (d ∷ ds) other h = (λ e. other (subst IsDigit e h.0), no_other b ds other h.1)

-- a byte that is no digit stands in no number
pub none_in_number : (b n : ℕ) → (IsDigit b → ⊥) → n < 2 ^ 64 → HasNone b (decimal n)
none_in_number b n other h = no_other b (decimal n) other (digits_decimal own n h)

-- a text begins with one number
pub number_once : (m n : ℕ) (rest end : List ℕ) → m < 2 ^ 64 → n < 2 ^ 64 → HasNoDigitNext rest → HasNoDigitNext end → decimal m ++ rest ≡ decimal n ++ end → (m ≡ n) × (rest ≡ end)
number_once m n rest end h k stop last e =
    let p = digits_once (decimal m) (decimal n) rest end (digits_decimal own m h) (digits_decimal own n k) stop last e in
    (decimal_injective m n h k p.0, p.1)

-- the number that was read is the one that the text begins with
pub same_number : (text : List ℕ) (m n : ℕ) (rest end : List ℕ) → text ≡ decimal m ++ rest → HasNoDigitNext rest → m < 2 ^ 64 → n < 2 ^ 64 → HasNoDigitNext end → text ≡ decimal n ++ end → (m ≡ n) × (rest ≡ end)
same_number text m n rest end e stop h k last f = number_once m n rest end h k stop last (sym e ∙ f)

-- where a byte that is no digit comes next, no digit does
pub ends_number : (b : ℕ) (rest : List ℕ) → (IsDigit b → ⊥) → EndsAt b rest → HasNoDigitNext rest
ends_number b [] none end = tt
ends_number b (x ∷ rest) none end = λ is. none (subst IsDigit end is)

-- a line's end comes behind all digits
pub feed_ends : (rest : List ℕ) → EndsAt 10 rest → HasNoDigitNext rest
feed_ends rest end = ends_number 10 rest (λ d. let low = d.0 in omega (arith, low)) end
