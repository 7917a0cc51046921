-- A line begins with one number, and its faults are those of what follows it.
use Rattle.std.proofs.Common.{◌≡◌, ◌≢◌, ℕ, ◌<◌, ◌≤◌, ◌^◌, List, [], ◌∷◌, ◌++◌, length, inl, inr, refl, sym, ap, ◌∙◌, subst, append_assoc, arith, decimal, Contains, get_or}
use Rattle.std.proofs.lemmas.List.{append-nil, length-map}
use Rattle.std.proofs.lemmas.List.Elements.{Contains-get_or}
use Rattle.std.proofs.lemmas.Bool.{cases_lt, cases_eq}
use Rattle.std.proofs.lemmas.Option.{slice_get-get_or, slice_get_past}
use Rattle.path_model.specs.declared.ids.OpId.{OpId}
use Rattle.path_model.specs.declared.journal.Attempt.{Attempt}
use Rattle.path_model.specs.Declarations.{Declaration}
use Rattle.path_fields.specs.Splits.{HasNone, EndsAt, HasNoDigitNext}
use Rattle.path_fields.proofs.CallerLemmas.{none_joined, none_in_number, number_once, same_number}
use Rattle.path_lines.specs.declared.entry.LineFault.{LineFault}
use Rattle.path_lines.specs.declared.entry.LineFault.TheVariants as line_faults
use Rattle.path_lines.specs.LineTexts.{operation_names, name_or_number, operation_text, attempt_text, AttemptFits}
use Rattle.path_lines.specs.AttemptTexts.{StartsUndeclared, IsAttemptFault, IsLineFault, IsFirstLine, IsFirstFault}

-- a space comes behind all digits
pub space_ends : (rest : List ℕ) → HasNoDigitNext (32 ∷ rest)
space_ends rest = λ d. let low = d.0 in omega (arith, low)

pub number_spaced : (n : ℕ) (xs rest : List ℕ) → (decimal n ++ (32 ∷ xs)) ++ rest ≡ decimal n ++ (32 ∷ (xs ++ rest))
number_spaced n xs rest = append_assoc (decimal n) (32 ∷ xs) rest

pub behind_hash : (text digits : List ℕ) (n : ℕ) → text ≡ 35 ∷ digits → text ≡ 35 ∷ decimal n → digits ≡ decimal n ++ []
behind_hash text digits n e f = let same : digits ≡ decimal n = cc in same ∙ sym (append-nil (decimal n))

-- a declared operation has its name, any other its number
pub named : (d : Declaration) (a : OpId) → a.0 < length d.operations → (operation_text d a ≡ get_or (operation_names d) a.0 []) × Contains (operation_names d) (operation_text d a)
named d a h =
    let within : a.0 < length (operation_names d) = let n : length (operation_names d) ≡ length d.operations = length-map d.operations (λ o. o.name) in omega (arith, n, h) in
    let is : operation_text d a ≡ get_or (operation_names d) a.0 [] = ap (λ o. name_or_number o a.0) (slice_get-get_or (operation_names d) a.0 [] within) in
    (is, subst (Contains (operation_names d)) (sym is) (Contains-get_or (operation_names d) a.0 [] within))

pub numbered : (d : Declaration) (a : OpId) → length d.operations ≤ a.0 → operation_text d a ≡ 35 ∷ decimal a.0
numbered d a h =
    let past : length (operation_names d) ≤ a.0 = let n : length (operation_names d) ≡ length d.operations = length-map d.operations (λ o. o.name) in omega (arith, n, h) in
    ap (λ o. name_or_number o a.0) (slice_get_past (operation_names d) a.0 past)

pub no_operation : (d : Declaration) (text : List ℕ) (n : ℕ) → n ≡ length d.operations → (Contains (operation_names d) text → ⊥) → ((k : ℕ) → n ≤ k → k < 2 ^ 32 → text ≢ 35 ∷ decimal k) → (a : OpId) → a.0 < 2 ^ 32 → text ≢ operation_text d a
no_operation d text n count unnamed none a lt e = elim (cases_lt a.0 (length d.operations)) [
  | inl h ↦ unnamed (subst (Contains (operation_names d)) (sym e) (named d a h).1)
  | inr h ↦ none a.0 (omega (arith, count, h)) lt (e ∙ numbered d a h)
]

-- each text has a first line
pub first_line : (text : List ℕ) → (line : List ℕ) × (rest : List ℕ) × HasNone 10 line × EndsAt 10 rest × (text ≡ line ++ rest)
first_line [] = ([], [], tt, tt, refl)
first_line (b ∷ bs) = elim (cases_eq b 10) [
  | inl is ↦ ([], b ∷ bs, tt, is, refl)
  | inr other ↦ let p = first_line bs in let q = p.4 in (b ∷ p.0, p.1, (other, p.2), p.3, cc)
]

pub is_first : (line rest text : List ℕ) → HasNone 10 line → EndsAt 10 rest → text ≡ line ++ rest → IsFirstLine line text
is_first line [] text none end e = (none, inl (e ∙ append-nil line))
is_first line (b ∷ bs) text none end e = (none, inr (bs, e ∙ ap (λ x. line ++ x ∷ bs) end))

pub ends_first : (line text : List ℕ) → IsFirstLine line text → (rest : List ℕ) × EndsAt 10 rest × (text ≡ line ++ rest)
ends_first line text (none, inl e) = ([], tt, e ∙ sym (append-nil line))
ends_first line text (none, inr (rest, e)) = (10 ∷ rest, refl, e)

-- the ways in which a text doesn't begin with a worker's number and a space
abbrev pub BeginsNoLine : List ℕ → Type 0
BeginsNoLine text = (w : ℕ) (rest : List ℕ) → w < 2 ^ 32 → text ≢ decimal w ++ (32 ∷ rest)

pub no_number : (text : List ℕ) → ((n : ℕ) (rest : List ℕ) → n ≤ 4294967295 → HasNoDigitNext rest → text ≢ decimal n ++ rest) → BeginsNoLine text
no_number text none w rest lt e = none w (32 ∷ rest) (omega (arith, lt)) (space_ends rest) e

pub no_space : (text : List ℕ) (n : ℕ) (r : List ℕ) → (text ≡ decimal n ++ r) × (n ≤ 4294967295) × HasNoDigitNext r → ((rest : List ℕ) → r ≢ 32 ∷ rest) → BeginsNoLine text
no_space text n r found none w rest lt f =
    let few = found.1 in
    none rest (same_number text n w r (32 ∷ rest) found.0 found.2 (omega (arith, few)) (omega (arith, lt)) (space_ends rest) f).1

-- a text that doesn't begin with a worker's number and a space has a bad line
pub front_fault : (d : Declaration) (text : List ℕ) → BeginsNoLine text → IsFirstFault d text line_faults.Bad
front_fault d text none =
    let p = first_line text in (
      p.0,
      is_first p.0 p.1 text p.2 p.3 p.4,
      λ w a lt fits e. none w (attempt_text d a ++ p.1) lt (p.4 ∙ ap (λ v. v ++ p.1) e ∙ number_spaced w (attempt_text d a) p.1),
      λ u. none u.worker (u.attempt ++ p.1) u.fits (p.4 ∙ ap (λ v. v ++ p.1) u.spelled ∙ number_spaced u.worker u.attempt p.1),
    )

behind_number : (w v : ℕ) (xs ys : List ℕ) → w < 2 ^ 32 → v < 2 ^ 32 → decimal w ++ (32 ∷ xs) ≡ decimal v ++ (32 ∷ ys) → xs ≡ ys
behind_number w v xs ys h k e =
    let p = number_once w v (32 ∷ xs) (32 ∷ ys) (omega (arith, h)) (omega (arith, k)) (space_ends xs) (space_ends ys) e in
    let same = p.1 in cc

line_fault : (d : Declaration) (line : List ℕ) (w : ℕ) (f : LineFault) → w < 2 ^ 32 → IsAttemptFault d line f → IsLineFault d (decimal w ++ (32 ∷ line)) f
line_fault d line w line_faults.Bad lt fault = λ u. fault (subst (StartsUndeclared d) (sym (behind_number w u.worker line u.attempt lt u.fits u.spelled)) u.undeclared)
line_fault d line w line_faults.Undeclared lt fault = record { worker = w; fits = lt; attempt = line; undeclared = fault; spelled = refl }

-- a line whose rest is no attempt is at fault as its rest is
pub attempt_fault : (d : Declaration) (text : List ℕ) (w : ℕ) (r : List ℕ) (f : LineFault) → w < 2 ^ 32 → text ≡ decimal w ++ (32 ∷ r) → ((a : Attempt) (rest : List ℕ) → AttemptFits a → EndsAt 10 rest → r ≢ attempt_text d a ++ rest) → ((line : List ℕ) → IsFirstLine line r → IsAttemptFault d line f) → IsFirstFault d text f
attempt_fault d text w r f lt e none fault =
    let p = first_line r in
    let line = decimal w ++ (32 ∷ p.0) in
    let clean : HasNone 10 line = none_joined 10 (decimal w) (32 ∷ p.0) (none_in_number 10 w (λ i. let low = i.0 in omega (arith, low)) (omega (arith, lt))) (λ i. omega (arith, i), p.2) in (
      line,
      is_first line p.1 text clean p.3 (e ∙ ap (λ v. decimal w ++ (32 ∷ v)) p.4 ∙ sym (number_spaced w p.0 p.1)),
      λ v a small fits k. none a p.1 fits p.3 (p.4 ∙ ap (λ x. x ++ p.1) (behind_number w v p.0 (attempt_text d a) lt small k)),
      line_fault d p.0 w f lt (fault p.0 (is_first p.0 p.1 r p.2 p.3 p.4)),
    )
