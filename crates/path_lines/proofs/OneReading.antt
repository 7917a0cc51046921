-- A text has one list of attempts: each line has one worker and one attempt.
use Rattle.std.proofs.Common.{◌≡◌, ◌≢◌, ℕ, ◌<◌, ◌^◌, List, [], ◌∷◌, ◌++◌, length, ◌≤◌, inl, inr, refl, sym, ap, ◌∙◌, arith, decimal, All, get_or}
use Rattle.std.proofs.lemmas.List.{length-map}
use Rattle.std.proofs.lemmas.List.Elements.{All-contains}
use Rattle.std.proofs.lemmas.Bool.{cases_lt}
use Rattle.std.proofs.lemmas.Fmt.{decimal_injective}
use Rattle.path_model.specs.declared.ids.OpId.{OpId}
use Rattle.path_model.specs.declared.ids.ActId.{ActId}
use Rattle.path_model.specs.declared.journal.Verb.{Verb}
use Rattle.path_model.specs.declared.journal.Verb.TheVariants.{Put, Take, Look, Add}
use Rattle.path_model.specs.declared.journal.Attempt.{Attempt}
use Rattle.path_model.specs.declared.journal.Attempt.TheVariants.{Start, Apply, Finish}
use Rattle.path_model.specs.Declarations.{Declaration}
use Rattle.path_decl.specs.Lawful.{IsDistinct, AreDistinctNames}
use Rattle.path_lex.specs.Names.{IsName}
use Rattle.path_fields.specs.Splits.{HasNone}
use Rattle.path_lines.specs.LineTexts.{verb_text, use_text, operation_text, operation_names, attempt_text, line_text, AttemptFits, VerbFits}
use Rattle.path_lines.specs.AttemptTexts.{Entry, EntryFits, IsAttemptsText}
use Rattle.path_fields.proofs.CallerLemmas.{number_once}
use Rattle.path_lines.proofs.EntryLemmas.{space_ends, named, numbered}
use Rattle.path_lines.proofs.NameLemmas.{name_is_plain}
use Rattle.path_lines.proofs.AttemptLemmas.{entry_text, line_is_line}
use Rattle.path_lines.proofs.WholeTexts.{spells_once}

same_head : {x y : ℕ} {xs ys : List ℕ} → x ∷ xs ≡ y ∷ ys → x ≡ y
same_head e = cc

tail_three : {a b c a' b' c' : ℕ} {xs ys : List ℕ} → a ∷ b ∷ c ∷ xs ≡ a' ∷ b' ∷ c' ∷ ys → xs ≡ ys
tail_three e = cc

tail_four : {a b c d a' b' c' d' : ℕ} {xs ys : List ℕ} → a ∷ b ∷ c ∷ d ∷ xs ≡ a' ∷ b' ∷ c' ∷ d' ∷ ys → xs ≡ ys
tail_four e = cc

pub verb_once : (u v : Verb) → VerbFits u → VerbFits v → verb_text u ≡ verb_text v → u ≡ v
verb_once (Put x) (Put y) h k e = ap Put (decimal_injective x y h k (tail_four e))
verb_once Take Take h k e = refl
verb_once Look Look h k e = refl
verb_once (Add x) (Add y) h k e = ap Add (decimal_injective x y h k (tail_four e))
verb_once u v h k e = let i = same_head e in absurd (omega (arith, i))

tail_one : {x y : ℕ} {xs ys : List ℕ} → x ∷ xs ≡ y ∷ ys → xs ≡ ys
tail_one e = cc

use_once : (m n : ℕ) (u v : Verb) → m < 2 ^ 64 → n < 2 ^ 64 → VerbFits u → VerbFits v → use_text m u ≡ use_text n v → (m ≡ n) × (u ≡ v)
use_once m n u v hm hn hu hv e =
    let p = number_once m n (32 ∷ verb_text u) (32 ∷ verb_text v) hm hn (space_ends (verb_text u)) (space_ends (verb_text v)) e in
    (p.0, verb_once u v hu hv (tail_one p.1))

-- names that differ stand at different places
place_once : (ns : List (List ℕ)) (i j : ℕ) → IsDistinct ns → i < length ns → j < length ns → get_or ns i [] ≡ get_or ns j [] → i ≡ j
place_once ns i j distinct hi hj e = elim (cases_lt i j) [
  | inl lt ↦ absurd (distinct i j [] lt hj e)
  | inr ge ↦ elim (cases_lt j i) [
    | inl lt ↦ absurd (distinct j i [] lt hi (sym e))
    | inr le ↦ omega arith
  ]
]

-- a name is no number
other_kind : (d : Declaration) (a b : OpId) → All IsName (operation_names d) → a.0 < length d.operations → length d.operations ≤ b.0 → operation_text d a ≡ operation_text d b → ⊥
other_kind d a b names ha hb e =
    name_is_plain (operation_text d a) (decimal b.0) (All-contains IsName (operation_names d) (operation_text d a) names (named d a ha).1) (e ∙ numbered d b hb)

pub operation_once : (d : Declaration) (a b : OpId) → AreDistinctNames (operation_names d) → a.0 < 2 ^ 32 → b.0 < 2 ^ 32 → operation_text d a ≡ operation_text d b → a ≡ b
operation_once d a b names fa fb e = ap (λ (n : ℕ). let o : OpId = record { 0 = n } in o) (elim (cases_lt a.0 (length d.operations)) [
  | inl ha ↦ elim (cases_lt b.0 (length d.operations)) [
    | inl hb ↦ place_once (operation_names d) a.0 b.0 names.distinct (within d a.0 ha) (within d b.0 hb) (sym (named d a ha).0 ∙ e ∙ (named d b hb).0)
    | inr hb ↦ absurd (other_kind d a b names.each ha hb e)
  ]
  | inr ha ↦ elim (cases_lt b.0 (length d.operations)) [
    | inl hb ↦ absurd (other_kind d b a names.each hb ha (sym e))
    | inr hb ↦ decimal_injective a.0 b.0 (omega (arith, fa)) (omega (arith, fb)) (tail_one (sym (numbered d a ha) ∙ e ∙ numbered d b hb))
  ]
])
  where
    within : (d : Declaration) (i : ℕ) → i < length d.operations → i < length (operation_names d)
    within d i h = let n : length (operation_names d) ≡ length d.operations = length-map d.operations (λ o. o.name) in omega (arith, n, h)

act_once : (m n : ActId) → m.0 ≡ n.0 → m ≡ n
act_once m n e = ap (λ (k : ℕ). let o : ActId = record { 0 = k } in o) e

attempt_once : (d : Declaration) (a b : Attempt) → AreDistinctNames (operation_names d) → AttemptFits a → AttemptFits b → attempt_text d a ≡ attempt_text d b → a ≡ b
attempt_once d (Start a) (Start b) names h k e = ap Start (operation_once d a b names h k (tail_three (tail_three e)))
attempt_once d (Apply m u) (Apply n v) names h k e =
    let p = use_once m.0 n.0 u v h.0 k.0 h.1 k.1 (tail_four e) in
    let same : m ≡ n = act_once m n p.0 in
    ap (λ (x : ActId). Apply x u) same ∙ ap (λ (x : Verb). Apply n x) p.1
attempt_once d (Finish m) (Finish n) names h k e = ap Finish (act_once m n (decimal_injective m.0 n.0 h k (tail_three (tail_four e))))
attempt_once d a b names h k e = let i = same_head e in absurd (omega (arith, i))

pub entry_once : (d : Declaration) (e f : Entry) → AreDistinctNames (operation_names d) → EntryFits e → EntryFits f → line_text d e.0 e.1 ≡ line_text d f.0 f.1 → e ≡ f
entry_once d e f names h k same =
    let small : e.0 < 2 ^ 64 = let i = h.0 in omega (arith, i) in
    let other : f.0 < 2 ^ 64 = let i = k.0 in omega (arith, i) in
    let p = number_once e.0 f.0 (32 ∷ attempt_text d e.1) (32 ∷ attempt_text d f.1) small other (space_ends (attempt_text d e.1)) (space_ends (attempt_text d f.1)) same in
    ap (λ (w : ℕ). let x : Entry = (w, e.1) in x) p.0 ∙ ap (λ (a : Attempt). let x : Entry = (f.0, a) in x) (attempt_once d e.1 f.1 names h.1 k.1 (tail_one p.1))

-- a line begins with a number and a space
pub number_is_some : (n : ℕ) (rest : List ℕ) → decimal n ++ (32 ∷ rest) ≡ [] → ⊥
number_is_some n rest e = some (decimal n) e
  where
    some : (ds : List ℕ) → ds ++ (32 ∷ rest) ≡ [] → ⊥
    some [] e = cc
    some (x ∷ ds) e = cc

-- any attempts of a text are these
pub one_reading : (d : Declaration) (text : List ℕ) (es : List Entry) → AreDistinctNames (operation_names d) → IsAttemptsText d text es → (fs : List Entry) → IsAttemptsText d text fs → fs ≡ es
one_reading d text es names t fs u =
    let clean : (e : Entry) → EntryFits e → HasNone 10 (entry_text d e) = λ e fit. line_is_line d e names.each fit in
    let some : (e : Entry) → entry_text d e ≢ [] = λ e is. number_is_some e.0 (attempt_text d e.1) is in
    let once : (e f : Entry) → EntryFits e → EntryFits f → entry_text d e ≡ entry_text d f → e ≡ f = λ e f h k is. entry_once d e f names h k is in
    spells_once Entry (entry_text d) EntryFits clean some once fs es text u.fits t.fits u.spelled t.spelled
