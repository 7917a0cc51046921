-- Lines of attempts are lines, how far a text of attempts was read, and that a faulty text isn't one of attempts.
use Rattle.std.proofs.Common.{◌≡◌, ◌≢◌, ◌↔◌, ℕ, ◌+◌, ◌<◌, ◌^◌, List, [], ◌∷◌, ◌++◌, length, drop, ◌⊎◌, inl, inr, false, rules, refl, sym, ap, ◌∙◌, subst, arith, decimal, codes, All, Contains}
use Rattle.std.proofs.lemmas.List.Elements.{All-contains}
use Rattle.std.proofs.lemmas.Bool.{cases_lt}
use Rattle.path_model.specs.declared.ids.OpId.{OpId}
use Rattle.path_model.specs.declared.journal.Verb.{Verb}
use Rattle.path_model.specs.declared.journal.Verb.TheVariants.{Put, Take, Look, Add}
use Rattle.path_model.specs.declared.journal.Attempt.{Attempt}
use Rattle.path_model.specs.declared.journal.Attempt.TheVariants.{Start, Apply, Finish}
use Rattle.path_model.specs.Declarations.{Declaration}
use Rattle.path_lex.specs.Bytes.{is_word_byte}
use Rattle.path_lex.specs.Names.{IsName}
use Rattle.path_fields.specs.Splits.{HasNone, EndsAt, IsDigit}
use Rattle.path_fields.proofs.CallerLemmas.{none_joined, none_in_number, until_once}
use Rattle.path_lines.specs.declared.entry.LineFault.{LineFault}
use Rattle.path_lines.specs.declared.entry.LineFault.TheVariants as line_faults
use Rattle.path_lines.specs.LineTexts.{verb_text, use_text, operation_text, operation_names, attempt_text, line_text, AttemptFits, VerbFits}
use Rattle.path_lines.specs.AttemptTexts.{Entry, EntryFits, entries_text, IsAttemptsText, IsUndeclaredLine, IsFirstLine, IsAttemptFault, IsFirstFault, IsNoRest, IsFaultyLine, IsFaultAt, IsTextFault, fault_of}
use Rattle.path_lines.proofs.EntryLemmas.{named, numbered, ends_first}
use Rattle.path_lines.proofs.NameLemmas.{name_without, line_feed_outside, colon_outside}
use Rattle.path_lines.proofs.WholeTexts.{ReadLines, lines_more, whole_parts, all_read, refuted}

-- the text of an attempt with its worker
abbrev pub entry_text : Declaration → Entry → List ℕ
entry_text d e = line_text d e.0 e.1

-- how far a text was read
abbrev pub ReadEntries : Declaration → List ℕ → List Entry → List ℕ → Type 0
ReadEntries d text es rest = ReadLines Entry (entry_text d) EntryFits text es rest

pub entries_more : (d : Declaration) (text rest after : List ℕ) (es fs : List Entry) (e : Entry) (n : ℕ) → rest ≢ [] → IsFirstLine (line_text d e.0 e.1) rest → n ≡ length (line_text d e.0 e.1) → after ≡ drop (n + 1) rest → EntryFits e → fs ≡ es ++ e ∷ [] → ReadEntries d text es rest → ReadEntries d text fs after
entries_more d = lines_more Entry (entry_text d) EntryFits

pub ends : (d : Declaration) (text rest : List ℕ) (es : List Entry) → rest ≡ [] → ReadEntries d text es rest → IsAttemptsText d text es
ends d text rest es none r = record {
  fits = r.fits;
  spelled = all_read Entry (entry_text d) EntryFits text rest es none r;
}

-- the next line is at fault
pub faulty : (d : Declaration) (text rest : List ℕ) (es : List Entry) (n : ℕ) (f : LineFault) → n ≡ length es → rest ≢ [] → IsFirstFault d rest f → ReadEntries d text es rest → IsFaultAt d text n f
faulty d text rest es n f count some at r = (
  at.0,
  record {
    before = es;
    rest = rest;
    count = sym count;
    fits = r.fits;
    parts = whole_parts Entry (entry_text d) EntryFits text rest es some r;
    more = some;
    first = at.1;
    none = at.2;
  },
  at.3,
)

same_head : {x y : ℕ} {xs ys : List ℕ} → x ∷ xs ≡ y ∷ ys → x ≡ y
same_head e = cc

start_name : {xs ys : List ℕ} → codes "start " ++ xs ≡ codes "start " ++ ys → xs ≡ ys
start_name e = cc

-- the bytes behind which an attempt has ended: a line feed, and the colon before a reply
abbrev pub IsBreak : ℕ → Type 0
IsBreak b = (b ≡ 10) ⊎ (b ≡ 58)

no_digit : (b : ℕ) → IsBreak b → IsDigit b → ⊥
no_digit b (inl e) d = let low = d.0 in omega (arith, e, low)
no_digit b (inr e) d = let high = d.1 in omega (arith, e, high)

no_word : (b : ℕ) → IsBreak b → is_word_byte b ≡ false
no_word b (inl e) = subst (λ x. is_word_byte x ≡ false) (sym e) line_feed_outside
no_word b (inr e) = subst (λ x. is_word_byte x ≡ false) (sym e) colon_outside

no_space : (b : ℕ) → IsBreak b → 32 ≢ b
no_space b (inl e) i = omega (arith, e, i)
no_space b (inr e) i = omega (arith, e, i)

no_hash : (b : ℕ) → IsBreak b → 35 ≢ b
no_hash b (inl e) i = omega (arith, e, i)
no_hash b (inr e) i = omega (arith, e, i)

-- no such byte stands in an attempt
both : (w : List ℕ) → HasNone 10 w → HasNone 58 w → (b : ℕ) → IsBreak b → HasNone b w
both w h k b (inl e) = subst (λ x. HasNone x w) (sym e) h
both w h k b (inr e) = subst (λ x. HasNone x w) (sym e) k

put_clean : (b : ℕ) → IsBreak b → HasNone b (codes "put ")
put_clean = both (codes "put ") (search rules) (search rules)

add_clean : (b : ℕ) → IsBreak b → HasNone b (codes "add ")
add_clean = both (codes "add ") (search rules) (search rules)

take_clean : (b : ℕ) → IsBreak b → HasNone b (codes "take")
take_clean = both (codes "take") (search rules) (search rules)

look_clean : (b : ℕ) → IsBreak b → HasNone b (codes "look")
look_clean = both (codes "look") (search rules) (search rules)

start_clean : (b : ℕ) → IsBreak b → HasNone b (codes "start ")
start_clean = both (codes "start ") (search rules) (search rules)

use_clean : (b : ℕ) → IsBreak b → HasNone b (codes "use ")
use_clean = both (codes "use ") (search rules) (search rules)

finish_clean : (b : ℕ) → IsBreak b → HasNone b (codes "finish ")
finish_clean = both (codes "finish ") (search rules) (search rules)

pub verb_clean : (b : ℕ) → IsBreak b → (v : Verb) → VerbFits v → HasNone b (verb_text v)
verb_clean b k (Put x) h = none_joined b (codes "put ") (decimal x) (put_clean b k) (none_in_number b x (no_digit b k) h)
verb_clean b k Take h = take_clean b k
verb_clean b k Look h = look_clean b k
verb_clean b k (Add x) h = none_joined b (codes "add ") (decimal x) (add_clean b k) (none_in_number b x (no_digit b k) h)

operation_clean : (b : ℕ) → IsBreak b → (d : Declaration) (a : OpId) → All IsName (operation_names d) → a.0 < 2 ^ 32 → HasNone b (operation_text d a)
operation_clean b k d a names lt = elim (cases_lt a.0 (length d.operations)) [
  | inl h ↦ let is = All-contains IsName (operation_names d) (operation_text d a) names (named d a h).1 in name_without b (operation_text d a) (no_word b k) is.word
  | inr h ↦ subst (HasNone b) (sym (numbered d a h)) (no_hash b k, none_in_number b a.0 (no_digit b k) (omega (arith, lt)))
]

attempt_clean : (b : ℕ) → IsBreak b → (d : Declaration) (a : Attempt) → All IsName (operation_names d) → AttemptFits a → HasNone b (attempt_text d a)
attempt_clean b k d (Start a) names h = none_joined b (codes "start ") (operation_text d a) (start_clean b k) (operation_clean b k d a names h)
attempt_clean b k d (Apply n v) names h =
    none_joined b (codes "use ") (use_text n.0 v) (use_clean b k) (none_joined b (decimal n.0) (32 ∷ verb_text v) (none_in_number b n.0 (no_digit b k) h.0) (no_space b k, verb_clean b k v h.1))
attempt_clean b k d (Finish n) names h = none_joined b (codes "finish ") (decimal n.0) (finish_clean b k) (none_in_number b n.0 (no_digit b k) h)

pub line_clean : (b : ℕ) → IsBreak b → (d : Declaration) (e : Entry) → All IsName (operation_names d) → EntryFits e → HasNone b (line_text d e.0 e.1)
line_clean b k d e names h =
    none_joined b (decimal e.0) (32 ∷ attempt_text d e.1) (none_in_number b e.0 (no_digit b k) (let i = h.0 in omega (arith, i))) (no_space b k, attempt_clean b k d e.1 names h.1)

pub line_is_line : (d : Declaration) (e : Entry) → All IsName (operation_names d) → EntryFits e → HasNone 10 (line_text d e.0 e.1)
line_is_line d e names h = line_clean 10 (inl refl) d e names h

-- nor in a line that starts what isn't declared
pub undeclared_clean : (b : ℕ) → IsBreak b → (d : Declaration) (line : List ℕ) → IsUndeclaredLine d line → HasNone b line
undeclared_clean b k d line u =
    let start : HasNone b u.attempt = subst (HasNone b) (sym u.undeclared.spelled) (none_joined b (codes "start ") u.undeclared.name (start_clean b k) (name_without b u.undeclared.name (no_word b k) u.undeclared.is_name.word)) in
    subst (HasNone b) (sym u.spelled) (none_joined b (decimal u.worker) (32 ∷ u.attempt) (none_in_number b u.worker (no_digit b k) (let i = u.fits in omega (arith, i))) (no_space b k, start))

start_cut : (d : Declaration) (text r : List ℕ) (a : OpId) (rest : List ℕ) → text ≡ codes "start " ++ r → text ≡ (codes "start " ++ operation_text d a) ++ rest → r ≡ operation_text d a ++ rest
start_cut d text r a rest e f = cc

-- what stands behind `start ` up to the line's end is no operation, so the line is no attempt
pub no_start : (d : Declaration) (text r name after : List ℕ) → text ≡ codes "start " ++ r → r ≡ name ++ after → HasNone 10 name → EndsAt 10 after → All IsName (operation_names d) → ((a : OpId) → a.0 < 2 ^ 32 → name ≢ operation_text d a) → (a : Attempt) (rest : List ℕ) → AttemptFits a → EndsAt 10 rest → text ≢ attempt_text d a ++ rest
no_start d text r name after e cut clean stop names none (Start a) rest fits end f =
    none a fits (until_once 10 name (operation_text d a) after rest clean (operation_clean 10 (inl refl) d a names fits) stop end (sym cut ∙ start_cut d text r a rest e f)).0
no_start d text r name after e cut clean stop names none (Apply n v) rest fits end f = let i = same_head (sym e ∙ f) in absurd (omega (arith, i))
no_start d text r name after e cut clean stop names none (Finish n) rest fits end f = let i = same_head (sym e ∙ f) in absurd (omega (arith, i))

start_is_fault : (d : Declaration) (name line : List ℕ) (f : LineFault) → (Contains (operation_names d) name → ⊥) → (f ≡ line_faults.Undeclared ↔ IsName name) → line ≡ codes "start " ++ name → IsAttemptFault d line f
start_is_fault d name line line_faults.Undeclared unnamed is spelled = record { name = name; is_name = is.0 refl; undeclared = unnamed; spelled = spelled }
start_is_fault d name line line_faults.Bad unnamed is spelled = λ u.
    let same : u.name ≡ name = start_name (sym u.spelled ∙ spelled) in
    let other : line_faults.Bad ≡ line_faults.Undeclared = is.1 (subst IsName same u.is_name) in
    cc

-- a start of no operation is undeclared if and only if there is a name
pub start_fault : (d : Declaration) (text r name after : List ℕ) (f : LineFault) → text ≡ codes "start " ++ r → r ≡ name ++ after → HasNone 10 name → EndsAt 10 after → (Contains (operation_names d) name → ⊥) → (f ≡ line_faults.Undeclared ↔ IsName name) → (line : List ℕ) → IsFirstLine line text → IsAttemptFault d line f
start_fault d text r name after f e cut clean stop unnamed is line first =
    let p = ends_first line text first in
    let whole : text ≡ (codes "start " ++ name) ++ after = e ∙ ap (λ v. codes "start " ++ v) cut in
    let spelled : line ≡ codes "start " ++ name = (until_once 10 line (codes "start " ++ name) p.0 after first.0 (none_joined 10 (codes "start ") name (start_clean 10 (inl refl)) clean) p.1 stop (sym p.2 ∙ whole)).0 in
    start_is_fault d name line f unnamed is spelled

-- a text with a faulty line is the text of no attempts
pub no_attempts : (d : Declaration) (text : List ℕ) (n : ℕ) (line : List ℕ) → All IsName (operation_names d) → IsFaultyLine d text n line → (es : List Entry) → IsAttemptsText d text es → ⊥
no_attempts d text n line names f es t =
    let none : (e : Entry) → EntryFits e → line ≢ line_text d e.0 e.1 = λ e fit is. f.none e.0 e.1 fit.0 fit.1 is in
    let spelled = subst (λ x. (x ≡ entries_text d es) ⊎ (x ++ 10 ∷ [] ≡ entries_text d es)) f.parts t.spelled in
    refuted Entry (entry_text d) EntryFits (λ e fit. line_is_line d e names fit) f.before f.rest line es f.fits t.fits f.more f.first none spelled

-- the fault of a text
pub fault_text : (d : Declaration) (text : List ℕ) (n : ℕ) (f : LineFault) → IsFaultAt d text n f → IsTextFault d text (fault_of n f)
fault_text d text n line_faults.Bad at = at
fault_text d text n line_faults.Undeclared at = at

pub none_at_fault : (d : Declaration) (text : List ℕ) (n : ℕ) (f : LineFault) → All IsName (operation_names d) → IsFaultAt d text n f → (es : List Entry) → IsAttemptsText d text es → ⊥
none_at_fault d text n f names at es t = no_attempts d text n at.0 names at.1 es t

-- behind no attempts does a text whose first line is none go on as a text of attempts
pub no_rest : (d : Declaration) (text : List ℕ) (f : LineFault) → All IsName (operation_names d) → IsFirstFault d text f → text ≢ [] → IsNoRest d text
no_rest d text f names at more before fits es t =
    no_attempts d (entries_text d before ++ text) (length before) at.0 names (record {
      before = before;
      rest = text;
      count = refl;
      fits = fits;
      parts = refl;
      more = more;
      first = at.1;
      none = at.2;
    }) es t
