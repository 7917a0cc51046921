-- No line of a journal and no head has a zero byte.
use Rattle.std.proofs.Common.{◌≡◌, ℕ, ◌<◌, ◌≤◌, ◌^◌, Bool, true, false, List, [], ◌∷◌, ◌++◌, length, inl, inr, All, codes, decimal, rules, refl, sym, ap, subst, arith}
use Rattle.std.proofs.lemmas.List.{length-map}
use Rattle.std.proofs.lemmas.List.Elements.{All-contains}
use Rattle.std.proofs.lemmas.Bool.{cases_lt}
use Rattle.std.proofs.lemmas.Option.{slice_get_past}
use Rattle.path_model.specs.declared.ids.OpId.{OpId}
use Rattle.path_model.specs.declared.journal.Verb.{Verb}
use Rattle.path_model.specs.declared.journal.Verb.TheVariants.{Put, Take, Look, Add}
use Rattle.path_model.specs.declared.journal.Attempt.{Attempt}
use Rattle.path_model.specs.declared.journal.Attempt.TheVariants.{Start, Apply, Finish}
use Rattle.path_model.specs.declared.journal.Reply.{Reply}
use Rattle.path_model.specs.declared.journal.Reply.TheVariants.{Started, Blocked, Used}
use Rattle.path_model.specs.declared.journal.Line.{Line}
use Rattle.path_model.specs.Declarations.{Declaration}
use Rattle.path_model.specs.Rooms.{IsRoom}
use Rattle.path_lex.specs.Bytes.{is_word_byte, class_of}
use Rattle.path_lex.specs.Names.{IsName}
use Rattle.path_decl.specs.Lawful.{AreDistinctNames}
use Rattle.path_fields.specs.Splits.{HasNone, IsDigit}
use Rattle.path_fields.proofs.CallerLemmas.{none_joined, none_in_number}
use Rattle.path_lines.specs.LineTexts.{verb_text, operation_names, operation_text, name_or_number, attempt_text, line_text, reply_text, journal_line_text, AttemptFits, VerbFits}
use Rattle.path_lines.proofs.CallerLemmas.{named, name_without}
use Rattle.path_journal.specs.declared.version.Version.TheVariants.{Three}
use Rattle.path_journal.specs.JournalTexts.{ReplyFits, LineFits, journal_line, Kept, KeptFits, mark, kept_line, kept_head}
use Rattle.path_journal.specs.JournalFaults.{IsUndeclared}
use Rattle.path_journal.specs.CutTexts.{front_of}

no_digit : IsDigit 0 → ⊥
no_digit i = let low = i.0 in omega (arith, low)

number_clean : (n : ℕ) → n < 2 ^ 64 → HasNone 0 (decimal n)
number_clean n small = none_in_number 0 n no_digit small

zero_outside : is_word_byte 0 ≡ false
unfolding class_of
zero_outside = refl

name_clean : (name : List ℕ) → IsName name → HasNone 0 name
name_clean name is = name_without 0 name zero_outside is.word

verb_clean : (v : Verb) → VerbFits v → HasNone 0 (verb_text v)
verb_clean (Put x) h = none_joined 0 (codes "put ") (decimal x) (search rules) (number_clean x h)
verb_clean Take h = search rules
verb_clean Look h = search rules
verb_clean (Add x) h = none_joined 0 (codes "add ") (decimal x) (search rules) (number_clean x h)

operation_clean : (d : Declaration) (a : OpId) → All IsName (operation_names d) → a.0 < 2 ^ 32 → HasNone 0 (operation_text d a)
operation_clean d a names small = elim (cases_lt a.0 (length d.operations)) [
  | inl lt ↦ name_clean (operation_text d a) (All-contains IsName (operation_names d) (operation_text d a) names (named d a lt).1)
  | inr le ↦ (
      let past : length (operation_names d) ≤ a.0 = let n : length (operation_names d) ≡ length d.operations = length-map d.operations (λ o. o.name) in omega (arith, n, le) in
      let spelled : operation_text d a ≡ 35 ∷ decimal a.0 = ap (λ o. name_or_number o a.0) (slice_get_past (operation_names d) a.0 past) in
      subst (HasNone 0) (sym spelled) ((λ e. omega (arith, e)), number_clean a.0 (omega (arith, small))))
]

attempt_clean : (d : Declaration) (a : Attempt) → All IsName (operation_names d) → AttemptFits a → HasNone 0 (attempt_text d a)
attempt_clean d (Start a) names h = none_joined 0 (codes "start ") (operation_text d a) (search rules) (operation_clean d a names h)
attempt_clean d (Apply n v) names h = none_joined 0 (codes "use ") (decimal n.0 ++ (32 ∷ verb_text v)) (search rules) (none_joined 0 (decimal n.0) (32 ∷ verb_text v) (number_clean n.0 h.0) ((λ e. omega (arith, e)), verb_clean v h.1))
attempt_clean d (Finish n) names h = none_joined 0 (codes "finish ") (decimal n.0) (search rules) (number_clean n.0 h)

reply_clean : (r : Reply) → ReplyFits r → HasNone 0 (reply_text r)
reply_clean (Started n) h = none_joined 0 (codes "started ") (decimal n.0) (search rules) (number_clean n.0 h)
reply_clean (Blocked p) h = none_joined 0 (codes "blocked ") (decimal p.0) (search rules) (number_clean p.0 (omega (arith, h)))
reply_clean (Used x) h = none_joined 0 (codes "used ") (decimal x) (search rules) (number_clean x h)
reply_clean r h = search rules

told_clean : (r : Reply) → ReplyFits r → HasNone 0 (58 ∷ 32 ∷ reply_text r)
told_clean r h = ((λ e. omega (arith, e)), ((λ e. omega (arith, e)), reply_clean r h))

module _ (d : Declaration) (names : AreDistinctNames (operation_names d)) where
  text_clean : (l : Line) → LineFits l → HasNone 0 (journal_line_text d l)
  text_clean l h =
      let small : l.worker < 2 ^ 64 = let i = h.worker in omega (arith, i) in
      none_joined 0 (line_text d l.worker l.attempt) (58 ∷ 32 ∷ reply_text l.reply)
      (none_joined 0 (decimal l.worker) (32 ∷ attempt_text d l.attempt) (number_clean l.worker small) ((λ e. omega (arith, e)), attempt_clean d l.attempt names.each h.attempt))
      (told_clean l.reply h.reply)

  pub line_clean : (l : Line) → LineFits l → HasNone 0 (journal_line d l)
  line_clean l h = none_joined 0 (journal_line_text d l) (10 ∷ []) (text_clean l h) ((λ e. omega (arith, e)), tt)

  mark_clean : (m : Bool) → HasNone 0 (mark m)
  mark_clean true = ((λ e. omega (arith, e)), tt)
  mark_clean false = tt

  pub kept_clean : (marks : Bool) (k : Kept) → KeptFits marks k → HasNone 0 (kept_line d k)
  kept_clean marks k h = none_joined 0 (mark k.0) (journal_line d k.1) (mark_clean k.0) (line_clean k.1 h.line)

  -- nor has a line that is right but for its name
  pub undeclared_clean : (m : Bool) (line : List ℕ) → IsUndeclared d line → HasNone 0 (mark m ++ (line ++ 10 ∷ []))
  undeclared_clean m line u =
      let small : u.undeclared.worker < 2 ^ 64 = let i = u.undeclared.fits in omega (arith, i) in
      let starts : HasNone 0 u.undeclared.attempt = subst (HasNone 0) (sym u.undeclared.undeclared.spelled) (none_joined 0 (codes "start ") u.undeclared.undeclared.name (search rules) (name_clean u.undeclared.undeclared.name u.undeclared.undeclared.is_name)) in
      let attempt : HasNone 0 u.attempt = subst (HasNone 0) (sym u.undeclared.spelled) (none_joined 0 (decimal u.undeclared.worker) (32 ∷ u.undeclared.attempt) (number_clean u.undeclared.worker small) ((λ e. omega (arith, e)), starts)) in
      let whole : HasNone 0 line = subst (HasNone 0) (sym u.spelled) (none_joined 0 u.attempt (58 ∷ 32 ∷ reply_text u.reply) attempt (told_clean u.reply u.fits)) in
      none_joined 0 (mark m) (line ++ 10 ∷ []) (mark_clean m) (none_joined 0 line (10 ∷ []) whole ((λ e. omega (arith, e)), tt))

pub front_clean : (room : ℕ) → IsRoom room → HasNone 0 (front_of (Three room))
front_clean room is =
    let small : room < 2 ^ 64 = let few = is.1 in omega (arith, few) in
    none_joined 0 (kept_head room) (10 ∷ []) (none_joined 0 (codes "journal 3 room ") (decimal room) (search rules) (number_clean room small)) ((λ e. omega (arith, e)), tt)
