-- What is said of a journal: that it is sound, or its first wrong line with the reply that was owed.
use Rattle.std.specs.Prelude.{◌≡◌, ◌+◌, ℕ, Bool, true, false, List, [], ◌∷◌, ◌++◌, length, take, slice_get, codes, decimal, is_some}
use Rattle.std.specs.Prelude.{Option, Some}
use Rattle.std.specs.Option.{unwrap_or}
use Rattle.path_model.specs.declared.journal.Reply.{Reply}
use Rattle.path_model.specs.declared.journal.Line.{Line}
use Rattle.path_model.specs.Declarations.{Declaration}
use Rattle.path_model.specs.Owed.{Owed}
use Rattle.path_lines.specs.LineTexts.{journal_line_text, reply_text}
use Rattle.path_journal.specs.JournalTexts.{IsJournalText}
use Rattle.path_audit.specs.Verdicts.{IsFirstWrong}
use Rattle.tell_base.specs.declared.status.Status.{Status}
use Rattle.tell_base.specs.declared.status.Status.TheVariants as statuses
use Rattle.tell_base.specs.Ends.{OfJournal, UnderText}
use Rattle.tell_base.specs.Own.{own_openings}
use Rattle.cmd_audit.specs.Audits.{IsSoundText}

-- the number of line n in a text, counted from 1, where a head is line 1
abbrev pub number_in : Bool → ℕ → ℕ
number_in false n = n + 1
number_in true n = n + 2

-- a wrong line with its number, and the reply that was owed to it
abbrev pub owed_lines : Declaration → Bool → ℕ → Line → Reply → List ℕ
owed_lines d head n l owed =
    codes "line " ++ (decimal (number_in head n) ++ (codes " is wrong: " ++ (journal_line_text d l
    ++ (codes "\n   owed: " ++ (reply_text owed ++ 10 ∷ [])))))

-- a sound journal of so many lines
abbrev pub sound_line : ℕ → List ℕ
sound_line count = codes "sound: " ++ (decimal count ++ codes " lines\n")

-- the bytes begin by naming the first wrong line of a journal, and the reply that the lines before it owed to its attempt
pub record IsWrongTold (d : Declaration) (given : ℕ) (text bytes : List ℕ) : Type 0 where
  pub named : Option ℕ
  pub lines : List Line
  pub number : ℕ
  pub line : Line
  pub owed : Reply
  pub rest : List ℕ
  pub told : IsJournalText d text named lines
  pub first : IsFirstWrong d (unwrap_or named given) (own_openings d) lines number
  pub at : slice_get lines number ≡ Some line
  pub is_owed : Owed d (unwrap_or named given) (own_openings d) (take number lines) line.worker line.attempt owed
  pub spelled : bytes ≡ owed_lines d (is_some named) number line owed ++ rest

-- the text is that of an honest journal, and the bytes begin by saying how many lines it has
pub record IsSoundTold (d : Declaration) (given : ℕ) (text bytes : List ℕ) : Type 0 where
  pub named : Option ℕ
  pub lines : List Line
  pub rest : List ℕ
  pub told : IsJournalText d text named lines
  pub sound : IsSoundText d given text
  pub spelled : bytes ≡ sound_line (length lines) ++ rest

-- what is said of the journal in a text, by the status
abbrev pub IsJudgedText : Declaration → ℕ → List ℕ → Status → List ℕ → Type 0
IsJudgedText d given text statuses.Done bytes = IsSoundTold d given text bytes
IsJudgedText d given text statuses.Unsound bytes = IsWrongTold d given text bytes
IsJudgedText d given text status bytes = ⊥

-- a text grew by these bytes and by more
abbrev pub Begins : List ℕ → List ℕ → Type 0
Begins front bytes = (rest : List ℕ) × (bytes ≡ front ++ rest)

-- how an explanation of a journal ends
abbrev pub JudgementEnd : ℕ → List ℕ → Declaration → Status → List ℕ → Type 0
JudgementEnd room text d = OfJournal (IsJudgedText d room text) d room text

-- the same, under the declaration in another text
abbrev pub JudgementEnds : List ℕ → ℕ → List ℕ → Status → List ℕ → Type 0
JudgementEnds declaration room text = UnderText declaration (JudgementEnd room text)
