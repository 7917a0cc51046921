-- Faults of texts that aren't journals.
use Rattle.std.specs.Prelude.{◌≡◌, ◌≢◌, ℕ, ◌+◌, ◌<◌, Bool, true, List, [], ◌∷◌, ◌++◌, length, codes, All, ◌⊎◌, Option, Some, None}
use Rattle.path_model.specs.declared.journal.Reply.{Reply}
use Rattle.path_model.specs.declared.journal.Line.{Line}
use Rattle.path_model.specs.Declarations.{Declaration}
use Rattle.path_model.specs.Rooms.{IsRoom}
use Rattle.path_lines.specs.declared.entry.LineFault.{LineFault}
use Rattle.path_lines.specs.declared.entry.LineFault.TheVariants as line_faults
use Rattle.path_lines.specs.declared.texts.TextFault.{TextFault}
use Rattle.path_lines.specs.declared.texts.TextFault.TheVariants as faults
use Rattle.path_lines.specs.LineTexts.{reply_text, journal_line_text}
use Rattle.path_lines.specs.AttemptTexts.{IsUndeclaredLine, IsFirstLine}
use Rattle.path_journal.specs.JournalTexts.{ReplyFits, LineFits, head_text, kept_head, RoomFits, journal_text, lines_text}
use Rattle.path_journal.specs.JournalTexts.{Kept, KeptFits, mark, kept_line, kept_text}

-- no line of a journal has this text
abbrev pub IsNoLine : Declaration → List ℕ → Type 0
IsNoLine d text = (l : Line) → LineFits l → text ≢ journal_line_text d l

-- the line is right except for the name that it starts
pub record IsUndeclared (d : Declaration) (line : List ℕ) : Type 0 where
  pub attempt : List ℕ
  pub reply : Reply
  pub undeclared : IsUndeclaredLine d attempt
  pub fits : ReplyFits reply
  pub spelled : line ≡ attempt ++ (codes ": " ++ reply_text reply)

-- the fault of a line
abbrev pub IsRecordFault : Declaration → List ℕ → LineFault → Type 0
IsRecordFault d line line_faults.Bad = IsUndeclared d line → ⊥
IsRecordFault d line line_faults.Undeclared = IsUndeclared d line

-- the first line of a text isn't a line of a journal, and this is its fault
abbrev pub IsFirstRecordFault : Declaration → List ℕ → LineFault → Type 0
IsFirstRecordFault d text fault = (line : List ℕ) × IsFirstLine line text × IsNoLine d line × IsRecordFault d line fault

-- how many lines precede those of the journal
abbrev pub lines_before : Option ℕ → ℕ
lines_before None = 0
lines_before (Some room) = 1

-- the text has these lines, and then this line, which isn't a line of a journal
pub record AreFaultyLines (d : Declaration) (text : List ℕ) (before : List Line) (line : List ℕ) : Type 0 where
  pub rest : List ℕ
  pub fits : All LineFits before
  pub parts : text ≡ lines_text d before ++ rest
  pub more : rest ≢ []
  pub first : IsFirstLine line rest
  pub none : IsNoLine d line

-- the first faulty line is line n, and this is its fault
pub record AreLinesAtFault (d : Declaration) (text : List ℕ) (n : ℕ) (kind : LineFault) : Type 0 where
  pub before : List Line
  pub line : List ℕ
  pub count : length before ≡ n
  pub faulty : AreFaultyLines d text before line
  pub fault : IsRecordFault d line kind

-- the fault of lines that follow `before` others
abbrev pub IsLinesFault : Declaration → List ℕ → ℕ → TextFault → Type 0
IsLinesFault d text before faults.TooLong = ⊥
IsLinesFault d text before (faults.BadLine n) = (k : ℕ) × (n ≡ before + k) × AreLinesAtFault d text k line_faults.Bad
IsLinesFault d text before (faults.Undeclared n) = (k : ℕ) × (n ≡ before + k) × AreLinesAtFault d text k line_faults.Undeclared
IsLinesFault d text before faults.OutOfMemory = Unit {0}

-- the text, of version 1 or 2, has n lines that are right, and then this line, which isn't a line of a journal nor, as the first line, a
-- head
pub record IsFaultyLine (d : Declaration) (text : List ℕ) (n : ℕ) (line : List ℕ) : Type 0 where
  pub room : Option ℕ
  pub before : List Line
  pub rest : List ℕ
  pub count : lines_before room + length before ≡ n
  pub room_fits : RoomFits room
  pub fits : All LineFits before
  pub parts : text ≡ journal_text d room before ++ rest
  pub more : rest ≢ []
  pub first : IsFirstLine line rest
  pub none : IsNoLine d line
  pub no_head : n ≡ 0 → (m : ℕ) → IsRoom m → (line ≢ head_text m) × (line ≢ kept_head m)

-- the first faulty line of a text of version 1 or 2 is line n, and this is its fault
abbrev pub IsPlainFaultAt : Declaration → List ℕ → ℕ → LineFault → Type 0
IsPlainFaultAt d text n fault = (line : List ℕ) × IsFaultyLine d text n line × IsRecordFault d line fault

-- the text doesn't begin with a line that has its line feed
abbrev pub BeginsNoLine : Declaration → Bool → List ℕ → Type 0
BeginsNoLine d marks text = (k : Kept) (after : List ℕ) → KeptFits marks k → text ≢ kept_line d k ++ after

-- the text begins with a line without a mark that has its line feed, and is right except for the name that it starts
abbrev pub HasUndeclaredFirst : Declaration → List ℕ → Type 0
HasUndeclaredFirst d text = (line : List ℕ) × (after : List ℕ) × IsUndeclared d line × (text ≡ line ++ 10 ∷ after)

-- the same of a text that may begin with a mark
pub record BeginsUndeclared (d : Declaration) (marks : Bool) (text : List ℕ) : Type 0 where
  pub marked : Bool
  pub allowed : marked ≡ true → marks ≡ true
  pub behind : List ℕ
  pub first : HasUndeclaredFirst d behind
  pub parts : text ≡ mark marked ++ behind

-- the fault of the line of version 3 with which a text begins
abbrev pub IsKeptLineFault : Declaration → List ℕ → LineFault → Type 0
IsKeptLineFault d text line_faults.Bad = BeginsUndeclared d true text → ⊥
IsKeptLineFault d text line_faults.Undeclared = BeginsUndeclared d true text

-- the text has n lines of version 3, and then one that is none or lacks its line feed, and this is its fault
pub record AreKeptLinesAtFault (d : Declaration) (text : List ℕ) (n : ℕ) (kind : LineFault) : Type 0 where
  pub before : List Kept
  pub rest : List ℕ
  pub count : length before ≡ n
  pub fits : All (KeptFits true) before
  pub parts : text ≡ kept_text d before ++ rest
  pub more : rest ≢ []
  pub none : BeginsNoLine d true rest
  pub fault : IsKeptLineFault d rest kind

-- the fault of lines of version 3, before which stands the head
abbrev pub IsKeptLinesFault : Declaration → List ℕ → TextFault → Type 0
IsKeptLinesFault d text faults.TooLong = ⊥
IsKeptLinesFault d text (faults.BadLine n) = (k : ℕ) × (n ≡ 1 + k) × AreKeptLinesAtFault d text k line_faults.Bad
IsKeptLinesFault d text (faults.Undeclared n) = (k : ℕ) × (n ≡ 1 + k) × AreKeptLinesAtFault d text k line_faults.Undeclared
IsKeptLinesFault d text faults.OutOfMemory = Unit {0}

-- the text has a head of version 3, and behind it these faulty lines
abbrev pub HasKeptFault : Declaration → List ℕ → TextFault → Type 0
HasKeptFault d text e = (room : ℕ) × (body : List ℕ) × IsRoom room × (text ≡ kept_head room ++ 10 ∷ body) × IsKeptLinesFault d body e

-- the text is a head of version 3 without its line feed
abbrev pub IsOpenHead : List ℕ → Type 0
IsOpenHead text = (room : ℕ) × IsRoom room × (text ≡ kept_head room)

-- the first faulty line of a text is line n, and this is its fault
abbrev pub IsFaultAt : Declaration → List ℕ → ℕ → LineFault → Type 0
IsFaultAt d text n line_faults.Bad =
    IsPlainFaultAt d text n line_faults.Bad ⊎ HasKeptFault d text (faults.BadLine n) ⊎ ((n ≡ 0) × IsOpenHead text)
IsFaultAt d text n line_faults.Undeclared =
    IsPlainFaultAt d text n line_faults.Undeclared ⊎ HasKeptFault d text (faults.Undeclared n)

-- the fault of a text: it is too long, or its first faulty line has this fault
abbrev pub IsJournalFault : Declaration → List ℕ → TextFault → Type 0
IsJournalFault d text faults.TooLong = 134217728 < length text
IsJournalFault d text (faults.BadLine n) = IsFaultAt d text n line_faults.Bad
IsJournalFault d text (faults.Undeclared n) = IsFaultAt d text n line_faults.Undeclared
IsJournalFault d text faults.OutOfMemory = Unit {0}

-- the fault of a text that isn't of version 3
abbrev pub IsPlainFault : Declaration → List ℕ → TextFault → Type 0
IsPlainFault d text faults.TooLong = ⊥
IsPlainFault d text (faults.BadLine n) = IsPlainFaultAt d text n line_faults.Bad
IsPlainFault d text (faults.Undeclared n) = IsPlainFaultAt d text n line_faults.Undeclared
IsPlainFault d text faults.OutOfMemory = Unit {0}
