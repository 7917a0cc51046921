-- Texts of journals: a line for each line of the journal, and in versions 2 and 3 a first line that names the room.
use Rattle.std.specs.Prelude.{◌≡◌, ℕ, ◌<◌, ◌^◌, Bool, true, false, List, [], ◌∷◌, ◌++◌, map, codes, decimal, All, ◌⊎◌, Option, Some, None}
use Rattle.std.specs.List.{flat_map}
use Rattle.path_model.specs.declared.journal.Reply.{Reply}
use Rattle.path_model.specs.declared.journal.Reply.TheVariants.{Started, Blocked, Used}
use Rattle.path_model.specs.declared.journal.Line.{Line}
use Rattle.path_model.specs.Declarations.{Declaration}
use Rattle.path_model.specs.Rooms.{IsRoom}
use Rattle.path_lines.specs.LineTexts.{AttemptFits, journal_line_text}

-- the number of a path has at most 32 bits, any other at most 64
abbrev pub ReplyFits : Reply → Type 0
ReplyFits (Started n) = n.0 < 2 ^ 64
ReplyFits (Blocked p) = p.0 < 2 ^ 32
ReplyFits (Used x) = x < 2 ^ 64
ReplyFits r = Unit {0}

-- a worker's number has at most 32 bits
pub record LineFits (l : Line) : Type 0 where
  pub worker : l.worker < 2 ^ 32
  pub attempt : AttemptFits l.attempt
  pub reply : ReplyFits l.reply

-- a line and its line feed
abbrev pub journal_line : Declaration → Line → List ℕ
journal_line d l = journal_line_text d l ++ 10 ∷ []

-- the texts of all lines, in order
abbrev pub lines_text : Declaration → List Line → List ℕ
lines_text d ls = flat_map (journal_line d) ls

-- the first line of a text of version 2
abbrev pub head_text : ℕ → List ℕ
head_text room = codes "journal 2 room " ++ decimal room

-- a room that is named is in range
abbrev pub RoomFits : Option ℕ → Type 0
RoomFits None = Unit {0}
RoomFits (Some room) = IsRoom room

-- what precedes the lines: in version 2 the head
abbrev pub front_text : Option ℕ → List ℕ
front_text None = []
front_text (Some room) = head_text room ++ 10 ∷ []

-- the text of a journal, with its last line feed: version 1 names no room
abbrev pub journal_text : Declaration → Option ℕ → List Line → List ℕ
journal_text d room ls = front_text room ++ lines_text d ls

-- a text has these lines, one a line; the last line feed may be missing
pub record AreLinesOf (d : Declaration) (text : List ℕ) (ls : List Line) : Type 0 where
  pub fits : All LineFits ls
  pub spelled : (text ≡ lines_text d ls) ⊎ (text ++ 10 ∷ [] ≡ lines_text d ls)

-- a text of version 1 or 2 is that of a journal with this room and these lines; the last line feed may be missing
pub record IsPlainText (d : Declaration) (text : List ℕ) (room : Option ℕ) (ls : List Line) : Type 0 where
  pub room_fits : RoomFits room
  pub fits : All LineFits ls
  pub spelled : (text ≡ journal_text d room ls) ⊎ (text ++ 10 ∷ [] ≡ journal_text d room ls)

-- a line of version 3: whether it was written while the line before it may not have been on the disk, and the line itself
abbrev pub Kept : Type 0
Kept = Bool × Line

-- such a line begins with a plus sign
abbrev pub mark : Bool → List ℕ
mark true = 43 ∷ []
mark false = []

-- a line with its mark and its line feed
abbrev pub kept_line : Declaration → Kept → List ℕ
kept_line d k = mark k.0 ++ journal_line d k.1

-- the texts of all lines, in order
abbrev pub kept_text : Declaration → List Kept → List ℕ
kept_text d ks = flat_map (kept_line d) ks

-- the lines without their marks
abbrev pub lines_of : List Kept → List Line
lines_of ks = map (λ k. k.1) ks

-- a line is in range, and has a mark only where lines may have one
pub record KeptFits (marks : Bool) (k : Kept) : Type 0 where
  pub line : LineFits k.1
  pub marked : k.0 ≡ true → marks ≡ true

-- the first line of a text of version 3
abbrev pub kept_head : ℕ → List ℕ
kept_head room = codes "journal 3 room " ++ decimal room

-- a text is these lines of version 3, each with its line feed
pub record AreKeptLines (d : Declaration) (text : List ℕ) (ls : List Line) : Type 0 where
  pub kept : List Kept
  pub lines : lines_of kept ≡ ls
  pub fits : All (KeptFits true) kept
  pub spelled : text ≡ kept_text d kept

-- a text of version 3 is that of a journal with this room and these lines
abbrev pub IsKeptText : Declaration → List ℕ → Option ℕ → List Line → Type 0
IsKeptText d text None ls = ⊥
IsKeptText d text (Some room) ls = (body : List ℕ) × (text ≡ kept_head room ++ 10 ∷ body) × AreKeptLines d body ls

-- the text is that of a journal with this room and these lines, of any version
pub record IsJournalText (d : Declaration) (text : List ℕ) (room : Option ℕ) (ls : List Line) : Type 0 where
  pub room_fits : RoomFits room
  pub told : IsPlainText d text room ls ⊎ IsKeptText d text room ls

-- no lines have the text
abbrev pub AreNoLines : Declaration → List ℕ → Type 0
AreNoLines d text = (ls : List Line) → AreLinesOf d text ls → ⊥

-- no lines of version 3 have the text
abbrev pub AreNoKeptLines : Declaration → List ℕ → Type 0
AreNoKeptLines d text = (ls : List Line) → AreKeptLines d text ls → ⊥

-- no journal of version 1 or 2 has the text
abbrev pub IsNoPlainText : Declaration → List ℕ → Type 0
IsNoPlainText d text = (room : Option ℕ) (ls : List Line) → IsPlainText d text room ls → ⊥

-- no journal has the text
abbrev pub IsNoJournalText : Declaration → List ℕ → Type 0
IsNoJournalText d text = (room : Option ℕ) (ls : List Line) → IsJournalText d text room ls → ⊥
