-- Journals in texts that may end anywhere: cut off within a line, or with what a crash left behind the last whole line.
use Rattle.std.specs.Prelude.{◌≡◌, ◌≢◌, ℕ, ◌+◌, ◌<◌, Bool, true, false, List, [], ◌∷◌, ◌++◌, length, All, Option, Some, None}
use Rattle.path_model.specs.declared.journal.Line.{Line}
use Rattle.path_model.specs.Declarations.{Declaration}
use Rattle.path_model.specs.Rooms.{IsRoom}
use Rattle.path_lines.specs.declared.entry.LineFault.{LineFault}
use Rattle.path_lines.specs.declared.entry.LineFault.TheVariants as line_faults
use Rattle.path_lines.specs.declared.texts.TextFault.{TextFault}
use Rattle.path_lines.specs.declared.texts.TextFault.TheVariants as faults
use Rattle.path_journal.specs.declared.version.Version.{Version}
use Rattle.path_journal.specs.declared.version.Version.TheVariants.{One, Two, Three}
use Rattle.path_journal.specs.JournalTexts.{LineFits, journal_line, head_text, Kept, KeptFits, kept_text, lines_of, kept_head}
use Rattle.path_journal.specs.JournalFaults.{BeginsNoLine, BeginsUndeclared}

-- the text is these lines, and then the rest
pub record AreLinesRead (d : Declaration) (marks : Bool) (text : List ℕ) (ls : List Line) (rest : List ℕ) : Type 0 where
  pub kept : List Kept
  pub lines : lines_of kept ≡ ls
  pub fits : All (KeptFits marks) kept
  pub parts : text ≡ kept_text d kept ++ rest

-- somewhere in the text stands a line without a mark, behind a line feed and with its own
pub record HasLineBehind (d : Declaration) (text : List ℕ) : Type 0 where
  pub before : List ℕ
  pub line : Line
  pub after : List ℕ
  pub fits : LineFits line
  pub parts : text ≡ before ++ 10 ∷ (journal_line d line ++ after)

-- what a cut or a crash may leave behind the last whole line. A line without a mark says that all before it was on the disk, so
-- where one stands behind a broken line, that line isn't a torn end
pub record IsTornEnd (d : Declaration) (marks : Bool) (rest : List ℕ) : Type 0 where
  pub first : BeginsNoLine d marks rest
  pub declared : BeginsUndeclared d marks rest → ⊥
  pub behind : HasLineBehind d rest → ⊥

-- the text has these lines, and behind them a torn end or nothing
pub record AreCutLines (d : Declaration) (marks : Bool) (text : List ℕ) (ks : List Kept) (rest : List ℕ) : Type 0 where
  pub fits : All (KeptFits marks) ks
  pub parts : text ≡ kept_text d ks ++ rest
  pub torn : IsTornEnd d marks rest

-- why what stands behind the whole lines isn't a torn end
abbrev pub IsDamage : Declaration → Bool → List ℕ → LineFault → Type 0
IsDamage d marks rest line_faults.Bad = HasLineBehind d rest
IsDamage d marks rest line_faults.Undeclared = BeginsUndeclared d marks rest

-- the text has n whole lines, and then one that is broken and isn't a torn end
pub record AreDamagedLines (d : Declaration) (marks : Bool) (text : List ℕ) (n : ℕ) (fault : LineFault) : Type 0 where
  pub lines : List Kept
  pub rest : List ℕ
  pub count : length lines ≡ n
  pub fits : All (KeptFits marks) lines
  pub parts : text ≡ kept_text d lines ++ rest
  pub first : BeginsNoLine d marks rest
  pub damage : IsDamage d marks rest fault

-- what precedes the lines, with its line feed
abbrev pub front_of : Version → List ℕ
front_of One = []
front_of (Two room) = head_text room ++ 10 ∷ []
front_of (Three room) = kept_head room ++ 10 ∷ []

-- a room that is named is in range
abbrev pub VersionFits : Version → Type 0
VersionFits One = Unit {0}
VersionFits (Two room) = IsRoom room
VersionFits (Three room) = IsRoom room

-- the room that is named
abbrev pub room_of : Version → Option ℕ
room_of One = None
room_of (Two room) = Some room
room_of (Three room) = Some room

-- only version 3 marks lines
abbrev pub has_marks : Version → Bool
has_marks (Three room) = true
has_marks other = false

-- how many lines precede those of the journal
abbrev pub heads : Version → ℕ
heads One = 0
heads other = 1

-- the text begins with no whole head
abbrev pub HasNoHead : List ℕ → Type 0
HasNoHead text = (version : Version) (after : List ℕ) → VersionFits version → version ≢ One → text ≢ front_of version ++ after

-- the text is cut as a head and lines, of which the last `rest` is a torn end or nothing
pub record IsCut (d : Declaration) (text : List ℕ) (version : Version) (ks : List Kept) (rest : List ℕ) : Type 0 where
  pub version_fits : VersionFits version
  pub no_head : version ≡ One → HasNoHead text
  pub body : List ℕ
  pub parts : text ≡ front_of version ++ body
  pub lines : AreCutLines d (has_marks version) body ks rest

-- the text has a journal of this version with these lines in its first bytes, so many, and behind them a torn end or nothing
pub record IsCutJournal (d : Declaration) (text : List ℕ) (version : Version) (ls : List Line) (bytes : ℕ) : Type 0 where
  pub kept : List Kept
  pub rest : List ℕ
  pub cut : IsCut d text version kept rest
  pub lines : lines_of kept ≡ ls
  pub counted : bytes + length rest ≡ length text

-- line n of the text is damaged
pub record IsDamagedAt (d : Declaration) (text : List ℕ) (n : ℕ) (fault : LineFault) : Type 0 where
  pub version : Version
  pub version_fits : VersionFits version
  pub no_head : version ≡ One → HasNoHead text
  pub body : List ℕ
  pub parts : text ≡ front_of version ++ body
  pub place : ℕ
  pub counted : n ≡ heads version + place
  pub lines : AreDamagedLines d (has_marks version) body place fault

-- the fault of a text that isn't a journal which was cut
abbrev pub IsCutFault : Declaration → List ℕ → TextFault → Type 0
IsCutFault d text faults.TooLong = 134217728 < length text
IsCutFault d text (faults.BadLine n) = IsDamagedAt d text n line_faults.Bad
IsCutFault d text (faults.Undeclared n) = IsDamagedAt d text n line_faults.Undeclared
IsCutFault d text faults.OutOfMemory = Unit {0}

-- the text isn't a journal that was cut
abbrev pub IsNoCutJournal : Declaration → List ℕ → Type 0
IsNoCutJournal d text = (version : Version) (ls : List Line) (bytes : ℕ) → IsCutJournal d text version ls bytes → ⊥
