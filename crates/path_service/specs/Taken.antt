-- What a service does with lines that others answered.
use Rattle.std.specs.Prelude.{◌≡◌, ◌≢◌, ℕ, Bool, List, [], ◌∷◌, ◌++◌, length, take, slice_get, Option, Some, None}
use Rattle.path_model.specs.declared.journal.Attempt.{Attempt}
use Rattle.path_model.specs.declared.journal.Line.{Line}
use Rattle.path_model.specs.declared.journal.Reply.{Reply}
use Rattle.path_model.specs.declared.journal.Reply.TheVariants as replies
use Rattle.path_model.specs.Declarations.{Declaration}
use Rattle.path_model.specs.Rooms.{IsBadRoom}
use Rattle.path_model.specs.Segments.{OwedBehind, joined}
use Rattle.path_decl.specs.Text.{IsDeclarationText}
use Rattle.path_journal.specs.declared.version.Version.{Version}
use Rattle.path_journal.specs.declared.version.Version.TheVariants.{One, Two, Three}
use Rattle.path_journal.specs.CutTexts.{IsCutFault, IsCutJournal}
use Rattle.path_system.specs.Accounts.{Account, account_of}
use Rattle.path_system.specs.Taken.{IsNext, IsTaken}
use Rattle.tell_base.specs.Own.{own_states}
use Rattle.tell_base.specs.Refusals.{Under}
use Rattle.path_service.specs.declared.fault.ResumeRefusal.{ResumeRefusal}
use Rattle.path_service.specs.declared.fault.ResumeRefusal.TheVariants as refusals
use Rattle.path_service.specs.declared.taking.TakenText.{TakenText}
use Rattle.path_service.specs.ReadFaults.{IsReadFault}
use Rattle.path_service.specs.Serving.{Serving, settled}

-- the reply is owed to the attempt by all lines so far, and no device fails
pub record IsOwedNow (account : Account) (worker : ℕ) (attempt : Attempt) (reply : Reply) : Type 0 where
  pub owed : OwedBehind account.declaration account.room account.openings (joined account.earlier) account.journal worker attempt reply
  pub served : reply ≢ replies.DeviceFailed

-- the line is taken over, and kept or given up behind that
pub record TakesLine (old : Serving) (line : Line) (new : Serving) : Type 0 where
  pub behind : Account
  pub taken : IsTaken old.account line behind
  pub left : new ≡ record { account = settled old.keeps behind; keeps = old.keeps }

-- the lines are taken over, one after another
pub data TakesLines (old : Serving) : List Line → Serving → Type 0 where
  none : TakesLines old [] old
  more :
      (lines : List Line) (line : Line) (behind new : Serving) → TakesLines old lines behind → TakesLine behind line new
      → TakesLines old (lines ++ line ∷ []) new

-- the line isn't the next: this reply is owed to its attempt
pub record IsUnowed (now : Serving) (line : Line) (reply : Reply) : Type 0 where
  pub other : IsNext now.account line → ⊥
  pub owed : IsOwedNow now.account line.worker line.attempt reply

-- the lines before line n are taken over, and line n isn't the next: this reply is owed to its attempt
pub record StopsAt (old : Serving) (lines : List Line) (n : ℕ) (reply : Reply) (new : Serving) : Type 0 where
  pub line : Line
  pub at : slice_get lines n ≡ Some line
  pub taken : TakesLines old (take n lines) new
  pub unowed : IsUnowed new line reply

-- so many lines are taken over: all, or those before the first that isn't the next
abbrev pub TakesSome : Serving → List Line → ℕ → Option Reply → Serving → Type 0
TakesSome old lines n None new = (n ≡ length lines) × TakesLines old lines new
TakesSome old lines n (Some reply) new = StopsAt old lines n reply new

-- the text has whole lines in so many bytes, and so many of them are taken over
pub record TakesText (old : Serving) (text : List ℕ) (taken : TakenText) (new : Serving) : Type 0 where
  pub version : Version
  pub lines : List Line
  pub cut : IsCutJournal old.account.declaration text version lines taken.bytes
  pub some : TakesSome old lines taken.lines taken.owed new

-- the room that a journal's text names, or else the one that is given
abbrev pub room_in : Version → ℕ → ℕ
room_in One room = room
room_in (Two named) room = named
room_in (Three named) room = named

-- a service that is just opened
abbrev pub fresh : Declaration → ℕ → Bool → Serving
fresh d room keeps = record { account = account_of d room (own_states d); keeps = keeps }

-- the service goes on behind the journal in the second text, under the declaration in the first
pub record IsResumed (text : List ℕ) (room : ℕ) (keeps : Bool) (journal : List ℕ) (bytes : ℕ) (service : Serving) : Type 0 where
  pub declaration : Declaration
  pub declared : IsDeclarationText text declaration
  pub version : Version
  pub lines : List Line
  pub cut : IsCutJournal declaration journal version lines bytes
  pub taken : TakesLines (fresh declaration (room_in version room) keeps) lines service

-- the declaration and the journal are texts, and no journal can have the room
pub record HasBadRoom (text : List ℕ) (room : ℕ) (journal : List ℕ) : Type 0 where
  pub declaration : Declaration
  pub declared : IsDeclarationText text declaration
  pub version : Version
  pub lines : List Line
  pub bytes : ℕ
  pub cut : IsCutJournal declaration journal version lines bytes
  pub bad : IsBadRoom (room_in version room)

-- line n of the journal is the first whose reply isn't owed: this one is
pub record IsWrongAt (text : List ℕ) (room : ℕ) (keeps : Bool) (journal : List ℕ) (n : ℕ) (reply : Reply) : Type 0 where
  pub declaration : Declaration
  pub declared : IsDeclarationText text declaration
  pub version : Version
  pub lines : List Line
  pub bytes : ℕ
  pub cut : IsCutJournal declaration journal version lines bytes
  pub new : Serving
  pub stops : StopsAt (fresh declaration (room_in version room) keeps) lines n reply new

-- why no service goes on behind the journal
abbrev pub IsResumeRefusal : List ℕ → ℕ → Bool → List ℕ → ResumeRefusal → Type 0
IsResumeRefusal text room keeps journal (refusals.Declaration fault) = IsReadFault text fault
IsResumeRefusal text room keeps journal (refusals.Journal fault) = Under text (λ d. IsCutFault d journal fault)
IsResumeRefusal text room keeps journal refusals.BadRoom = HasBadRoom text room journal
IsResumeRefusal text room keeps journal (refusals.WrongLine n reply) = IsWrongAt text room keeps journal n reply
IsResumeRefusal text room keeps journal refusals.OutOfMemory = Unit {0}
