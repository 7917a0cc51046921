-- What a command refuses, and how it then ends.
use Rattle.std.specs.Prelude.{◌≢◌, ◌<◌, ◌≤◌, ◌⊎◌, ℕ, List, length, Option, None}
use Rattle.path_model.specs.declared.journal.Line.{Line}
use Rattle.path_model.specs.Declarations.{Declaration}
use Rattle.path_model.specs.Rooms.{IsBadRoom}
use Rattle.path_decl.specs.Text.{IsDeclarationText}
use Rattle.path_lines.specs.AttemptTexts.{Entry, IsAttemptsText}
use Rattle.path_journal.specs.JournalTexts.{IsJournalText, IsNoJournalText}
use Rattle.path_shelf.specs.States.{State}
use Rattle.path_system.specs.declared.fault.OpenFault.{OpenFault}
use Rattle.path_system.specs.declared.fault.OpenFault.TheVariants.{OutOfMemory}
use Rattle.path_system.specs.Faults.{IsOpenFault}
use Rattle.tell_base.specs.declared.status.Status.{Status}
use Rattle.tell_base.specs.declared.status.Status.TheVariants.{DeclarationRefused, NoMemory}

-- P holds of the declaration in a text
abbrev pub Under : List ℕ → (Declaration → Type 0) → Type 0
Under text P = (d : Declaration) × IsDeclarationText text d × P d

-- the text isn't a declaration
abbrev pub IsNoDeclaration : List ℕ → Type 0
IsNoDeclaration text = (d : Declaration) → IsDeclarationText text d → ⊥

-- how a command on a declaration's text ends before anything is written
abbrev pub IsUndeclared : List ℕ → Status → Type 0
IsUndeclared text DeclarationRefused = IsNoDeclaration text
IsUndeclared text NoMemory = Unit {0}
IsUndeclared text status = ⊥

-- the text isn't too long, and is a list of attempts
pub record HasAttempts (d : Declaration) (text : List ℕ) : Type 0 where
  pub short : length text ≤ 134217728
  pub entries : List Entry
  pub listed : IsAttemptsText d text entries

-- the text is too long, or isn't a list of attempts
abbrev pub IsBadAttempts : Declaration → List ℕ → Type 0
IsBadAttempts d text = (134217728 < length text) ⊎ ((es : List Entry) → IsAttemptsText d text es → ⊥)

-- a system can't be opened over these devices with this room, for another reason than memory
abbrev pub IsUnopened : Declaration → List State → ℕ → Type 0
IsUnopened d states room = (fault : OpenFault) × (fault ≢ OutOfMemory) × IsOpenFault room states d fault

-- the text is too long, or isn't a journal
abbrev pub IsBadJournal : Declaration → List ℕ → Type 0
IsBadJournal d text = (134217728 < length text) ⊎ IsNoJournalText d text

-- the text is a journal that names no room, and the room that is given is out of range
pub record LacksRoom (d : Declaration) (room : ℕ) (text : List ℕ) : Type 0 where
  pub lines : List Line
  pub told : IsJournalText d text None lines
  pub bad : IsBadRoom room
