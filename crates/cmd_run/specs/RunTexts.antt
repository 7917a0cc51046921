-- What a run writes: the journal of an honest system, whose lines are what the processes of the script did.
use Rattle.std.specs.Prelude.{◌≡◌, ℕ, ◌<◌, ◌⊎◌, List, [], length, Some}
use Rattle.path_model.specs.declared.journal.Line.{Line}
use Rattle.path_model.specs.Declarations.{Declaration}
use Rattle.path_model.specs.Honest.{IsHonest}
use Rattle.path_model.specs.Rooms.{IsBadRoom}
use Rattle.path_journal.specs.JournalTexts.{journal_text}
use Rattle.path_script.specs.Scripts.{Plan}
use Rattle.path_script.specs.ScriptTexts.{IsScriptText, IsNoScriptText}
use Rattle.path_shelf.specs.States.{State}
use Rattle.path_system.specs.Accounts.{contents_of}
use Rattle.path_workers.specs.Attempts.{Held}
use Rattle.path_workers.specs.Settled.{IsSettled}
use Rattle.path_run.specs.declared.outcome.End.{End}
use Rattle.path_run.specs.Runs.{EachRuns}
use Rattle.path_run.specs.Lines.{EachIsOrderly, EachIsBlockedNow}
use Rattle.tell_base.specs.declared.status.Status.{Status}
use Rattle.tell_base.specs.declared.status.Status.TheVariants.{Done, CommandRefused, NoMemory, Unsound}
use Rattle.tell_base.specs.Ends.{OfText, UnderText}
use Rattle.tell_base.specs.Own.{own_states}
use Rattle.tell_base.specs.Refusals.{IsUnopened}
use Rattle.cmd_run.specs.Ends.{AllDone, NotAllDone}

-- The plans were run over devices in these states, in a journal of this room: it has these lines then, and the processes ended so.
pub record IsRunOf (d : Declaration) (states : List State) (room : ℕ) (plans : List Plan) (lines : List Line)
    (ends : List End) : Type 0 where
  pub passes : List Held
  pub as_many : (length passes ≡ length plans) × (length ends ≡ length plans)
  pub honest : IsHonest d room (contents_of states) lines
  pub settled : IsSettled 0 lines passes
  pub runs : EachRuns plans passes ends
  pub orderly : EachIsOrderly lines passes ends
  pub blocked : EachIsBlockedNow d lines ends

-- The bytes are the text of the journal of a run of the script that a text is, and the processes ended so.
pub record IsRunText (d : Declaration) (states : List State) (room : ℕ) (script : List ℕ) (ended : List End → Type 0)
    (bytes : List ℕ) : Type 0 where
  pub plans : List Plan
  pub lines : List Line
  pub ends : List End
  pub read : IsScriptText d script plans
  pub run : IsRunOf d states room plans lines ends
  pub so : ended ends
  pub spelled : bytes ≡ journal_text d (Some room) lines

-- a script is too long, or is none of the declaration
abbrev pub IsBadScript : Declaration → List ℕ → Type 0
IsBadScript d script = (262144 < length script) ⊎ IsNoScriptText d script

-- what a run is refused for that ends so before anything is written
abbrev pub IsUnrun : Declaration → List State → ℕ → Status → Type 0
IsUnrun d states room CommandRefused = IsUnopened d states room
IsUnrun d states room NoMemory = Unit {0}
IsUnrun d states room Unsound = Unit {0}
IsUnrun d states room status = ⊥

-- What a run of a script writes: the journal, after which all processes are done, or some isn't. If the journal doesn't match what the
-- processes did, a run ends as unsound and writes nothing.
abbrev pub WritesRunOf : Declaration → List State → ℕ → List ℕ → Status → List ℕ → Type 0
WritesRunOf d states room script Done out = IsRunText d states room script AllDone out
WritesRunOf d states room script Unsound out = (out ≡ []) ⊎ IsRunText d states room script NotAllDone out
WritesRunOf d states room script status out = ⊥

-- how a run ends, of which no system can be opened for this reason
abbrev pub RunEnds : Declaration → List State → ℕ → List ℕ → Type 0 → Status → List ℕ → Type 0
RunEnds d states room script unopened = OfText (WritesRunOf d states room script) unopened (IsBadScript d script)

-- how a run over the program's own devices ends
abbrev pub OwnRunEnds : ℕ → List ℕ → Declaration → Status → List ℕ → Type 0
OwnRunEnds room script d = RunEnds d (own_states d) room script (IsBadRoom room)

-- the same, under the declaration that another text is
abbrev pub RunTextsEnd : List ℕ → ℕ → List ℕ → Status → List ℕ → Type 0
RunTextsEnd declaration room script = UnderText declaration (OwnRunEnds room script)
