-- What a search of all schedules writes.
use Rattle.std.specs.Prelude.{◌≡◌, ◌<◌, ◌⊎◌, ℕ, List, [], ◌∷◌, ◌++◌, codes, decimal, length, Option, Some}
use Rattle.std.specs.Io.KnownBytes.{Keeps}
use Rattle.path_model.specs.declared.journal.Line.{Line}
use Rattle.path_model.specs.Declarations.{Declaration}
use Rattle.path_journal.specs.JournalTexts.{journal_text}
use Rattle.path_script.specs.Scripts.{Plan}
use Rattle.path_script.specs.ScriptTexts.{IsScriptText, IsNoScriptText}
use Rattle.search_schedules.specs.declared.explored.Explored.{Explored}
use Rattle.search_schedules.specs.declared.explored.Explored.TheVariants.{AllDone, Stalls, Faults, Undecided}
use Rattle.search_schedules.specs.Schedules.{IsSchedule, ample}
use Rattle.search_schedules.specs.Outcomes.{GoesOn, IsShortestStall, IsShortestFault, AreStates, AreMore}
use Rattle.tell_base.specs.declared.status.Status.{Status}
use Rattle.tell_base.specs.declared.status.Status.TheVariants.{Done, Unsound}
use Rattle.tell_base.specs.Ends.{Ends, OfText, UnderText, Writes as WritesBytes}
use Rattle.tell_base.specs.Statuses.{status_number}
use Rattle.cmd_explore.specs.declared.searched.Searched.{Searched}
use Rattle.cmd_explore.specs.declared.searched.Searched.TheVariants as searches

-- the number that a process exits with
abbrev pub searched_number : Searched → ℕ
searched_number (searches.Ended status) = status_number status
searched_number searches.Undecided = 7

-- what is written if every schedule ends done
abbrev pub done_text : ℕ → List ℕ
done_text states = codes "every schedule ends done" ++ (10 ∷ (codes "states " ++ (decimal states ++ 10 ∷ [])))

-- what is written of what a search came to
abbrev pub Says : {Y : Type 0} → Declaration → Explored Y → Status → List ℕ → Type 0
Says d (AllDone states) = WritesBytes Done (done_text states)
Says d (Stalls lines) = WritesBytes Unsound (journal_text d (Some ample) lines.items)
Says d (Faults lines) = WritesBytes Unsound (journal_text d (Some ample) lines.items)
Says d (Undecided states) = λ status out. ⊥

-- every schedule of the script in a text goes on until all its processes have ended, and the script has this many states
pub record WritesDone (d : Declaration) (script bytes : List ℕ) : Type 0 where
  pub plans : List Plan
  pub read : IsScriptText d script plans
  pub go_on : (ls : List Line) → IsSchedule d plans ls → GoesOn d plans ls
  pub states : ℕ
  pub all_states : AreStates d plans states
  pub spelled : bytes ≡ done_text states

-- the bytes are the text of the journal of a shortest schedule of the script in a text that stalls, or has a step refused
pub record WritesWrong (d : Declaration) (script bytes : List ℕ) : Type 0 where
  pub plans : List Plan
  pub read : IsScriptText d script plans
  pub lines : List Line
  pub shortest : IsShortestStall d plans lines ⊎ IsShortestFault d plans lines
  pub spelled : bytes ≡ journal_text d (Some ample) lines

-- what a search writes at its status
abbrev pub Writes : Declaration → List ℕ → Status → List ℕ → Type 0
Writes d script Done bytes = WritesDone d script bytes
Writes d script Unsound bytes = WritesWrong d script bytes
Writes d script status bytes = ⊥

-- a script is too long, or is none of the declaration
abbrev pub IsBadScript : Declaration → List ℕ → Type 0
IsBadScript d script = (262144 < length script) ⊎ IsNoScriptText d script

-- how a search of the schedules of a script ends under a declaration
abbrev pub OfSearch : Declaration → List ℕ → Status → List ℕ → Type 0
OfSearch d script = OfText (Writes d script) ⊥ (IsBadScript d script)

-- or under the declaration in another text
abbrev pub SearchEnds : List ℕ → List ℕ → Status → List ℕ → Type 0
SearchEnds declaration script = UnderText declaration (λ d. OfSearch d script)

-- the text is a script of the declaration, with more schedules than that
abbrev pub IsUndecided : List ℕ → ℕ → Declaration → Type 0
IsUndecided script most d = (plans : List Plan) × IsScriptText d script plans × AreMore d plans most

-- a search came to no answer
abbrev pub IsOpen : {Y : Type 0} → Explored Y → Type 0
IsOpen (Undecided states) = Unit {0}
IsOpen explored = ⊥

-- what was written at the end of a search with this table; nothing was, if it is undecided, for this cause
abbrev pub HasSearched : (Status → List ℕ → Type 0) → Type 0 → Option (List ℕ) → Option (List ℕ) → Searched → Type 0
HasSearched table cause old new (searches.Ended status) = Ends table old new status
HasSearched table cause old new searches.Undecided = Keeps old new × cause
