-- What is said of a script's text under the text of a declaration.
use Rattle.std.specs.Prelude.{◌≡◌, ℕ, List, Some}
use Rattle.std.specs.String.{string_bytes}
use Rattle.path_model.specs.declared.journal.Line.{Line}
use Rattle.path_model.specs.Declarations.{Declaration}
use Rattle.path_journal.specs.JournalTexts.{journal_text}
use Rattle.path_script.specs.ScriptFaults.{IsScriptFault}
use Rattle.path_script.specs.ScriptTexts.{IsScriptText}
use Rattle.path_script.specs.Scripts.{Plan}
use Rattle.search_schedules.specs.Schedules.{IsSchedule, ample}
use Rattle.search_schedules.specs.Outcomes.{AreMore, GoesOn, IsShortestFault, IsShortestStall}
use Rattle.tell_base.specs.Refusals.{Under}
use Rattle.cmd_explore.specs.Standings.{standings_text}
use Rattle.path_service.specs.declared.exploring.Found.{Found}
use Rattle.path_service.specs.declared.exploring.Found.TheVariants as founds
use Rattle.path_service.specs.declared.exploring.WrongSchedule.{WrongSchedule}
use Rattle.path_service.specs.declared.fault.ExploreRefusal.{ExploreRefusal}
use Rattle.path_service.specs.declared.fault.ExploreRefusal.TheVariants as refusals
use Rattle.path_service.specs.ReadFaults.{IsReadFault}

-- the journal of these lines, and where each process is behind them
pub record IsShown {Y : Type 0} (d : Declaration) (plans : List Plan) (lines : List Line) (w : WrongSchedule Y) : Type 0 where
  pub journal : string_bytes w.journal ≡ journal_text d (Some ample) lines
  pub standings : string_bytes w.standings ≡ standings_text d lines 0 plans

-- what is found in the schedules of these processes, where at most so many states are looked at
abbrev pub IsFound : {Y : Type 0} → Declaration → List Plan → ℕ → Found Y → Type 0
IsFound d plans most (founds.AllDone states) = (ls : List Line) → IsSchedule d plans ls → GoesOn d plans ls
IsFound d plans most (founds.Stalls w) = (lines : List Line) × IsShortestStall d plans lines × IsShown d plans lines w
IsFound d plans most (founds.Refused w) = (lines : List Line) × IsShortestFault d plans lines × IsShown d plans lines w
IsFound d plans most (founds.Undecided states) = (states ≡ most) × AreMore d plans most

-- the text is a script of the declaration, and this is found in its schedules
abbrev pub FindsUnder : {Y : Type 0} → Declaration → List ℕ → ℕ → Found Y → Type 0
FindsUnder d script most found = (plans : List Plan) × IsScriptText d script plans × IsFound d plans most found

-- the first text is a declaration, and the second such a script
abbrev pub FindsIn : {Y : Type 0} → List ℕ → List ℕ → ℕ → Found Y → Type 0
FindsIn text script most found = Under text (λ d. FindsUnder d script most found)

-- the text isn't a script of the declaration, with this fault
abbrev pub IsScriptRefusal : Declaration → List ℕ → ExploreRefusal → Type 0
IsScriptRefusal d script (refusals.Declaration fault) = ⊥
IsScriptRefusal d script (refusals.Script fault) = IsScriptFault d script fault
IsScriptRefusal d script refusals.OutOfMemory = Unit {0}

-- the first text isn't a declaration, with this fault; or the second isn't a script of it
abbrev pub IsExploreRefusal : List ℕ → List ℕ → ExploreRefusal → Type 0
IsExploreRefusal text script (refusals.Declaration fault) = IsReadFault text fault
IsExploreRefusal text script (refusals.Script fault) = Under text (λ d. IsScriptFault d script fault)
IsExploreRefusal text script refusals.OutOfMemory = Unit {0}
