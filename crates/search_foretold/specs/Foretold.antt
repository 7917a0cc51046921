-- That a search of all schedules of a script foretells how its runs end.
use Rattle.std.specs.Prelude.{◌≡◌, Bool, true, false, List, [], All, None}
use Rattle.path_model.specs.declared.journal.Reply.TheVariants.{DeviceFailed}
use Rattle.path_model.specs.declared.journal.Line.{Line}
use Rattle.path_model.specs.Declarations.{Declaration}
use Rattle.path_system.specs.Accounts.{Account}
use Rattle.path_workers.specs.Attempts.{Held}
use Rattle.path_script.specs.Scripts.{Plan}
use Rattle.search_schedules.specs.Schedules.{own_openings, IsSchedule}
use Rattle.search_schedules.specs.Outcomes.{GoesOn}
use Rattle.path_run.specs.declared.outcome.End.{End}
use Rattle.path_run.specs.declared.outcome.End.TheVariants as ends
use Rattle.path_run.specs.Ended.{HasRun}

-- something that no schedule knows of ended the process: the journal had no room; the turnstile, memory or a thread was refused; or a
-- device failed although its law would have served. A schedule has room for each line, takes each step, and has devices that serve.
abbrev pub is_unforeseen : End → Bool
is_unforeseen ends.NoRoom = true
is_unforeseen ends.Stopped = true
is_unforeseen ends.NoMemory = true
is_unforeseen ends.NotStarted = true
is_unforeseen (ends.Faulted DeviceFailed) = true
is_unforeseen end = false

-- every schedule of the script ends done: behind none is a next step refused, or is there somebody who hasn't ended while nobody can go
-- on. `explore` tells this with `AllDone`.
abbrev pub EveryScheduleEndsDone : Declaration → List Plan → Type 0
EveryScheduleEndsDone d plans = (ls : List Line) → IsSchedule d plans ls → GoesOn d plans ls

-- the account of a new system of the declaration before any attempt, whose devices contain what the program's own do at first
pub record IsNewSystem (d : Declaration) (account : Account) : Type 0 where
  pub declaration : account.declaration ≡ d
  pub openings : account.openings ≡ own_openings d
  pub earlier : account.earlier ≡ []
  pub journal : account.journal ≡ []

-- the processes of the script ran on a new system of the declaration, and ended so: their receipts agree with the system's journal, and
-- nothing unforeseen ended any of them
pub record IsForeseenRun (d : Declaration) (plans : List Plan) (es : List End) : Type 0 where
  pub before : Account
  pub after : Account
  pub passes : List Held
  pub new_system : IsNewSystem d before
  pub run : HasRun plans before after passes es None
  pub foreseen : All (λ e. is_unforeseen e ≡ false) es

-- where every schedule of a script ends done, each process of such a run has taken all its steps
abbrev pub RunsEndAsForetold : Type 0
RunsEndAsForetold =
    (d : Declaration) (plans : List Plan) (es : List End)
    → EveryScheduleEndsDone d plans → IsForeseenRun d plans es → All (λ e. e ≡ ends.Done) es
