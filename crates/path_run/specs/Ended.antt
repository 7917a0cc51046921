-- What a run that has ended promises, whether its receipts agree with its journal or not.
use Rattle.std.specs.Prelude.{◌≡◌, List, length, Option, Some, None}
use Rattle.path_system.specs.Accounts.{Account, IsSystem, all_lines}
use Rattle.path_workers.specs.declared.settle.SettleFault.{SettleFault}
use Rattle.path_workers.specs.Attempts.{Held}
use Rattle.path_workers.specs.Later.{IsLater}
use Rattle.path_workers.specs.Settled.{IsSettled}
use Rattle.path_script.specs.Scripts.{Plan}
use Rattle.path_run.specs.declared.outcome.End.{End}
use Rattle.path_run.specs.Runs.{EachRuns}
use Rattle.path_run.specs.Lines.{EachIsBlockedNow, EachIsOrderly}
use Rattle.path_run.specs.Unsettled.{IsUnsettled}

-- what a run without a fault promises of the account before it and after it, its passes and its ends
pub record IsSettledRun (before after : Account) (hs : List Held) (es : List End) : Type 0 where
  pub settled : IsSettled (length before.journal) after.journal hs
  pub orderly : EachIsOrderly after.journal hs es
  pub blocked : EachIsBlockedNow after.declaration (all_lines after) es
  pub system : IsSystem after

-- settled if there is no fault; else unsettled, for this one
abbrev pub IsJudged : Account → Account → List Held → List End → Option SettleFault → Type 0
IsJudged before after hs es None = IsSettledRun before after hs es
IsJudged before after hs es (Some fault) = IsUnsettled (length before.journal) after.journal hs es fault

-- the system after the run is a later one; each process has a pass and an end, by its script; and they are judged
pub record HasRun (plans : List Plan) (before after : Account) (hs : List Held) (es : List End) (fault : Option SettleFault) : Type 0 where
  pub later : IsLater before after
  pub passes : length hs ≡ length plans
  pub ends : length es ≡ length plans
  pub runs : EachRuns plans hs es
  pub judged : IsJudged before after hs es fault
