-- Why a run has no outcome.
use Rattle.std.specs.Prelude.{◌≡◌, ◌⊎◌, ℕ, List, length}
use Rattle.path_model.specs.declared.journal.Line.{Line}
use Rattle.path_workers.specs.declared.settle.SettleFault.{SettleFault}
use Rattle.path_workers.specs.declared.settle.SettleFault.TheVariants.{Mismatch}
use Rattle.path_workers.specs.Attempts.{Held}
use Rattle.path_workers.specs.Faults.{IsFault, FewReceipts}
use Rattle.path_workers.specs.Settled.{IsSettled}
use Rattle.path_script.specs.Scripts.{Plan}
use Rattle.path_run.specs.declared.outcome.End.{End}
use Rattle.path_run.specs.Runs.{EachRuns}
use Rattle.path_run.specs.Lines.{IsFirstDisorder}

-- either the passes aren't settled, for this fault, and have no more receipts than there are lines; or they are, and the fault is a
-- mismatch at the first place at which they don't agree with the journal
abbrev pub IsUnsettled : ℕ → List Line → List Held → List End → SettleFault → Type 0
IsUnsettled b lines hs es fault =
    (IsFault b lines hs fault × FewReceipts fault)
    ⊎ ((place : ℕ) × (fault ≡ Mismatch place) × IsSettled b lines hs × IsFirstDisorder lines hs es place)

-- and the passes and ends are those of processes that ran the plans
abbrev pub IsUnsettledRun : List Plan → ℕ → List Line → SettleFault → Type 0
IsUnsettledRun plans b lines fault =
    (hs : List Held) × (es : List End) × (length hs ≡ length plans) × (length es ≡ length plans) × EachRuns plans hs es
    × IsUnsettled b lines hs es fault
