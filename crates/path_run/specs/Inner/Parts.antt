-- What one step adds to the receipts of a process.
use Rattle.std.specs.Prelude.{◌≡◌, ◌≢◌, ◌⊎◌, ℕ, ◌+◌, min, Bool, true, false, List, [], ◌∷◌, ◌++◌, Result, Ok, MatchResult}
use Rattle.path_model.specs.declared.ids.OpId.{OpId}
use Rattle.path_model.specs.declared.ids.ActId.{ActId}
use Rattle.path_model.specs.declared.journal.Attempt.{Attempt}
use Rattle.path_model.specs.declared.journal.Reply.{Reply}
use Rattle.path_model.specs.declared.journal.Reply.TheVariants.{Finished, NoRoom}
use Rattle.path_workers.specs.declared.answer.Receipt.{Receipt}
use Rattle.path_workers.specs.Attempts.{may_get}
use Rattle.path_script.specs.declared.script.Step.{Step}
use Rattle.path_script.specs.declared.script.Step.TheVariants.{Enter}
use Rattle.path_run.specs.declared.outcome.End.{End}
use Rattle.path_run.specs.declared.outcome.End.TheVariants as ends
use Rattle.path_run.specs.declared.monitor.Admission.{Admission}
use Rattle.path_run.specs.declared.monitor.Admission.TheVariants as admissions
use Rattle.path_run.specs.declared.monitor.Outlook.{Outlook}
use Rattle.path_run.specs.declared.monitor.Outlook.TheVariants as outlooks
use Rattle.path_run.specs.declared.enter.Tried.{Tried}
use Rattle.path_run.specs.declared.enter.Tried.TheVariants as tries
use Rattle.path_run.specs.Runs.{note, Finishes, IsRun}
use Rattle.path_run.specs.Waiting.{IsMarked}
use Rattle.path_run.specs.Stopped.{IsUnstopped}

-- the receipts that an attempt with this reply gains: one, or none for NoRoom
abbrev pub Gains : Attempt → Reply → List Receipt → Type 0
Gains attempt reply gained =
    ((reply ≡ NoRoom) × (gained ≡ []))
    ⊎ ((reply ≢ NoRoom) × (may_get attempt reply ≡ true) × ((place : ℕ) × (gained ≡ note place attempt reply ∷ [])))

-- the receipts after an attempt with this result: those before it, and then what it gains
abbrev pub HasGained : {E : Type 0} → Attempt → Result Reply E → List Receipt → List Receipt → Type 0
HasGained attempt result old new =
    (gained : List Receipt) × (new ≡ old ++ gained) × MatchResult result (λ reply. Gains attempt reply gained) (λ _. gained ≡ [])

-- the step is taken, and these receipts are its own
abbrev pub Adds : Step → List ActId → List ActId → List Receipt → Type 0
Adds step held then gained =
    (steps : List Step) (rs : List Receipt) (end : End) → IsRun steps then rs end → IsRun (step ∷ steps) held (gained ++ rs) end

-- what may follow when a process has ended this way: finishes of what was entered, or nothing
abbrev pub After : End → List ActId → List Receipt → Type 0
After ends.NoRoom held rs = Finishes held rs
After (ends.Faulted reply) held rs = Finishes held rs
After ends.Stopped held rs = Finishes held rs
After ends.NoMemory held rs = Finishes held rs
After end held rs = rs ≡ []

-- the step ends the process, and these receipts are its own
abbrev pub Closes : Step → List ActId → End → List Receipt → Type 0
Closes step held end gained =
    (steps : List Step) (rs : List Receipt) → After end held rs → IsRun (step ∷ steps) held (gained ++ rs) end

-- each of these tries to enter was blocked
abbrev pub AreTries : OpId → List Receipt → Type 0
AreTries op gained =
    (steps : List Step) (held : List ActId) (rs : List Receipt) (end : End)
    → IsRun (Enter op ∷ steps) held rs end → IsRun (Enter op ∷ steps) held (gained ++ rs) end

-- one try to enter
abbrev pub HasTried : OpId → List Receipt → Tried → Type 0
HasTried op gained (tries.Entered act) = (held : List ActId) → Adds (Enter op) held (act ∷ held) gained
HasTried op gained tries.Freed = AreTries op gained
HasTried op gained (tries.Ended end) = (held : List ActId) → Closes (Enter op) held end gained

-- one start under the lock: what it gains if it is admitted, blocked, or ends the process
abbrev pub HasBegun : OpId → List Receipt → Admission → Type 0
HasBegun op gained (admissions.Entered act) = (held : List ActId) → Adds (Enter op) held (act ∷ held) gained
HasBegun op gained (admissions.Blocked seen) = AreTries op gained × ((held : List ActId) → Closes (Enter op) held (ends.Stalled op) gained)
HasBegun op gained (admissions.Ended end) = (held : List ActId) → Closes (Enter op) held end gained

-- neither of them is stopped by the turnstile, which is asked before
abbrev pub IsUnstoppedTry : Tried → Type 0
IsUnstoppedTry (tries.Ended end) = IsUnstopped end
IsUnstoppedTry tried = Unit {0}

abbrev pub IsUnstoppedStart : Admission → Type 0
IsUnstoppedStart (admissions.Ended end) = IsUnstopped end
IsUnstoppedStart admission = Unit {0}

-- a blocked process is marked as waiting, with the finishes that it has seen; nothing else is marked
abbrev pub IsMarkedBy : Admission → ℕ → ℕ → ℕ → ℕ → Bool → Bool → Type 0
IsMarkedBy (admissions.Blocked seen) finishes before waiting left stalled now =
    (seen ≡ finishes) × (waiting ≡ min 18446744073709551615 (before + 1)) × IsMarked stalled waiting left now
IsMarkedBy admission finishes before waiting left stalled now = (waiting ≡ before) × (now ≡ stalled)

-- an admitted finish is counted, and leaves nobody who waits; no other reply does
abbrev pub IsCountedBy : {E : Type 0} → Result Reply E → ℕ → ℕ → ℕ → ℕ → Type 0
IsCountedBy (Ok Finished) before finishes waited waiting = (finishes ≢ before) × (waiting ≡ 0)
IsCountedBy result before finishes waited waiting = (finishes ≡ before) × (waiting ≡ waited)

-- the outlook of a process that was blocked at so many finishes: it is freed exactly if there are others now, and stalled exactly if there
-- are none and the run is marked
abbrev pub IsOutlook : ℕ → ℕ → Bool → Outlook → Type 0
IsOutlook seen finishes stalled outlooks.Freed = finishes ≢ seen
IsOutlook seen finishes stalled outlooks.Stalled = (finishes ≡ seen) × (stalled ≡ true)
IsOutlook seen finishes stalled outlooks.Waits = (finishes ≡ seen) × (stalled ≡ false)
