-- The receipts of a process, by its script and how it ended.
use Rattle.std.specs.Prelude.{◌≡◌, ◌≢◌, ◌<◌, ℕ, List, [], ◌∷◌, length, slice_index_or, Bool, true, false}
use Rattle.path_model.specs.declared.ids.OpId.{OpId}
use Rattle.path_model.specs.declared.ids.ActId.{ActId}
use Rattle.path_model.specs.declared.ids.PathId.{PathId}
use Rattle.path_model.specs.declared.journal.Verb.{Verb}
use Rattle.path_model.specs.declared.journal.Attempt.{Attempt}
use Rattle.path_model.specs.declared.journal.Attempt.TheVariants.{Start, Apply, Finish}
use Rattle.path_model.specs.declared.journal.Reply.{Reply}
use Rattle.path_model.specs.declared.journal.Reply.TheVariants.{Started, Blocked, Used, Finished, NoRoom}
use Rattle.path_workers.specs.declared.answer.Receipt.{Receipt}
use Rattle.path_workers.specs.Attempts.{Held, may_get}
use Rattle.path_script.specs.declared.script.Step.{Step}
use Rattle.path_script.specs.declared.script.Step.TheVariants.{Enter, Apply as Use, Leave}
use Rattle.path_script.specs.Scripts.{Plan}
use Rattle.path_run.specs.declared.outcome.End.{End}
use Rattle.path_run.specs.declared.outcome.End.TheVariants as ends

-- the receipt of an attempt
abbrev pub note : ℕ → Attempt → Reply → Receipt
note place attempt reply = record { place = place; attempt = attempt; reply = reply }

-- the attempt of a step; the first of these activations is the one entered last and not yet left
pub data Asks : Step → List ActId → Attempt → Type 0 where
  enters : (op : OpId) (entered : List ActId) → Asks (Enter op) entered (Start op)
  uses : (verb : Verb) (act : ActId) (entered : List ActId) → Asks (Use verb) (act ∷ entered) (Apply act verb)
  leaves : (act : ActId) (entered : List ActId) → Asks Leave (act ∷ entered) (Finish act)

-- a reply to a step is a fault if the process can neither go on nor try again, and it isn't NoRoom: of those that the attempt may get,
-- a start is unknown, a use is refused by the device or fails, or the activation is over or another's
abbrev pub IsFault : Step → Reply → Type 0
IsFault (Enter op) reply = (reply ≢ NoRoom) × ((act : ActId) → reply ≢ Started act) × ((path : PathId) → reply ≢ Blocked path)
IsFault (Use verb) reply = (reply ≢ NoRoom) × ((x : ℕ) → reply ≢ Used x)
IsFault Leave reply = (reply ≢ NoRoom) × (reply ≢ Finished)

-- only finishes of what was entered and not left, the last first
abbrev pub Finishes : List ActId → List Receipt → Type 0
Finishes entered [] = Unit {0}
Finishes [] (r ∷ rs) = ⊥
Finishes (act ∷ entered) (r ∷ rs) = (r.attempt ≡ Finish act) × Finishes entered rs

-- a process with this end stops before a step, without a receipt for it
abbrev pub gives_up : End → Bool
gives_up ends.NoRoom = true
gives_up ends.Stopped = true
gives_up ends.NoMemory = true
gives_up end = false

-- the receipts of a process that still has these steps to take, has entered these activations and not left them, the last one
-- first, and ends this way
pub data IsRun : List Step → List ActId → List Receipt → End → Type 0 where
  -- all steps were taken, and all that was entered was left
  done : IsRun [] [] [] ends.Done
  -- no thread was started
  not_started : (steps : List Step) → IsRun steps [] [] ends.NotStarted
  entered :
      (op : OpId) (steps : List Step) (held : List ActId) (place : ℕ) (act : ActId) (rs : List Receipt) (end : End)
      → IsRun steps (act ∷ held) rs end
      → IsRun (Enter op ∷ steps) held (note place (Start op) (Started act) ∷ rs) end
  -- a blocked enter is tried again
  blocked :
      (op : OpId) (steps : List Step) (held : List ActId) (place : ℕ) (path : PathId) (rs : List Receipt) (end : End)
      → IsRun (Enter op ∷ steps) held rs end
      → IsRun (Enter op ∷ steps) held (note place (Start op) (Blocked path) ∷ rs) end
  used :
      (verb : Verb) (steps : List Step) (act : ActId) (held : List ActId) (place x : ℕ) (rs : List Receipt) (end : End)
      → IsRun steps (act ∷ held) rs end
      → IsRun (Use verb ∷ steps) (act ∷ held) (note place (Apply act verb) (Used x) ∷ rs) end
  left :
      (steps : List Step) (act : ActId) (held : List ActId) (place : ℕ) (rs : List Receipt) (end : End)
      → IsRun steps held rs end
      → IsRun (Leave ∷ steps) (act ∷ held) (note place (Finish act) Finished ∷ rs) end
  -- a blocked enter that is not tried again
  stalled :
      (op : OpId) (steps : List Step) (held : List ActId) (place : ℕ) (path : PathId)
      → IsRun (Enter op ∷ steps) held (note place (Start op) (Blocked path) ∷ []) (ends.Stalled op)
  faulted :
      (step : Step) (steps : List Step) (held : List ActId) (place : ℕ) (attempt : Attempt) (reply : Reply) (rs : List Receipt)
      → Asks step held attempt → may_get attempt reply ≡ true → IsFault step reply → Finishes held rs
      → IsRun (step ∷ steps) held (note place attempt reply ∷ rs) (ends.Faulted reply)
  -- a step that wasn't taken: no room, no memory, or refused by the turnstile
  gave_up :
      (step : Step) (steps : List Step) (held : List ActId) (rs : List Receipt) (end : End)
      → gives_up end ≡ true → Finishes held rs
      → IsRun (step ∷ steps) held rs end

-- one pass and one end for each process in order: each has the number of its process, and the receipts of its script
abbrev pub EachRuns : List Plan → List Held → List End → Type 0
EachRuns plans passes ends =
    (i : ℕ) (p : Plan) (h : Held) (e : End) → i < length plans
    → ((slice_index_or passes i h).worker ≡ i)
    × IsRun (slice_index_or plans i p).steps [] (slice_index_or passes i h).receipts (slice_index_or ends i e)
