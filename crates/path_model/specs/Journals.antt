-- What a journal says: its starts and finishes, the live activations, and the admitted history.
use Rattle.std.specs.Prelude.{◌≡◌, ℕ, ◌+◌, ◌≤◌, ◌==◌, ◌||◌, Bool, false, not}
use Rattle.std.specs.Prelude.{List, [], ◌∷◌, ◌++◌, length, filter, Option, Some, None, if◌then◌else◌}
use Rattle.path_model.specs.declared.ids.OpId.{OpId}
use Rattle.path_model.specs.declared.ids.ActId.{ActId}
use Rattle.path_model.specs.declared.history.Event.{Event}
use Rattle.path_model.specs.declared.history.Event.TheVariants.{Began, Ended}
use Rattle.path_model.specs.declared.journal.Attempt.{Attempt}
use Rattle.path_model.specs.declared.journal.Attempt.TheVariants.{Start, Finish}
use Rattle.path_model.specs.declared.journal.Reply.{Reply}
use Rattle.path_model.specs.declared.journal.Reply.TheVariants.{Started, Finished, NoRoom}
use Rattle.path_model.specs.declared.journal.Line.{Line}
use Rattle.path_model.specs.declared.journal.Activation.{Activation}

-- the activation that a worker's attempt with this reply starts, if it starts one
abbrev pub started_by : ℕ → Attempt → Reply → List Activation
started_by w (Start a) (Started n) = record { act = n; worker = w; op = a } ∷ []
started_by w attempt reply = []

-- the activations of all Started lines, in order
abbrev pub starts : List Line → List Activation
starts [] = []
starts (l ∷ ls) = started_by l.worker l.attempt l.reply ++ starts ls

-- how many starts were admitted
abbrev pub begun_in : List Line → ℕ
begun_in ls = length (starts ls)

-- the attempt with this reply finishes the activation of this number
abbrev pub finishes : ActId → Attempt → Reply → Bool
finishes n (Finish m) Finished = m.0 == n.0
finishes n attempt reply = false

-- some Finished line has this number
abbrev pub is_finished_in : List Line → ActId → Bool
is_finished_in [] n = false
is_finished_in (l ∷ ls) n = finishes n l.attempt l.reply || is_finished_in ls n

-- the live activations: those of the Started lines whose number has no Finished line
abbrev pub live : List Line → List Activation
live ls = filter (λ a. not (is_finished_in ls a.act)) (starts ls)

-- the activation with this number
abbrev pub activation_of : ActId → List Activation → Option Activation
activation_of n [] = None
activation_of n (a ∷ rest) = if a.act.0 == n.0 then Some a else activation_of n rest

-- all but the activation with this number, in order
abbrev pub without : ActId → List Activation → List Activation
without n activations = filter (λ a. not (a.act.0 == n.0)) activations

-- each number is above the ones before it, from low on, and below the end
abbrev pub AreNumberedFrom : ℕ → List Activation → ℕ → Type 0
AreNumberedFrom low [] end = low ≤ end
AreNumberedFrom low (a ∷ rest) end = (low ≤ a.act.0) × AreNumberedFrom (a.act.0 + 1) rest end

-- the numbers rise, and are below the end
abbrev pub AreNumbered : List Activation → ℕ → Type 0
AreNumbered activations end = AreNumberedFrom 0 activations end

-- the activations have the numbers n, n + 1, n + 2, and so on
abbrev pub AreCountedFrom : ℕ → List Activation → Type 0
AreCountedFrom n [] = Unit {0}
AreCountedFrom n (a ∷ rest) = (a.act.0 ≡ n) × AreCountedFrom (n + 1) rest

-- how many activations are of the operation
abbrev pub live_count : OpId → List Activation → ℕ
live_count a [] = 0
live_count a (x ∷ rest) = (if x.op.0 == a.0 then 1 else 0) + live_count a rest

abbrev pub ended_events : Option Activation → List Event
ended_events None = []
ended_events (Some a) = Ended a.op ∷ []

-- the event of a line after the lines before it: a start begins its operation, a finish ends that of the Started line with its number
abbrev pub events_of_line : List Line → Attempt → Reply → List Event
events_of_line before (Start a) (Started n) = Began a ∷ []
events_of_line before (Finish n) Finished = ended_events (activation_of n (starts before))
events_of_line before attempt reply = []

abbrev pub history_from : List Line → List Line → List Event
history_from before [] = []
history_from before (l ∷ ls) = events_of_line before l.attempt l.reply ++ history_from (before ++ l ∷ []) ls

-- the admitted history of a journal
abbrev pub admitted_history : List Line → List Event
admitted_history ls = history_from [] ls

-- a worker's attempt with this reply starts nothing and finishes nothing
pub record IsQuiet (w : ℕ) (attempt : Attempt) (reply : Reply) : Type 0 where
  pub starts_none : started_by w attempt reply ≡ []
  pub finishes_none : (n : ActId) → finishes n attempt reply ≡ false
  pub no_events : (before : List Line) → events_of_line before attempt reply ≡ []

-- the journal after one more attempt: with its line, or as it was for NoRoom
abbrev pub with_line : List Line → ℕ → Attempt → Reply → List Line
with_line ls w attempt NoRoom = ls
with_line ls w attempt reply = ls ++ record { worker = w; attempt = attempt; reply = reply } ∷ []
