-- What one attempt does to the gate and to what is live.
use Rattle.std.specs.Prelude.{◌≡◌, ◌≢◌, ◌⊎◌, ◌+◌, ◌<◌, ◌≤◌, ◌&&◌, if◌then◌else◌, not, ℕ, Bool, true, false, List, [], ◌∷◌, ◌++◌}
use Rattle.std.specs.Prelude.{Option, Some, None, length, slice_index, slice_index_or, slice_set}
use Rattle.path_model.specs.declared.journal.Attempt.{Attempt}
use Rattle.path_model.specs.declared.journal.Attempt.TheVariants.{Start, Apply, Finish}
use Rattle.path_model.specs.Places.{has_room, lacks_number}
use Rattle.path_model.specs.declared.ids.OpId.{OpId}
use Rattle.path_model.specs.declared.ids.PathId.{PathId}
use Rattle.path_model.specs.declared.history.Event.{Event}
use Rattle.path_model.specs.declared.history.Event.TheVariants.{Began}
use Rattle.path_model.specs.declared.journal.Verb.{Verb}
use Rattle.path_model.specs.declared.resource.Law.{Law}
use Rattle.path_model.specs.Legal as legal
use Rattle.path_model.specs.Declarations.{Declaration, resource_of, law_of}
use Rattle.path_model.specs.Devices.{Outcome, serves, refuses, outcome_of}
use Rattle.path_model.specs.declared.ids.ActId.{ActId}
use Rattle.path_model.specs.declared.journal.Reply.{Reply}
use Rattle.path_model.specs.declared.journal.Reply.TheVariants.{Started, Blocked, UnknownOperation, Used, DeviceFailed}
use Rattle.path_model.specs.declared.journal.Reply.TheVariants.{Finished, Stale, NotYours, NoRoom}
use Rattle.path_model.specs.declared.journal.Activation.{Activation}
use Rattle.path_model.specs.Asked.{is_device_reply, its_resource}
use Rattle.path_model.specs.Journals.{activation_of, without}
use Rattle.path_gate.specs.Standings.{Standing, IsAt, IsNamed, Admitted, Released}

-- the live activations in order of start, and how many were begun
pub record Register : Type 0 where
  pub live : List Activation
  pub begun : ℕ

-- one more was begun
abbrev pub registered : Register → Activation → Register
registered r a = record { live = r.live ++ a ∷ []; begun = r.begun + 1 }

-- the gate, and what is live
pub record Present : Type 0 where
  pub standing : Standing
  pub register : Register

abbrev pub present : Standing → Register → Present
present standing register = record { standing = standing; register = register }

-- what is live is in progress if a path names it
abbrev pub IsRunning : Standing → Register → Type 0
IsRunning standing register =
    (n : ActId) (a : Activation) → activation_of n register.live ≡ Some a → IsNamed standing.paths a.op
    → 0 < slice_index standing.in_progress a.op.0

-- the reply to a finish of a live activation, or of none, where there is room
abbrev pub TellsFinish : ℕ → Option Activation → Reply → Type 0
TellsFinish w None reply = reply ≡ Stale
TellsFinish w (Some a) reply = (a.worker ≢ w → reply ≡ NotYours) × (a.worker ≡ w → reply ≡ Finished)

-- the activation a, whose number is n, is over
pub record IsOver (old : Present) (n : ActId) (a : Activation) (reply : Reply) (new : Present) : Type 0 where
  pub told : reply ≡ Finished
  pub standing : Released old.standing a.op new.standing
  pub register : new.register ≡ record old.register { live = without n old.register.live }

-- a finish of the activation numbered n, if it is live, takes the old present to the new one with this reply
abbrev pub MovesFinish : Present → ℕ → ActId → Option Activation → Reply → Present → Type 0
MovesFinish old w n None reply new = (reply ≡ Stale) × (new ≡ old)
MovesFinish old w n (Some a) reply new =
    (a.worker ≢ w → (reply ≡ NotYours) × (new ≡ old)) × (a.worker ≡ w → IsOver old n a reply new)

-- no path forbids a start of a, which gets the number n
pub record MayStart (operations : ℕ) (old : Present) (a : OpId) (n : ActId) : Type 0 where
  pub declared : a.0 < operations
  pub admits :
      (h : List Event) → legal.Legal old.standing.paths h → IsAt old.standing h
      → legal.Legal old.standing.paths (h ++ Began a ∷ [])
  pub number : n.0 ≡ old.register.begun

-- p is the first path that forbids the start of a
pub record IsBlocked (operations : ℕ) (old : Present) (a : OpId) (p : PathId) : Type 0 where
  pub declared : a.0 < operations
  pub forbids :
      (h : List Event) → legal.Legal old.standing.paths h → IsAt old.standing h
      → legal.First (legal.Forbids h a) old.standing.paths p.0

-- the reply to a start of a where there is room
abbrev pub TellsStart : ℕ → Present → OpId → Reply → Type 0
TellsStart operations old a (Started n) = MayStart operations old a n
TellsStart operations old a (Blocked p) = IsBlocked operations old a p
TellsStart operations old a UnknownOperation = operations ≤ a.0
TellsStart operations old a reply = ⊥

-- the start of a is admitted under the number n
pub record IsStarted (old : Present) (w : ℕ) (a : OpId) (n : ActId) (new : Present) : Type 0 where
  pub standing : Admitted old.standing a new.standing
  pub register : new.register ≡ registered old.register (record { act = n; worker = w; op = a })

-- what a start of a leaves behind this reply
abbrev pub LeavesStart : Present → ℕ → OpId → Reply → Present → Type 0
LeavesStart old w a (Started n) new = IsStarted old w a n new
LeavesStart old w a reply new = new ≡ old

-- a start of a takes one present to another with this reply
abbrev pub MovesStart : ℕ → Present → ℕ → OpId → Reply → Present → Type 0
MovesStart operations old w a reply new = TellsStart operations old a reply × LeavesStart old w a reply new

-- what a resource contains
abbrev pub held_at : List (List ℕ) → ℕ → List ℕ
held_at contents r = slice_index_or contents r []

-- the law serves as its table says, or the device fails although it would serve, or the law refuses
abbrev pub Acts : Outcome → Reply → List ℕ → List ℕ → Type 0
Acts (serves x rest) reply before left = ((reply ≡ Used x) × (left ≡ rest)) ⊎ ((reply ≡ DeviceFailed) × (left ≡ before))
Acts (refuses r) reply before left = (reply ≡ r) × (left ≡ before)

-- the law serves with this reply, or refuses with it
abbrev pub IsTold : Outcome → Reply → Type 0
IsTold (serves x rest) reply = reply ≡ Used x
IsTold (refuses r) reply = reply ≡ r

-- a verb at a resource of this law, whose contents go from old to new with this reply; all others stay
pub record Serves (law : Law) (r : ℕ) (verb : Verb) (old : List (List ℕ)) (reply : Reply) (new : List (List ℕ)) : Type 0 where
  pub left : List ℕ
  pub acts : Acts (outcome_of law verb (held_at old r)) reply (held_at old r) left
  pub others : new ≡ slice_set old r left

-- what is live was declared, and each resource has its law
pub record AreReady (d : Declaration) (live : List Activation) (contents : List (List ℕ)) (has_law : ℕ → Law → Type 0) : Type 0 where
  pub within : (n : ActId) (a : Activation) → activation_of n live ≡ Some a → a.op.0 < length d.operations
  pub resources : (op : ℕ) → op < length d.operations → resource_of d op < length d.resources
  pub one_each : length contents ≡ length d.resources
  pub laws : (r : ℕ) → r < length d.resources → has_law r (law_of d r)

-- the resource whose device the attempt asked, by its reply: that of the activation that it uses, if it is live
abbrev pub asked_of : Declaration → List Activation → Attempt → Reply → Option ℕ
asked_of d live (Apply n verb) reply = if is_device_reply reply then its_resource d (activation_of n live) else None
asked_of d live attempt reply = None

-- whether there is room for the attempt after this number of lines, and a number if it is a start
abbrev pub can_take : Present → ℕ → ℕ → ℕ → Attempt → Bool
can_take old room lines w attempt = has_room room lines old.register.live w attempt && not (lacks_number old.register.begun attempt)

-- the reply to a use of a live activation, or of none, where there is room and no device fails
abbrev pub TellsUse : Declaration → List (List ℕ) → ℕ → Verb → Option Activation → Reply → Type 0
TellsUse d contents w verb None reply = reply ≡ Stale
TellsUse d contents w verb (Some a) reply =
    (a.worker ≢ w → reply ≡ NotYours)
    × (a.worker ≡ w → IsTold (outcome_of (law_of d (resource_of d a.op.0)) verb (held_at contents (resource_of d a.op.0))) reply)

-- the reply to an attempt for which there is room, where no device fails
abbrev pub Tells : Declaration → Present → List (List ℕ) → ℕ → Attempt → Reply → Type 0
Tells d old contents w (Start a) reply = TellsStart (length d.operations) old a reply
Tells d old contents w (Apply n verb) reply = TellsUse d contents w verb (activation_of n old.register.live) reply
Tells d old contents w (Finish n) reply = TellsFinish w (activation_of n old.register.live) reply

-- the reply to an attempt after this number of lines in this room, where no device fails
pub record Foretells (d : Declaration) (old : Present) (contents : List (List ℕ)) (room lines w : ℕ) (attempt : Attempt) (reply : Reply)
    : Type 0 where
  pub inside : can_take old room lines w attempt ≡ true → Tells d old contents w attempt reply
  pub outside : can_take old room lines w attempt ≡ false → reply ≡ NoRoom

-- devices of a type D: what each resource contains, and what else is known when one was asked
module _ {D : Type 0} (contents : D → List (List ℕ)) (asked : D → ℕ → Verb → Reply → D → Type 0) where
  -- the resource r serves by its law
  pub record IsServed (law : Law) (r : ℕ) (verb : Verb) (old : D) (reply : Reply) (new : D) : Type 0 where
    pub serves : Serves law r verb (contents old) reply (contents new)
    pub known : asked old r verb reply new

  -- a use of the activation, if it is live, takes the devices from old to new with this reply
  abbrev pub MovesUse : Declaration → ℕ → Verb → Option Activation → D → Reply → D → Type 0
  MovesUse d w verb None old reply new = (reply ≡ Stale) × (new ≡ old)
  MovesUse d w verb (Some a) old reply new =
      (a.worker ≢ w → (reply ≡ NotYours) × (new ≡ old))
      × (a.worker ≡ w → IsServed (law_of d (resource_of d a.op.0)) (resource_of d a.op.0) verb old reply new)

  -- one attempt for which there is room takes one present and devices to others with this reply
  abbrev pub Moves : Declaration → Present → D → ℕ → Attempt → Reply → Present → D → Type 0
  Moves d old before w (Start a) reply new after = MovesStart (length d.operations) old w a reply new × (after ≡ before)
  Moves d old before w (Apply n verb) reply new after =
      MovesUse d w verb (activation_of n old.register.live) before reply after × (new ≡ old)
  Moves d old before w (Finish n) reply new after =
      MovesFinish old w n (activation_of n old.register.live) reply new × (after ≡ before)

  -- what can be taken moves, and for what can't nothing changes
  pub record Answers (d : Declaration) (old : Present) (before : D) (room lines w : ℕ) (attempt : Attempt) (reply : Reply) (new : Present)
      (after : D) : Type 0 where
    pub inside : can_take old room lines w attempt ≡ true → Moves d old before w attempt reply new after
    pub outside : can_take old room lines w attempt ≡ false → (reply ≡ NoRoom) × (new ≡ old) × (after ≡ before)
