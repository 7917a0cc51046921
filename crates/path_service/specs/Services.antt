-- What a service is at its opening, and what a step does.
use Rattle.std.specs.Prelude.{◌≡◌, ◌≢◌, ◌<◌, ◌≤◌, ℕ, List, [], ◌∷◌, ◌++◌, length, Result, Ok, Err}
use Rattle.path_model.specs.declared.ids.OpId.{OpId}
use Rattle.path_model.specs.declared.history.Event.{Event}
use Rattle.path_model.specs.declared.journal.Attempt.{Attempt}
use Rattle.path_model.specs.declared.journal.Reply.{Reply}
use Rattle.path_model.specs.declared.journal.Reply.TheVariants as replies
use Rattle.path_model.specs.Asked.{resource_asked}
use Rattle.path_model.specs.declared.history.Event.TheVariants.{Began}
use Rattle.path_model.specs.Declarations.{Declaration, paths_of}
use Rattle.path_model.specs.Journals.{with_line}
use Rattle.path_model.specs.Legal.{First, Forbids, Legal}
use Rattle.path_model.specs.Rooms.{IsBadRoom}
use Rattle.path_model.specs.Segments.{OwedBehind, joined}
use Rattle.path_decl.specs.Text.{IsDeclarationText}
use Rattle.path_system.specs.declared.calls.StartRefusal.{StartRefusal}
use Rattle.path_system.specs.declared.calls.StartRefusal.TheVariants as starts
use Rattle.path_system.specs.Accounts.{Account, account_of, all_lines, StayBut}
use Rattle.tell_base.specs.Own.{own_states}
use Rattle.tell_base.specs.Refusals.{Under}
use Rattle.path_service.specs.declared.fault.ServiceFault.{ServiceFault}
use Rattle.path_service.specs.declared.fault.ServiceFault.TheVariants as faults
use Rattle.path_service.specs.declared.fault.ResumeRefusal.{ResumeRefusal}
use Rattle.path_service.specs.declared.fault.ResumeRefusal.TheVariants as refusals
use Rattle.path_service.specs.ReadFaults.{IsReadFault}
use Rattle.path_service.specs.Serving.{Serving, settled}

-- of the declaration in the text, with this room, over new devices, and nothing was attempted
pub record IsOpened (text : List ℕ) (room : ℕ) (a : Account) : Type 0 where
  pub declared : IsDeclarationText text a.declaration
  pub fresh : a ≡ account_of a.declaration room (own_states a.declaration)

-- the text isn't a declaration, with this fault; or it is one, and the room is out of range
abbrev pub IsServiceFault : List ℕ → ℕ → ServiceFault → Type 0
IsServiceFault text room (faults.Declaration fault) = IsReadFault text fault
IsServiceFault text room faults.BadRoom = Under text (λ d. IsBadRoom room)
IsServiceFault text room faults.OutOfMemory = Unit {0}

-- why no service is opened over a declaration that was read
abbrev pub IsUnserved : ℕ → ServiceFault → Type 0
IsUnserved room (faults.Declaration fault) = ⊥
IsUnserved room faults.BadRoom = IsBadRoom room
IsUnserved room faults.OutOfMemory = Unit {0}

-- the same, as a refusal to go on behind a journal
abbrev pub as_refusal : ServiceFault → ResumeRefusal
as_refusal (faults.Declaration fault) = refusals.Declaration fault
as_refusal faults.BadRoom = refusals.BadRoom
as_refusal faults.OutOfMemory = refusals.OutOfMemory

-- the reply is owed by all lines before, and the journal gains a line with it if there is room; no device fails
pub record IsStep (old : Account) (worker : ℕ) (attempt : Attempt) (reply : Reply) (new : Account) : Type 0 where
  pub owed : OwedBehind old.declaration old.room old.openings (joined old.earlier) old.journal worker attempt reply
  pub line : new ≡ record old { journal = with_line old.journal worker attempt reply; failures = new.failures }
  pub failures : StayBut (resource_asked old.declaration (all_lines old) attempt reply) old.failures new.failures
  pub served : reply ≢ replies.DeviceFailed

-- as a step, behind which the line is kept or given up
pub record IsServed (old : Serving) (worker : ℕ) (attempt : Attempt) (reply : Reply) (new : Serving) : Type 0 where
  pub behind : Account
  pub step : IsStep old.account worker attempt reply behind
  pub left : new ≡ record { account = settled old.keeps behind; keeps = old.keeps }

-- the operation is declared, and no path forbids its start after the history, or this is the first that does; or it isn't declared
abbrev pub MayStart : {U : Type 0} → Declaration → List Event → OpId → Result U StartRefusal → Type 0
MayStart d h op (Ok u) = (op.0 < length d.operations) × Legal (paths_of d) (h ++ Began op ∷ [])
MayStart d h op (Err (starts.Blocked p)) = (op.0 < length d.operations) × First (Forbids h op) (paths_of d) p.0
MayStart d h op (Err starts.UnknownOperation) = length d.operations ≤ op.0
MayStart d h op (Err starts.NoRoom) = ⊥
