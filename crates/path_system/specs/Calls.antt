-- What the narrow calls tell, as replies.
use Rattle.std.specs.Prelude.{ℕ, List, [], ◌∷◌, ◌++◌, Result, Ok, Err, MatchResult}
use Rattle.path_model.specs.declared.ids.OpId.{OpId}
use Rattle.path_model.specs.declared.ids.ActId.{ActId}
use Rattle.path_model.specs.declared.ids.PathId.{PathId}
use Rattle.path_model.specs.declared.history.Event.{Event}
use Rattle.path_model.specs.declared.history.Event.TheVariants.{Began}
use Rattle.path_model.specs.declared.journal.Reply.{Reply}
use Rattle.path_model.specs.declared.journal.Reply.TheVariants as replies
use Rattle.path_model.specs.Legal.{Legal, First, Forbids}
use Rattle.path_model.specs.Declarations.{Declaration, paths_of}
use Rattle.path_system.specs.declared.calls.StartRefusal.{StartRefusal}
use Rattle.path_system.specs.declared.calls.StartRefusal.TheVariants as starts
use Rattle.path_system.specs.declared.calls.UseRefusal.{UseRefusal}
use Rattle.path_system.specs.declared.calls.UseRefusal.TheVariants as uses
use Rattle.path_system.specs.declared.calls.FinishRefusal.{FinishRefusal}
use Rattle.path_system.specs.declared.calls.FinishRefusal.TheVariants as finishes

-- the reply of a start, a use and a finish, by what the call told
abbrev pub start_reply : Result ActId StartRefusal → Reply
start_reply (Ok n) = replies.Started n
start_reply (Err starts.NoRoom) = replies.NoRoom
start_reply (Err starts.UnknownOperation) = replies.UnknownOperation
start_reply (Err (starts.Blocked p)) = replies.Blocked p

abbrev pub use_reply : Result ℕ UseRefusal → Reply
use_reply (Ok x) = replies.Used x
use_reply (Err uses.NoRoom) = replies.NoRoom
use_reply (Err uses.Stale) = replies.Stale
use_reply (Err uses.NotYours) = replies.NotYours
use_reply (Err uses.NotOffered) = replies.NotOffered
use_reply (Err uses.Empty) = replies.Empty
use_reply (Err uses.Full) = replies.Full
use_reply (Err uses.Overflow) = replies.Overflow
use_reply (Err uses.DeviceFailed) = replies.DeviceFailed

abbrev pub finish_reply : {U : Type 0} → Result U FinishRefusal → Reply
finish_reply (Ok u) = replies.Finished
finish_reply (Err finishes.NoRoom) = replies.NoRoom
finish_reply (Err finishes.Stale) = replies.Stale
finish_reply (Err finishes.NotYours) = replies.NotYours

-- the replies that are owed to a start, a use or a finish
abbrev pub IsStartReply : Reply → Type 0
IsStartReply (replies.Started n) = Unit {0}
IsStartReply (replies.Blocked p) = Unit {0}
IsStartReply replies.UnknownOperation = Unit {0}
IsStartReply replies.NoRoom = Unit {0}
IsStartReply reply = ⊥

abbrev pub IsUseReply : Reply → Type 0
IsUseReply (replies.Started n) = ⊥
IsUseReply (replies.Blocked p) = ⊥
IsUseReply replies.UnknownOperation = ⊥
IsUseReply replies.Finished = ⊥
IsUseReply reply = Unit {0}

abbrev pub IsFinishReply : Reply → Type 0
IsFinishReply replies.Finished = Unit {0}
IsFinishReply replies.Stale = Unit {0}
IsFinishReply replies.NotYours = Unit {0}
IsFinishReply replies.NoRoom = Unit {0}
IsFinishReply reply = ⊥

-- no path forbids a start of the operation after the history; or this is the first that does
abbrev pub AllowsStart : {U : Type 0} → Declaration → List Event → OpId → Result U PathId → Type 0
AllowsStart d h a result =
    MatchResult result (λ ok. Legal (paths_of d) (h ++ Began a ∷ [])) (λ p. First (Forbids h a) (paths_of d) p.0)
