-- A reply that is owed is one that the attempt may get.
use Rattle.std.proofs.Common.{◌≡◌, ℕ, List, ◌++◌, Bool, true, false, refl, subst}
use Rattle.path_model.specs.declared.ids.ActId.{ActId}
use Rattle.path_model.specs.declared.journal.Attempt.{Attempt}
use Rattle.path_model.specs.declared.journal.Attempt.TheVariants.{Start, Apply, Finish}
use Rattle.path_model.specs.declared.journal.Reply.{Reply}
use Rattle.path_model.specs.declared.journal.Reply.TheVariants.{Started, Blocked, UnknownOperation, Used, NotOffered, Empty, Full, Overflow, DeviceFailed, Finished, Stale, NotYours, NoRoom}
use Rattle.path_model.specs.declared.journal.Line.{Line}
use Rattle.path_model.specs.declared.journal.Verb.{Verb}
use Rattle.path_model.specs.Asked.{is_device_reply}
use Rattle.path_model.specs.Contents.{contents_after}
use Rattle.path_model.specs.Declarations.{Declaration, resource_of, law_of}
use Rattle.path_model.specs.Owed.{Owed, OwedToStart, OwedToUse, OwedToFinish}
use Rattle.path_model.specs.Segments.{has_no_number, room_behind, OwedBehind, OwedUnless}
use Rattle.path_model.proofs.CallerLemmas.{RefusesAsDevice, refuses_as_device}
use Rattle.path_workers.specs.Attempts.{may_get}

from_device : (n : ActId) (verb : Verb) (q : Reply) → is_device_reply q ≡ true → may_get (Apply n verb) q ≡ true
from_device n verb (Used x) is = refl
from_device n verb NotOffered is = refl
from_device n verb Empty is = refl
from_device n verb Full is = refl
from_device n verb Overflow is = refl
from_device n verb DeviceFailed is = refl
from_device n verb (Started k) is = cc
from_device n verb (Blocked k) is = cc
from_device n verb UnknownOperation is = cc
from_device n verb Finished is = cc
from_device n verb Stale is = refl
from_device n verb NotYours is = refl
from_device n verb NoRoom is = refl

module _ (d : Declaration) (room : ℕ) (openings : List (List ℕ)) (ls : List Line) (w : ℕ) where
  use_gets : (n : ActId) (verb : Verb) (q : Reply) → OwedToUse d room openings ls w n verb q → may_get (Apply n verb) q ≡ true
  use_gets n verb _ (OwedToUse.no_room full) = refl
  use_gets n verb _ (OwedToUse.stale fits none) = refl
  use_gets n verb _ (OwedToUse.not_yours a fits found other) = refl
  use_gets n verb _ (OwedToUse.refused a r fits own e) =
      from_device n verb r (subst RefusesAsDevice e (refuses_as_device (law_of d (resource_of d a.op.0)) verb (contents_after d openings ls (resource_of d a.op.0))))
  use_gets n verb _ (OwedToUse.served a x rest fits own e) = refl
  use_gets n verb _ (OwedToUse.failed a x rest fits own e) = refl

  gets : (a : Attempt) (q : Reply) → Owed d room openings ls w a q → may_get a q ≡ true
  gets (Start op) _ (OwedToStart.no_room full) = refl
  gets (Start op) _ (OwedToStart.unknown fits past) = refl
  gets (Start op) _ (OwedToStart.blocked p fits known forbids) = refl
  gets (Start op) _ (OwedToStart.started n fits known none is) = refl
  gets (Apply n verb) q owed = use_gets n verb q owed
  gets (Finish n) _ (OwedToFinish.finished a own) = refl
  gets (Finish n) _ (OwedToFinish.no_room not full) = refl
  gets (Finish n) _ (OwedToFinish.stale fits none) = refl
  gets (Finish n) _ (OwedToFinish.not_yours a fits found other) = refl

no_room_always : (a : Attempt) → may_get a NoRoom ≡ true
no_room_always (Start op) = refl
no_room_always (Apply n verb) = refl
no_room_always (Finish n) = refl

-- also behind earlier lines
pub gets_behind : (d : Declaration) (room : ℕ) (openings : List (List ℕ)) (earlier ls : List Line) (w : ℕ) (a : Attempt) (q : Reply) → OwedBehind d room openings earlier ls w a q → may_get a q ≡ true
gets_behind d room openings earlier ls w a q owed = go (has_no_number earlier ls a) owed
  where
    go : (b : Bool) → OwedUnless b (Owed d (room_behind earlier room) openings (earlier ++ ls) w a q) q → may_get a q ≡ true
    go true is = rw is (no_room_always a)
    go false is = gets d (room_behind earlier room) openings (earlier ++ ls) w a q is
