-- A start, a use and a finish are owed one of the replies that their narrow calls tell.
use Rattle.std.proofs.Common.{◌≡◌, ◌++◌, ◌∙◌, ℕ, Bool, true, false, List, Result, Ok, Err, IfErr, ap, sym, subst}
use Rattle.path_model.specs.declared.ids.OpId.{OpId}
use Rattle.path_model.specs.declared.ids.ActId.{ActId}
use Rattle.path_model.specs.declared.journal.Verb.{Verb}
use Rattle.path_model.specs.declared.journal.Attempt.{Attempt}
use Rattle.path_model.specs.declared.journal.Attempt.TheVariants.{Start, Apply, Finish}
use Rattle.path_model.specs.declared.journal.Reply.{Reply}
use Rattle.path_model.specs.declared.journal.Reply.TheVariants.{Started, Blocked, UnknownOperation, Used, NotOffered, Empty, Full, Overflow, DeviceFailed, Finished, Stale, NotYours, NoRoom}
use Rattle.path_model.specs.declared.journal.Line.{Line}
use Rattle.path_model.specs.Asked.{is_device_reply}
use Rattle.path_model.specs.Contents.{contents_after}
use Rattle.path_model.specs.Declarations.{Declaration, law_of, resource_of}
use Rattle.path_model.specs.Owed.{by_words, OwedToStart, OwedToUse, OwedToFinish, Owed}
use Rattle.path_model.specs.Segments.{has_no_number, room_behind, OwedBehind, OwedUnless}
use Rattle.path_model.proofs.CallerLemmas.{RefusesAsDevice, refuses_as_device}
use Rattle.path_system.specs.declared.calls.UseRefusal.{UseRefusal}
use Rattle.path_system.specs.declared.calls.UseRefusal.TheVariants as uses
use Rattle.path_system.specs.Calls.{use_reply, IsStartReply, IsUseReply, IsFinishReply}

-- a device's reply is one to a use
device_told : (r : Reply) → is_device_reply r ≡ true → IsUseReply r
device_told (Started n) e = cc
device_told (Blocked p) e = cc
device_told UnknownOperation e = cc
device_told Finished e = cc
device_told (Used x) e = tt
device_told NotOffered e = tt
device_told Empty e = tt
device_told Full e = tt
device_told Overflow e = tt
device_told DeviceFailed e = tt
device_told Stale e = tt
device_told NotYours e = tt
device_told NoRoom e = tt

module _ (d : Declaration) (room : ℕ) (openings : List (List ℕ)) (ls : List Line) (w : ℕ) where
  start_reply_of : (a : OpId) (r : Reply) → OwedToStart (by_words d) d room ls a r → IsStartReply r
  start_reply_of a _ (OwedToStart.no_room l) = tt
  start_reply_of a _ (OwedToStart.unknown l k) = tt
  start_reply_of a _ (OwedToStart.blocked p l k f) = tt
  start_reply_of a _ (OwedToStart.started n l k f e) = tt

  use_reply_of : (n : ActId) (verb : Verb) (r : Reply) → OwedToUse d room openings ls w n verb r → IsUseReply r
  use_reply_of n verb _ (OwedToUse.no_room l) = tt
  use_reply_of n verb _ (OwedToUse.stale l k) = tt
  use_reply_of n verb _ (OwedToUse.not_yours a l k o) = tt
  use_reply_of n verb _ (OwedToUse.refused a r l own k) =
      device_told r (subst RefusesAsDevice k (refuses_as_device (law_of d (resource_of d a.op.0)) verb (contents_after d openings ls (resource_of d a.op.0))))
  use_reply_of n verb _ (OwedToUse.served a x rest l own k) = tt
  use_reply_of n verb _ (OwedToUse.failed a x rest l own k) = tt

  finish_reply_of : (n : ActId) (r : Reply) → OwedToFinish d room ls w n r → IsFinishReply r
  finish_reply_of n _ (OwedToFinish.finished a k) = tt
  finish_reply_of n _ (OwedToFinish.no_room k l) = tt
  finish_reply_of n _ (OwedToFinish.stale l k) = tt
  finish_reply_of n _ (OwedToFinish.not_yours a l k o) = tt

module _ (d : Declaration) (room : ℕ) (openings : List (List ℕ)) (earlier ls : List Line) (w : ℕ) where
  -- without a number the reply is NoRoom
  told_behind : (P : Reply → Type 0) → P NoRoom → (attempt : Attempt) → ((r : Reply) → Owed d (room_behind earlier room) openings (earlier ++ ls) w attempt r → P r)
      → (r : Reply) → OwedBehind d room openings earlier ls w attempt r → P r
  told_behind P none attempt some r = go (has_no_number earlier ls attempt)
    where
      go : (b : Bool) → OwedUnless b (Owed d (room_behind earlier room) openings (earlier ++ ls) w attempt r) r → P r
      go true e = subst P (sym e) none
      go false o = some r o

  pub is_start_reply : (a : OpId) (r : Reply) → OwedBehind d room openings earlier ls w (Start a) r → IsStartReply r
  is_start_reply a = told_behind IsStartReply tt (Start a) (start_reply_of d (room_behind earlier room) openings (earlier ++ ls) w a)

  pub is_use_reply : (n : ActId) (verb : Verb) (r : Reply) → OwedBehind d room openings earlier ls w (Apply n verb) r → IsUseReply r
  is_use_reply n verb = told_behind IsUseReply tt (Apply n verb) (use_reply_of d (room_behind earlier room) openings (earlier ++ ls) w n verb)

  pub is_finish_reply : (n : ActId) (r : Reply) → OwedBehind d room openings earlier ls w (Finish n) r → IsFinishReply r
  is_finish_reply n = told_behind IsFinishReply tt (Finish n) (finish_reply_of d (room_behind earlier room) openings (earlier ++ ls) w n)

-- what follows from a failed device follows from the refusal that tells of it
pub failed_told : (r : Result ℕ UseRefusal) (reply : Reply) → use_reply r ≡ reply → {P : Type 0} → (reply ≡ DeviceFailed → P) → IfErr r (λ refusal. refusal ≡ uses.DeviceFailed → P)
failed_told (Ok x) reply told p = tt
failed_told (Err e) reply told p = λ is. p (sym told ∙ ap (λ (f : UseRefusal). use_reply (Err f)) is)
