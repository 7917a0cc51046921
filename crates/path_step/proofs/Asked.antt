-- Which resource a step asks: that of the live activation that it uses, or none.
use Rattle.std.proofs.Common.{◌≡◌, ◌≢◌, ◌⊎◌, ℕ, ◌<◌, ◌∙◌, Bool, true, false, All, List, length, refl, sym, ap, subst, Option, Some, None, inl, inr}
use Rattle.std.proofs.lemmas.Bool.{cases_eq, cond-true}
use Rattle.path_model.specs.declared.ids.OpId.{OpId}
use Rattle.path_model.specs.declared.ids.ActId.{ActId}
use Rattle.path_model.specs.declared.journal.Verb.{Verb}
use Rattle.path_model.specs.declared.journal.Attempt.{Attempt}
use Rattle.path_model.specs.declared.journal.Attempt.TheVariants.{Start, Apply, Finish}
use Rattle.path_model.specs.declared.journal.Reply.{Reply}
use Rattle.path_model.specs.declared.journal.Reply.TheVariants.{Started, Blocked, UnknownOperation, DeviceFailed, Finished, Stale, NotYours, NoRoom}
use Rattle.path_model.specs.declared.journal.Line.{Line}
use Rattle.path_model.specs.declared.journal.Activation.{Activation}
use Rattle.path_model.specs.Declarations.{Declaration, resource_of, law_of}
use Rattle.path_model.specs.Devices.{Outcome, serves, refuses}
use Rattle.path_model.specs.Journals.{activation_of, live}
use Rattle.path_model.specs.Asked.{is_device_reply, its_resource, resource_asked}
use Rattle.path_model.proofs.CallerLemmas.{RefusesAsDevice, refuses_as_device}
use Rattle.path_decl.specs.Lawful.{Lawful}
use Rattle.path_gate.proofs.CallerLemmas.{found_declared}
use Rattle.path_step.specs.Steps.{Present, Acts, IsServed, MovesStart, MovesUse, MovesFinish, Moves, Answers, asked_of, can_take, held_at}

-- what a law gives is the reply of a device
told_by_device : (outcome : Outcome) (reply : Reply) (held left : List ℕ) → RefusesAsDevice outcome → Acts outcome reply held left → is_device_reply reply ≡ true
told_by_device (serves x rest) reply held left told acts = elim acts [
  | inl served ↦ rw served.0 refl
  | inr failed ↦ rw failed.0 refl
]
told_by_device (refuses r) reply held left told acts = rw acts.0 told

-- the attempt asks no resource, and none served
pub record AsksNone {D : Type 0} (d : Declaration) (live : List Activation) (attempt : Attempt) (before : D) (reply : Reply) (after : D) : Type 0 where
  pub line : asked_of d live attempt reply ≡ None
  pub other : reply ≢ DeviceFailed
  pub devices : after ≡ before

-- the attempt asks one resource, which served
pub record AsksOne {D : Type 0} (contents : D → List (List ℕ)) (asked : D → ℕ → Verb → Reply → D → Type 0) (d : Declaration) (live : List Activation) (attempt : Attempt) (before : D) (reply : Reply) (after : D) : Type 0 where
  pub resource : ℕ
  pub verb : Verb
  pub declared : resource < length d.resources
  pub line : asked_of d live attempt reply ≡ Some resource
  pub served : IsServed contents asked (law_of d resource) resource verb before reply after

-- a line asks what its attempt asks of what is live behind the lines before it
pub asked_by_line : (d : Declaration) (journal : List Line) (attempt : Attempt) (reply : Reply) → resource_asked d journal attempt reply ≡ asked_of d (live journal) attempt reply
asked_by_line d journal (Start a) reply = refl
asked_by_line d journal (Apply n verb) reply = refl
asked_by_line d journal (Finish n) reply = refl

module _ {D : Type 0} (contents : D → List (List ℕ)) (asked : D → ℕ → Verb → Reply → D → Type 0) (d : Declaration) (lawful : Lawful d) (old : Present) (declared : All (λ a. a.op.0 < length d.operations) old.register.live) (before : D)
    (w : ℕ) (new : Present) (after : D) where
  abbrev pub Asks : Attempt → Reply → Type 0
  Asks attempt reply = AsksNone d old.register.live attempt before reply after ⊎ AsksOne contents asked d old.register.live attempt before reply after

  asks_none : (attempt : Attempt) (reply told : Reply) → reply ≡ told → told ≢ DeviceFailed → asked_of d old.register.live attempt told ≡ None → after ≡ before → Asks attempt reply
  asks_none attempt reply told is other none same = subst (Asks attempt) (sym is) (inl (record { line = none; other = other; devices = same }))

  asks_start : (a : OpId) (reply : Reply) → MovesStart (length d.operations) old w a reply new → after ≡ before → Asks (Start a) reply
  asks_start a (Started n) m same = asks_none (Start a) (Started n) (Started n) refl (λ e. cc) refl same
  asks_start a (Blocked p) m same = asks_none (Start a) (Blocked p) (Blocked p) refl (λ e. cc) refl same
  asks_start a UnknownOperation m same = asks_none (Start a) UnknownOperation UnknownOperation refl (λ e. cc) refl same
  asks_start a reply m same = absurd m.0

  asks_own : (n : ActId) (verb : Verb) (a : Activation) (reply : Reply) → activation_of n old.register.live ≡ Some a
      → IsServed contents asked (law_of d (resource_of d a.op.0)) (resource_of d a.op.0) verb before reply after → Asks (Apply n verb) reply
  asks_own n verb a reply is served =
      let r : ℕ = resource_of d a.op.0 in
      let device = told_by_device _ reply _ served.serves.left (refuses_as_device (law_of d r) verb (held_at (contents before) r)) served.serves.acts in
      inr (record {
        resource = r;
        verb = verb;
        declared = lawful.operations a.op.0 _ (found_declared (length d.operations) n old.register.live a declared is);
        line = cond-true _ _ _ device ∙ ap (its_resource d) is;
        served = served;
      })

  asks_use : (n : ActId) (verb : Verb) (o : Option Activation) (reply : Reply) → activation_of n old.register.live ≡ o → MovesUse contents asked d w verb o before reply after → Asks (Apply n verb) reply
  asks_use n verb None reply is m = asks_none (Apply n verb) reply Stale m.0 (λ e. cc) refl m.1
  asks_use n verb (Some a) reply is m = elim (cases_eq a.worker w) [
    | inl own ↦ asks_own n verb a reply is (m.1 own)
    | inr other ↦ asks_none (Apply n verb) reply NotYours (m.0 other).0 (λ e. cc) refl (m.0 other).1
  ]

  asks_finish : (n : ActId) (o : Option Activation) (reply : Reply) → MovesFinish old w n o reply new → after ≡ before → Asks (Finish n) reply
  asks_finish n None reply m same = asks_none (Finish n) reply Stale m.0 (λ e. cc) refl same
  asks_finish n (Some a) reply m same = elim (cases_eq a.worker w) [
    | inl own ↦ asks_none (Finish n) reply Finished (m.1 own).told (λ e. cc) refl same
    | inr other ↦ asks_none (Finish n) reply NotYours (m.0 other).0 (λ e. cc) refl same
  ]

  asks_moved : (attempt : Attempt) (reply : Reply) → Moves contents asked d old before w attempt reply new after → Asks attempt reply
  asks_moved (Start a) reply m = asks_start a reply m.0 m.1
  asks_moved (Apply n verb) reply m = asks_use n verb (activation_of n old.register.live) reply refl m.0
  asks_moved (Finish n) reply m = asks_finish n (activation_of n old.register.live) reply m.0 m.1

  no_room_asks_none : (attempt : Attempt) → asked_of d old.register.live attempt NoRoom ≡ None
  no_room_asks_none (Start a) = refl
  no_room_asks_none (Apply n verb) = refl
  no_room_asks_none (Finish n) = refl

  -- a step asks the resource of the activation that it uses, or none
  pub asks : (room lines : ℕ) (attempt : Attempt) (reply : Reply) → Answers contents asked d old before room lines w attempt reply new after → Asks attempt reply
  asks room lines attempt reply answers = go _ refl
    where
      go : (can : Bool) → can_take old room lines w attempt ≡ can → Asks attempt reply
      go true is = asks_moved attempt reply (answers.inside is)
      go false is = asks_none attempt reply NoRoom (answers.outside is).0 (λ e. cc) (no_room_asks_none attempt) (answers.outside is).2
