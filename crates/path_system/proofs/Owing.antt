-- What is foretold is owed, and a use that is taken over, or that fails, leaves parts that agree with all lines.
use Rattle.std.proofs.Common.{◌≡◌, ◌≢◌, ◌<◌, ◌+◌, ℕ, Bool, true, false, List, ◌++◌, length, refl, sym, ap, subst, ◌∙◌, Option, Some, None, inl, inr, arith, length-append}
use Rattle.std.specs.Prelude.{◌&&◌, not}
use Rattle.std.proofs.lemmas.Bool.{cases_eq}
use Rattle.std.proofs.Math.ListN.{set}
use Rattle.std.proofs.Math.Seq.{map-set_same}
use Rattle.std.proofs.lemmas.List.{get_or-map, length-set, map-set}
use Rattle.path_model.specs.declared.ids.OpId.{OpId}
use Rattle.path_model.specs.declared.ids.ActId.{ActId}
use Rattle.path_model.specs.declared.journal.Verb.{Verb}
use Rattle.path_model.specs.declared.journal.Attempt.{Attempt}
use Rattle.path_model.specs.declared.journal.Attempt.TheVariants.{Start, Apply, Finish}
use Rattle.path_model.specs.declared.journal.Reply.{Reply}
use Rattle.path_model.specs.declared.journal.Reply.TheVariants.{Started, Blocked, UnknownOperation, Used, DeviceFailed, NoRoom}
use Rattle.path_model.specs.declared.journal.Activation.{Activation}
use Rattle.path_model.specs.declared.journal.Line.{Line}
use Rattle.path_model.specs.Asked.{its_resource, resource_asked}
use Rattle.path_model.specs.Declarations.{Declaration, resource_of, law_of}
use Rattle.path_model.specs.Devices.{Outcome, serves, refuses}
use Rattle.path_model.specs.Journals.{activation_of, live}
use Rattle.path_model.specs.Places.{lacks_number}
use Rattle.path_model.specs.Segments.{OwedBehind}
use Rattle.path_model.proofs.CallerLemmas.{room_behind_is}
use Rattle.path_gate.proofs.CallerLemmas.{same_room, owed_without_number, owed_with_number, right_fails}
use Rattle.path_model.specs.Places.{has_room}
use Rattle.path_shelf.specs.States.{State, state_at, laws_of}
use Rattle.path_shelf.proofs.CallerLemmas.{laws_replaced}
use Rattle.path_step.specs.Steps.{Present, asked_of, Foretells, IsTold, Tells, TellsFinish, TellsStart, TellsUse, can_take, held_at}
use Rattle.path_step.proofs.CallerLemmas as step
use Rattle.path_step.proofs.CallerLemmas.{IsRefusal, refusal_of, AsksNone, AsksOne, asked_by_line}
use Rattle.path_system.specs.Accounts.{contents_of, failures_of, StayBut}
use Rattle.path_system.specs.Inner.Openings.{Row, numbers_of}
use Rattle.path_system.specs.Inner.Pasts.{Lines}
use Rattle.path_system.specs.Before.{LeadTo}
use Rattle.path_system.specs.Inner.Parts.{Marked, PartsValue, Answers, FailsUse, HasFailedStill, HasMarked, TakesUse, contents}
use Rattle.path_system.specs.Inner.Parts as parts
use Rattle.path_system.proofs.Agreed.{states_count}
use Rattle.path_system.proofs.Stepped.{asked_by, marks_itself}
use Rattle.path_system.proofs.Controlled.{earlier, all, whole, left_now, ready_now}

-- a law that would serve tells no failure, nor does its refusal
unfailed_outcome : (outcome : Outcome) (reply : Reply) → ((r : Reply) → outcome ≡ refuses r → IsRefusal r) → IsTold outcome reply → reply ≢ DeviceFailed
unfailed_outcome (serves x rest) reply refusal told e = let is : Used x ≡ DeviceFailed = sym told ∙ e in cc
unfailed_outcome (refuses r) reply refusal told e = (refusal r refl).not_failed (sym told ∙ e)

module _ (d : Declaration) (old : Present) (held : List (List ℕ)) (w : ℕ) where
  unfailed_start : (a : OpId) (reply : Reply) → TellsStart (length d.operations) old a reply → reply ≢ DeviceFailed
  unfailed_start a (Started n) tells e = cc
  unfailed_start a (Blocked p) tells e = cc
  unfailed_start a UnknownOperation tells e = cc
  unfailed_start a reply tells e = absurd tells

  unfailed_use : (verb : Verb) (o : Option Activation) (reply : Reply) → TellsUse d held w verb o reply → reply ≢ DeviceFailed
  unfailed_use verb None reply tells e = absurd (cc)
  unfailed_use verb (Some a) reply tells e = elim (cases_eq a.worker w) [
    | inl own ↦ unfailed_outcome _ reply (refusal_of (law_of d (resource_of d a.op.0)) verb (held_at held (resource_of d a.op.0))) (tells.1 own) e
    | inr other ↦ (let told = tells.0 other in cc)
  ]

  unfailed_finish : (o : Option Activation) (reply : Reply) → TellsFinish w o reply → reply ≢ DeviceFailed
  unfailed_finish None reply tells e = absurd (cc)
  unfailed_finish (Some a) reply tells e = elim (cases_eq a.worker w) [
    | inl own ↦ (let told = tells.1 own in cc)
    | inr other ↦ (let told = tells.0 other in cc)
  ]

  unfailed_told : (attempt : Attempt) (reply : Reply) → Tells d old held w attempt reply → reply ≢ DeviceFailed
  unfailed_told (Start a) reply tells = unfailed_start a reply tells
  unfailed_told (Apply n verb) reply tells = unfailed_use verb _ reply tells
  unfailed_told (Finish n) reply tells = unfailed_finish _ reply tells

  -- no failure is foretold
  pub unfailed : (room lines : ℕ) (attempt : Attempt) (reply : Reply) → Foretells d old held room lines w attempt reply → reply ≢ DeviceFailed
  unfailed room lines attempt reply tells = go _ refl
    where
      go : (can : Bool) → can_take old room lines w attempt ≡ can → reply ≢ DeviceFailed
      go true is = unfailed_told attempt reply (tells.inside is)
      go false is = λ e. (let told = tells.outside is in cc)

-- behind earlier lines, which have places of their own, the same is foretold
foretells_with : (old : PartsValue) (room lines k w : ℕ) (attempt : Attempt) (reply : Reply) → Foretells old.declaration old.present (contents old.devices) room lines w attempt reply
    → Foretells old.declaration old.present (contents old.devices) (room + k) (lines + k) w attempt reply
foretells_with old room lines k w attempt reply tells =
    let same : can_take old.present (room + k) (lines + k) w attempt ≡ can_take old.present room lines w attempt =
    ap (λ b. b && not (lacks_number old.present.register.begun attempt)) (same_room room lines k old.present.register.live w attempt) in
    record { inside = λ is. tells.inside (sym same ∙ is); outside = λ is. tells.outside (sym same ∙ is) }

module _ (old : PartsValue) (room : ℕ) (rows : List Row) (past : Lines) (count : ℕ) (t : parts.IsTold old room rows past count) where
  module _ (openings : List (List ℕ)) (before : List Line) (leads : LeadTo old.declaration past.opened (numbers_of rows) openings before) where
    abbrev earlier_lines : List Line
    earlier_lines = earlier old room rows past count t openings before leads

    abbrev all_lines : List Line
    all_lines = all old room rows past count t openings before leads

    abbrev whole_room : ℕ
    whole_room = whole old room rows past count t openings before leads

    -- what is foretold is owed behind the earlier lines
    pub owed_foretold : (w : ℕ) (attempt : Attempt) (reply : Reply) → Foretells old.declaration old.present (contents old.devices) room count w attempt reply
        → OwedBehind old.declaration room openings earlier_lines past.present w attempt reply
    owed_foretold w attempt reply tells = go _ refl
      where
        tells_all : Foretells old.declaration old.present (contents old.devices) whole_room (length all_lines) w attempt reply
        tells_all =
            let lines : length all_lines ≡ count + length earlier_lines = (let l = length-append earlier_lines past.present in let n = t.counted in omega (arith, l, n)) in
            rw (room_behind_is earlier_lines room, lines) (foretells_with old room count (length earlier_lines) w attempt reply tells)

        go : (b : Bool) → lacks_number old.present.register.begun attempt ≡ b → OwedBehind old.declaration room openings earlier_lines past.present w attempt reply
        go true is =
            owed_without_number old.declaration room openings t.good_room w old.present.register.begun reply earlier_lines past.present attempt (left_now old room rows past count t openings before leads).begun is
            (tells.outside (right_fails (has_room room count old.present.register.live w attempt) (lacks_number old.present.register.begun attempt) is))
        go false is =
            owed_with_number old.declaration room openings t.good_room w old.present.register.begun reply earlier_lines past.present attempt (left_now old room rows past count t openings before leads).begun is
            (step.foretold_is old.declaration t.sound.lawful old.present (contents old.devices) whole_room openings all_lines (left_now old room rows past count t openings before leads) w attempt reply is tells_all)

  -- a use that is taken over is an answer
  pub answers_use : (w : ℕ) (attempt : Attempt) (n : ActId) (verb : Verb) (owed told : Reply) (new : PartsValue) → attempt ≡ Apply n verb
      → Foretells old.declaration old.present (contents old.devices) room count w attempt owed → owed ≢ NoRoom → TakesUse old w n verb told new
      → Answers HasMarked old room count w attempt told new
  answers_use w attempt n verb owed told new is tells roomy takes = record {
    declaration = takes.declaration;
    places = takes.places;
    step = record {
      inside = λ can. rw is (takes.moves, takes.present);
      outside = λ cannot. absurd (roomy (tells.outside cannot));
    };
  }

  -- what may be told of a use where there is room
  pub tells_use : (w : ℕ) (attempt : Attempt) (n : ActId) (verb : Verb) (owed : Reply) → attempt ≡ Apply n verb
      → Foretells old.declaration old.present (contents old.devices) room count w attempt owed → owed ≢ NoRoom
      → TellsUse old.declaration (contents old.devices) w verb (activation_of n old.present.register.live) owed
  tells_use w attempt n verb owed is tells roomy = go _ refl
    where
      go : (can : Bool) → can_take old.present room count w attempt ≡ can → TellsUse old.declaration (contents old.devices) w verb (activation_of n old.present.register.live) owed
      go true can = subst (λ a. Tells old.declaration old.present (contents old.devices) w a owed) is (tells.inside can)
      go false can = absurd (roomy (tells.outside can))

  -- counts of failures, where one device has another state
  count_stays : (before after : Marked) (q : ℕ) → q < length before.states → after.states ≡ set before.states q (state_at after.states q) → StayBut (Some q) (failures_of before.states) (failures_of after.states)
  count_stays before after q within others =
      let more : q < length after.states = (let k = ap length others in let l = length-set before.states q (state_at after.states q) in omega (arith, k, l, within)) in
      ap failures_of others ∙ map-set (λ (x : State). x.failures) before.states q (state_at after.states q)
      ∙ ap (set (failures_of before.states) q) (sym (get_or-map (λ (x : State). x.failures) after.states q _ 0 more))

  states_within : (q : ℕ) → q < length old.declaration.resources → q < length old.devices.states
  states_within q within = let k = states_count old room count t.sound in omega (arith, k, within)

  -- only the device that is asked changes its count
  stay_asked : (w : ℕ) (attempt : Attempt) (told : Reply) (new : PartsValue) → Answers HasMarked old room count w attempt told new
      → StayBut (asked_of old.declaration old.present.register.live attempt told) (failures_of old.devices.states) (failures_of new.devices.states)
  stay_asked w attempt told new answers =
      elim (asked_by HasMarked marks_itself old room count t.sound new w attempt told answers) [
        | inl none ↦ rw none.line (ap (λ (m : Marked). failures_of m.states) none.devices)
        | inr one ↦ rw one.line (count_stays old.devices new.devices one.resource (states_within one.resource one.declared) one.served.known.others)
      ]

  -- which is the one that the line asks
  asked_same : (openings : List (List ℕ)) (before : List Line) (leads : LeadTo old.declaration past.opened (numbers_of rows) openings before) (attempt : Attempt) (told : Reply)
      → asked_of old.declaration old.present.register.live attempt told ≡ resource_asked old.declaration (all old room rows past count t openings before leads) attempt told
  asked_same openings before leads attempt told =
      ap (λ xs. asked_of old.declaration xs attempt told) (left_now old room rows past count t openings before leads).live
      ∙ sym (asked_by_line old.declaration (all old room rows past count t openings before leads) attempt told)

  pub stay_taken : (w : ℕ) (attempt : Attempt) (told : Reply) (new : PartsValue) → Answers HasMarked old room count w attempt told new
      → (openings : List (List ℕ)) (before : List Line) (leads : LeadTo old.declaration past.opened (numbers_of rows) openings before)
      → StayBut (resource_asked old.declaration (all old room rows past count t openings before leads) attempt told) (failures_of old.devices.states) (failures_of new.devices.states)
  stay_taken w attempt told new answers openings before leads =
      subst (λ o. StayBut o (failures_of old.devices.states) (failures_of new.devices.states)) (asked_same openings before leads attempt told) (stay_asked w attempt told new answers)

  module _ (may_fail : Type 0) (new : PartsValue) (w : ℕ) (n : ActId) (told : Reply) (f : FailsUse may_fail old w n told new) where
    abbrev r : ℕ
    r = resource_of old.declaration f.activation.op.0

    contents_kept : contents new.devices ≡ contents old.devices
    contents_kept = ap contents_of f.failed.others ∙ map-set_same (λ (s : State). s.contents) old.devices.states r (state_at new.devices.states r) _ f.failed.kept

    -- a device that failed leaves all lines
    pub told_failed : parts.IsTold new room rows past count
    told_failed = record {
      sound = record {
        lawful = rw f.declaration t.sound.lawful;
        paths = rw (f.declaration, f.present) t.sound.paths;
        together = rw (f.declaration, f.present) t.sound.together;
        few = rw f.present t.sound.few;
        places = f.places ∙ t.sound.places;
        laws = rw f.declaration (ap laws_of f.failed.others ∙ laws_replaced old.devices.states r (state_at new.devices.states r) f.failed.law ∙ t.sound.laws);
        marks = rw (f.declaration, f.failed.unmarked) t.sound.marks;
      };
      marked = rw (f.declaration, f.failed.unmarked) t.marked;
      behind = λ openings before leads.
          let was = t.behind openings before (subst (λ d. LeadTo d past.opened (numbers_of rows) openings before) f.declaration leads) in
          record { left = rw (f.declaration, f.present, contents_kept) was.left; segments = rw f.declaration was.segments };
      good_room = t.good_room;
      counted = t.counted;
      roomy = rw f.declaration t.roomy;
    }

    -- and changes its own count alone
    pub stay_failed : (attempt : Attempt) (verb : Verb) → attempt ≡ Apply n verb
        → (openings : List (List ℕ)) (before : List Line) (leads : LeadTo old.declaration past.opened (numbers_of rows) openings before)
        → StayBut (resource_asked old.declaration (all old room rows past count t openings before leads) attempt told) (failures_of old.devices.states) (failures_of new.devices.states)
    stay_failed attempt verb is openings before leads =
        let asked : asked_of old.declaration old.present.register.live attempt told ≡ Some r =
        ap (λ a. asked_of old.declaration old.present.register.live a told) is ∙ ap (asked_of old.declaration old.present.register.live (Apply n verb)) f.used.1 ∙ ap (its_resource old.declaration) f.found in
        let ready = ready_now old room rows past count t in
        rw (sym (asked_same openings before leads attempt told) ∙ asked)
        (count_stays old.devices new.devices r (states_within r (ready.ready.resources f.activation.op.0 (ready.ready.within n f.activation f.found))) f.failed.others)
