-- Which counts of failures an attempt changes.
use Rattle.std.proofs.Common.{◌≡◌, ℕ, ◌<◌, List, length, get_or, arith, ap, sym, subst, ◌∙◌, Option, Some, Result, Ok, Err, inl, inr}
use Rattle.std.proofs.Math.ListN.{set}
use Rattle.std.proofs.lemmas.List.{get_or-map, map-set}
use Rattle.path_model.specs.declared.journal.Verb.{Verb}
use Rattle.path_model.specs.declared.journal.Attempt.{Attempt}
use Rattle.path_model.specs.declared.journal.Reply.{Reply}
use Rattle.path_model.specs.declared.journal.Reply.TheVariants.{DeviceFailed}
use Rattle.path_model.specs.declared.journal.Line.{Line}
use Rattle.path_model.specs.Asked.{resource_asked}
use Rattle.path_model.specs.Journals.{live}
use Rattle.path_shelf.specs.declared.device.ActFault.{ActFault}
use Rattle.path_shelf.specs.declared.device.ActFault.TheVariants as faults
use Rattle.path_shelf.specs.States.{State, Acts, ActsAt, IsCounted, state_at}
use Rattle.path_shelf.proofs.CallerLemmas.{count_acted}
use Rattle.path_step.specs.Steps.{asked_of}
use Rattle.path_step.proofs.CallerLemmas.{asked_by_line}
use Rattle.path_system.specs.Accounts.{failures_of, StayBut, HasFailed}
use Rattle.path_system.specs.Inner.Parts.{Marked, PartsValue, HasAnswered, Answers, AreSound, as_reply}
use Rattle.path_system.proofs.Agreed.{states_count}
use Rattle.path_system.proofs.Stepped.{asked_by, marks_answered}

-- the counts of the devices before and after, at what was asked
pub record AreCounted (asked : Option ℕ) (reply : Reply) (before after : List ℕ) : Type 0 where
  pub others : StayBut asked before after
  pub failed : reply ≡ DeviceFailed → HasFailed asked before after

-- the count of a device is that of its state
count_at : (states : List State) (r : ℕ) → r < length states → get_or (failures_of states) r 0 ≡ (state_at states r).failures
count_at states r within = get_or-map (λ (x : State). x.failures) states r _ 0 within

-- one device was asked
failed_by : (answer : Result ℕ ActFault) (verb : Verb) (old left : State) → as_reply answer ≡ DeviceFailed → Acts old verb answer left → IsCounted old.failures left.failures
failed_by (Ok x) verb old left e acts = absurd (cc)
failed_by (Err faults.NotOffered) verb old left e acts = absurd (cc)
failed_by (Err faults.Empty) verb old left e acts = absurd (cc)
failed_by (Err faults.Full) verb old left e acts = absurd (cc)
failed_by (Err faults.Overflow) verb old left e acts = absurd (cc)
failed_by (Err faults.Failed) verb old left e acts = acts.fault.1

one_asked : (reply : Reply) (answer : Result ℕ ActFault) (verb : Verb) (r : ℕ) (old new : List State) → reply ≡ as_reply answer → r < length old → ActsAt old r verb answer new
    → AreCounted (Some r) reply (failures_of old) (failures_of new)
one_asked reply answer verb r old new told within acts =
    let more : r < length new = (let k = count_acted old new r verb answer acts in omega (arith, k, within)) in
    let before = count_at old r within in
    let after = count_at new r more in
    record {
      others = ap failures_of acts.others ∙ map-set (λ (x : State). x.failures) old r (state_at new r) ∙ ap (set (failures_of old) r) (sym after);
      failed = λ e. rw (before, after) (failed_by answer verb (state_at old r) (state_at new r) (sym told ∙ e) acts.acts);
    }

module _ (may_fail : Type 0) (old : PartsValue) (room lines : ℕ) (s : AreSound old room lines) (new : PartsValue) (w : ℕ) (attempt : Attempt) (reply : Reply)
    (answers : Answers (HasAnswered may_fail) old room lines w attempt reply new) where
  -- only that of the device that was asked, and it counts a failure
  pub counted : AreCounted (asked_of old.declaration old.present.register.live attempt reply) reply (failures_of old.devices.states) (failures_of new.devices.states)
  counted = elim (asked_by (HasAnswered may_fail) (marks_answered may_fail) old room lines s new w attempt reply answers) [
    | inl none ↦ rw none.line (record { others = ap (λ (m : Marked). failures_of m.states) none.devices; failed = λ e. absurd (none.other e) })
    | inr one ↦
        let count = states_count old room lines s in
        let within = one.declared in
        rw one.line (one_asked reply one.served.known.answer one.verb one.resource old.devices.states new.devices.states one.served.known.told (omega (arith, within, count)) one.served.known.acts)
  ]

  -- a failure is one of devices that may fail
  pub failed_one : reply ≡ DeviceFailed → may_fail
  failed_one e = elim (asked_by (HasAnswered may_fail) (marks_answered may_fail) old room lines s new w attempt reply answers) [
    | inl none ↦ absurd (none.other e)
    | inr one ↦ one.served.known.failed e
  ]

  -- the same of the line behind a journal behind which this is live
  pub counted_behind : (journal : List Line) → old.present.register.live ≡ live journal
      → AreCounted (resource_asked old.declaration journal attempt reply) reply (failures_of old.devices.states) (failures_of new.devices.states)
  counted_behind journal is_live =
      subst (λ o. AreCounted o reply (failures_of old.devices.states) (failures_of new.devices.states))
      (ap (λ xs. asked_of old.declaration xs attempt reply) is_live ∙ sym (asked_by_line old.declaration journal attempt reply)) counted
