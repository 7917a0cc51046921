-- A device's answer is the reply that its law gives, or its failure.
use Rattle.std.proofs.Common.{◌≡◌, inl, inr, ℕ, List, [], Result, Ok, Err, refl, sym, ap, subst, ◌∙◌}
use Rattle.std.proofs.lemmas.List.{map-set}
use Rattle.std.proofs.Math.ListN.{get_or-map}
use Rattle.path_model.specs.declared.journal.Verb.{Verb}
use Rattle.path_model.specs.declared.journal.Reply.{Reply}
use Rattle.path_model.specs.declared.journal.Reply.TheVariants as replies
use Rattle.path_model.specs.declared.resource.Law.{Law}
use Rattle.path_model.specs.declared.resource.Law.TheVariants.{Cell}
use Rattle.path_model.specs.Devices.{Outcome, serves, refuses, outcome_of}
use Rattle.path_shelf.specs.declared.device.ActFault.{ActFault}
use Rattle.path_shelf.specs.declared.device.ActFault.TheVariants as faults
use Rattle.path_shelf.specs.States.{State, WouldServe, ActsAt, state_at}
use Rattle.path_shelf.specs.States as shelf
use Rattle.path_step.specs.Steps.{Acts, Serves, held_at}
use Rattle.path_system.specs.Accounts.{contents_of}
use Rattle.path_system.specs.Inner.Parts.{as_reply}

-- a refusal of the law leaves the contents
refused : (outcome : Outcome) (reply : Reply) (before left : List ℕ) → outcome ≡ refuses reply → left ≡ before → Acts outcome reply before left
refused outcome reply before left is kept = subst (λ (o : Outcome). Acts o reply before left) (sym is) (refl, kept)

-- so does a failure where the law would serve
failed : (outcome : Outcome) (before left : List ℕ) → WouldServe outcome → left ≡ before → Acts outcome replies.DeviceFailed before left
failed (serves x rest) before left would kept = inr (refl, kept)
failed (refuses r) before left would kept = absurd would

acts_by : (old new : State) (verb : Verb) (answer : Result ℕ ActFault) → shelf.Acts old verb answer new → Acts (outcome_of old.law verb old.contents) (as_reply answer) old.contents new.contents
acts_by old new verb (Ok x) acts = subst (λ (o : Outcome). Acts o (replies.Used x) old.contents new.contents) (sym acts.served) (inl (refl, refl))
acts_by old new verb (Err faults.NotOffered) acts = refused _ replies.NotOffered old.contents new.contents acts.fault acts.kept
acts_by old new verb (Err faults.Empty) acts = refused _ replies.Empty old.contents new.contents acts.fault acts.kept
acts_by old new verb (Err faults.Full) acts = refused _ replies.Full old.contents new.contents acts.fault acts.kept
acts_by old new verb (Err faults.Overflow) acts = refused _ replies.Overflow old.contents new.contents acts.fault acts.kept
acts_by old new verb (Err faults.Failed) acts = failed _ old.contents new.contents acts.fault.0 acts.kept

abbrev arbitrary : State
arbitrary = record { law = Cell; contents = []; failures = 0 }

-- what the device of a resource contains
pub held_by : (states : List State) (r : ℕ) → held_at (contents_of states) r ≡ (state_at states r).contents
held_by states r = get_or-map (λ (s : State). s.contents) states r arbitrary

pub serves_by : (law : Law) (r : ℕ) (verb : Verb) (old new : List State) (answer : Result ℕ ActFault) (reply : Reply) → (state_at old r).law ≡ law → ActsAt old r verb answer new → reply ≡ as_reply answer
    → Serves law r verb (contents_of old) reply (contents_of new)
serves_by law r verb old new answer reply has acts told =
    let before : List ℕ = (state_at old r).contents in
    let left : List ℕ = (state_at new r).contents in
    let by : Acts (outcome_of law verb before) (as_reply answer) before left =
    subst (λ (l : Law). Acts (outcome_of l verb before) (as_reply answer) before left) has (acts_by (state_at old r) (state_at new r) verb answer acts.acts) in
    record {
      left = left;
      acts = subst (λ (held : List ℕ). Acts (outcome_of law verb held) reply held left) (sym (held_by old r)) (subst (λ (q : Reply). Acts (outcome_of law verb before) q before left) (sym told) by);
      others = ap contents_of acts.others ∙ map-set (λ (s : State). s.contents) old r (state_at new r);
    }
