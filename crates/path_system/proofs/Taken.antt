-- A use that is taken over moves as its line says.
use Rattle.std.proofs.Common.{◌≡◌, ◌≢◌, ℕ, ◌<◌, List, [], length, refl, sym, ap, subst, ◌∙◌, Some, inl, inr}
use Rattle.std.proofs.lemmas.List.{set-get_or}
use Rattle.path_model.specs.declared.ids.ActId.{ActId}
use Rattle.path_model.specs.declared.journal.Verb.{Verb}
use Rattle.path_model.specs.declared.journal.Reply.{Reply}
use Rattle.path_model.specs.declared.journal.Reply.TheVariants.{Used, DeviceFailed}
use Rattle.path_model.specs.declared.journal.Activation.{Activation}
use Rattle.path_model.specs.Declarations.{resource_of, law_of}
use Rattle.path_model.specs.Devices.{Outcome, serves, refuses, outcome_of}
use Rattle.path_model.specs.Journals.{activation_of}
use Rattle.path_step.specs.Steps.{Acts, IsServed, IsTold, MovesUse, TellsUse, held_at}
use Rattle.path_step.specs.Steps as steps
use Rattle.path_step.proofs.CallerLemmas.{IsRefusal, refusal_of}
use Rattle.path_system.specs.Inner.Parts.{Marked, PartsValue, HasMarked, HasServed, HasFailedStill, MayTell, MayUse, TakesUse, FailsUse, contents, is_law_at}
use Rattle.path_system.proofs.Serving.{serves_by}
use Rattle.path_system.proofs.Stepped.{marks_answered}

-- what a device answers is what was foretold, unless it failed
same_told : (outcome : Outcome) (reply owed : Reply) (held left : List ℕ) → Acts outcome reply held left → reply ≢ DeviceFailed → IsTold outcome owed → reply ≡ owed
same_told (serves x rest) reply owed held left acts served told = elim acts [
  | inl now ↦ now.0 ∙ sym told
  | inr failed ↦ absurd (served failed.0)
]
same_told (refuses r) reply owed held left acts served told = acts.0 ∙ sym told

-- a line that says `Used` says what is owed
pub used_is : (owed told : Reply) (x : ℕ) → MayTell owed told → told ≡ Used x → owed ≡ told
used_is owed told x (inl same) used = sym same
used_is owed told x (inr (y, is, failed)) used = absurd (let e : Used x ≡ DeviceFailed = sym used ∙ failed in cc)

-- where it says another reply, the contents stay
kept_acts : (outcome : Outcome) (owed told : Reply) (held : List ℕ) → ((r : Reply) → outcome ≡ refuses r → IsRefusal r) → IsTold outcome owed → MayTell owed told
    → ((x : ℕ) → told ≢ Used x) → Acts outcome told held held
kept_acts (serves x rest) owed told held refusal tells (inl same) unused = absurd (unused x (same ∙ tells))
kept_acts (serves x rest) owed told held refusal tells (inr (y, is, failed)) unused = inr (failed, refl)
kept_acts (refuses r) owed told held refusal tells (inl same) unused = (same ∙ tells, refl)
kept_acts (refuses r) owed told held refusal tells (inr (y, is, failed)) unused = absurd ((refusal r refl).not_used y (sym tells ∙ is))

module _ (old : PartsValue) (ready : steps.AreReady old.declaration old.present.register.live (contents old.devices) (is_law_at old.devices)) (w : ℕ) (n : ActId) (verb : Verb) (told : Reply) (may : MayUse old w n verb told)
    (a : Activation) (found : activation_of n old.present.register.live ≡ Some a) (own : a.worker ≡ w) where
  abbrev r : ℕ
  r = resource_of old.declaration a.op.0

  abbrev held : List ℕ
  held = held_at (contents old.devices) r

  within : r < length old.declaration.resources
  within = ready.resources a.op.0 (ready.within n a found)

  tells : IsTold (outcome_of (law_of old.declaration r) verb held) may.owed
  tells = (subst (λ o. TellsUse old.declaration (contents old.devices) w verb o may.owed) found may.tells).1 own

  moved : (new : Marked) → IsServed contents HasMarked (law_of old.declaration r) r verb old.devices told new
      → MovesUse contents HasMarked old.declaration w verb (activation_of n old.present.register.live) old.devices told new
  moved new served = subst (λ o. MovesUse contents HasMarked old.declaration w verb o old.devices told new) (sym found) ((λ other. absurd (other own)), (λ same. served))

  -- its device served
  pub take_served : (may_fail : Type 0) (new : Marked) (x : ℕ) → told ≡ Used x → HasServed may_fail old.devices r verb new → TakesUse old w n verb told (record old { devices = new })
  take_served may_fail new x used h =
      let answered = h.answered in
      let marked = marks_answered may_fail old.devices r verb h.reply new answered in
      let by = serves_by (law_of old.declaration r) r verb old.devices.states new.states answered.answer h.reply (ready.laws r within) answered.acts answered.told in
      let same : h.reply ≡ told = same_told _ h.reply may.owed held by.left by.acts h.served tells ∙ used_is may.owed told x may.may used in
      record {
        declaration = refl;
        present = refl;
        places = refl;
        moves = moved new (record {
          serves = subst (λ q. steps.Serves (law_of old.declaration r) r verb (contents old.devices) q (contents new)) same by;
          known = record { law = marked.law; others = marked.others; marked = marked.marked };
        });
      }

  -- its device was only marked
  pub take_marked : (new : Marked) → ((x : ℕ) → told ≢ Used x) → new ≡ record old.devices { asked = new.asked } → HasMarked old.devices r verb told new → TakesUse old w n verb told (record old { devices = new })
  take_marked new unused same marked =
      record {
        declaration = refl;
        present = refl;
        places = refl;
        moves = moved new (record {
          serves = record {
            left = held;
            acts = kept_acts _ may.owed told held (refusal_of (law_of old.declaration r) verb held) tells may.may unused;
            others = ap contents same ∙ sym (set-get_or (contents old.devices) r []);
          };
          known = marked;
        });
      }

  -- its device failed
  pub take_failed : (may_fail : Type 0) (new : Marked) (x : ℕ) → told ≡ Used x → HasFailedStill may_fail old.devices r new → FailsUse may_fail old w n told (record old { devices = new })
  take_failed may_fail new x used failed = record {
    used = (x, used);
    activation = a;
    found = found;
    own = own;
    declaration = refl;
    present = refl;
    places = refl;
    failed = failed;
  }
