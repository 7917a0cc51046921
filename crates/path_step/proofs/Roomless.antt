-- What gets no room changes nothing.
use Rattle.std.proofs.Common.{◌≡◌, ◌≢◌, ℕ, Bool, true, false, cond, List, [], ◌∷◌, length, refl, sym, ◌∙◌, Option, Some, None, inl, inr}
use Rattle.std.proofs.lemmas.Bool.{cases_eq}
use Rattle.path_model.specs.declared.ids.OpId.{OpId}
use Rattle.path_model.specs.declared.ids.ActId.{ActId}
use Rattle.path_model.specs.declared.resource.Law.{Law}
use Rattle.path_model.specs.declared.resource.Law.TheVariants.{Cell, Tally, Queue}
use Rattle.path_model.specs.declared.journal.Verb.{Verb}
use Rattle.path_model.specs.declared.journal.Verb.TheVariants.{Put, Take, Look, Add}
use Rattle.path_model.specs.declared.journal.Attempt.{Attempt}
use Rattle.path_model.specs.declared.journal.Attempt.TheVariants.{Start, Apply, Finish}
use Rattle.path_model.specs.declared.journal.Reply.{Reply}
use Rattle.path_model.specs.declared.journal.Reply.TheVariants.{Started, Blocked, UnknownOperation, NotOffered, Empty, Full, Overflow, NoRoom}
use Rattle.path_model.specs.declared.journal.Activation.{Activation}
use Rattle.path_model.specs.Declarations.{Declaration, resource_of, law_of}
use Rattle.path_model.specs.Devices.{Outcome, serves, refuses, outcome_of}
use Rattle.path_step.specs.Steps.{Present, Acts, held_at, MovesStart, MovesUse, MovesFinish, Moves, Answers, can_take}

other : (r told : Reply) → refuses told ≡ refuses r → told ≢ NoRoom → r ≢ NoRoom
other r told is apart e = let same : r ≡ told = cc in apart (sym same ∙ e)

served_or_other : (b : Bool) (x : ℕ) (rest : List ℕ) (r told : Reply) → cond b (serves x rest) (refuses told) ≡ refuses r → told ≢ NoRoom → r ≢ NoRoom
served_or_other true x rest r told is apart = absurd (cc)
served_or_other false x rest r told is apart = other r told is apart

-- no law refuses for want of room
refuses_otherwise : (law : Law) (verb : Verb) (held : List ℕ) (r : Reply) → outcome_of law verb held ≡ refuses r → r ≢ NoRoom
refuses_otherwise Cell (Put x) held r is = absurd (cc)
refuses_otherwise Cell Take held r is = other r NotOffered is (λ e. cc)
refuses_otherwise Cell Look held r is = absurd (cc)
refuses_otherwise Cell (Add x) held r is = other r NotOffered is (λ e. cc)
refuses_otherwise Tally (Put x) held r is = other r NotOffered is (λ e. cc)
refuses_otherwise Tally Take held r is = other r NotOffered is (λ e. cc)
refuses_otherwise Tally Look held r is = absurd (cc)
refuses_otherwise Tally (Add x) held r is = served_or_other _ _ _ r Overflow is (λ e. cc)
refuses_otherwise (Queue n) (Put x) held r is = served_or_other _ _ _ r Full is (λ e. cc)
refuses_otherwise (Queue n) Take [] r is = other r Empty is (λ e. cc)
refuses_otherwise (Queue n) Take (x ∷ held) r is = absurd (cc)
refuses_otherwise (Queue n) Look [] r is = other r Empty is (λ e. cc)
refuses_otherwise (Queue n) Look (x ∷ held) r is = absurd (cc)
refuses_otherwise (Queue n) (Add x) held r is = other r NotOffered is (λ e. cc)

acted : (outcome : Outcome) (reply : Reply) (before left : List ℕ) → ((r : Reply) → outcome ≡ refuses r → r ≢ NoRoom) → Acts outcome reply before left → reply ≢ NoRoom
acted (serves x rest) reply before left apart acts e = elim acts [
  | inl served ↦ absurd (let told = served.0 in cc)
  | inr failed ↦ absurd (let told = failed.0 in cc)
]
acted (refuses r) reply before left apart acts e = apart r refl (sym acts.0 ∙ e)

module _ {D : Type 0} (contents : D → List (List ℕ)) (asked : D → ℕ → Verb → Reply → D → Type 0) (d : Declaration) (old new : Present) (before after : D) (w : ℕ) (reply : Reply) where
  started : (a : OpId) (r : Reply) → reply ≡ r → MovesStart (length d.operations) old w a r new → reply ≢ NoRoom
  started a (Started n) is m e = absurd (cc)
  started a (Blocked p) is m e = absurd (cc)
  started a UnknownOperation is m e = absurd (cc)
  started a r is m e = absurd m.0

  used : (verb : Verb) (o : Option Activation) → MovesUse contents asked d w verb o before reply after → reply ≢ NoRoom
  used verb None m e = absurd (let told = m.0 in cc)
  used verb (Some a) m e = elim (cases_eq a.worker w) [
    | inl own ↦ acted _ reply _ _ (refuses_otherwise (law_of d (resource_of d a.op.0)) verb (held_at (contents before) (resource_of d a.op.0))) (m.1 own).serves.acts e
    | inr apart ↦ absurd (let told = (m.0 apart).0 in cc)
  ]

  finished : (n : ActId) (o : Option Activation) → MovesFinish old w n o reply new → reply ≢ NoRoom
  finished n None m e = absurd (let told = m.0 in cc)
  finished n (Some a) m e = elim (cases_eq a.worker w) [
    | inl own ↦ absurd (let told = (m.1 own).told in cc)
    | inr apart ↦ absurd (let told = (m.0 apart).0 in cc)
  ]

  moved : (attempt : Attempt) → Moves contents asked d old before w attempt reply new after → reply ≢ NoRoom
  moved (Start a) m = started a reply refl m.0
  moved (Apply n verb) m = used verb _ m.0
  moved (Finish n) m = finished n _ m.0

  -- what gets no room changes nothing
  pub without_room : (room lines : ℕ) (attempt : Attempt) → Answers contents asked d old before room lines w attempt reply new after → reply ≡ NoRoom → (new ≡ old) × (after ≡ before)
  without_room room lines attempt answers e = go _ refl
    where
      go : (can : Bool) → can_take old room lines w attempt ≡ can → (new ≡ old) × (after ≡ before)
      go true is = absurd (moved attempt (answers.inside is) e)
      go false is = ((answers.outside is).1, (answers.outside is).2)
