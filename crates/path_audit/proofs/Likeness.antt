-- The replay says that the device failed exactly when the line does.
use Rattle.std.proofs.Common.{◌≡◌, ◌≢◌, ℕ, Bool, true, false, List, length, refl, sym, ◌∙◌, Option, Some, None, inl, inr}
use Rattle.std.proofs.lemmas.Bool.{cases_eq}
use Rattle.path_model.specs.declared.ids.OpId.{OpId}
use Rattle.path_model.specs.declared.ids.ActId.{ActId}
use Rattle.path_model.specs.declared.journal.Verb.{Verb}
use Rattle.path_model.specs.declared.journal.Attempt.{Attempt}
use Rattle.path_model.specs.declared.journal.Attempt.TheVariants.{Start, Apply, Finish}
use Rattle.path_model.specs.declared.journal.Reply.{Reply}
use Rattle.path_model.specs.declared.journal.Reply.TheVariants.{Started, Blocked, UnknownOperation, Used, DeviceFailed, Finished, Stale, NotYours, NoRoom}
use Rattle.path_model.specs.declared.journal.Line.{Line}
use Rattle.path_model.specs.declared.journal.Activation.{Activation}
use Rattle.path_model.specs.Declarations.{Declaration}
use Rattle.path_model.specs.Devices.{Outcome, serves, refuses}
use Rattle.path_step.specs.Steps.{Present, MovesStart, MovesUse, MovesFinish, Moves, can_take}
use Rattle.path_step.specs.Steps as steps
use Rattle.path_step.proofs.CallerLemmas.{IsRefusal}
use Rattle.path_audit.specs.Inner.Outcomes.{Acts, IsLike}
use Rattle.path_audit.specs.Inner.Replays.{Held, ReplayValue, Replays, asked, held_for, says_failed}

like_plain : (fails : Bool) (reply told : Reply) → reply ≡ told → ((x : ℕ) → told ≢ Used x) → told ≢ DeviceFailed → IsLike fails reply
like_plain fails reply told is not_used not_failed = record { used = λ x e. absurd (not_used x (sym is ∙ e)); failed = λ e. absurd (not_failed (sym is ∙ e)) }

-- a resource that acts so is like what it was told
pub like_acted : (outcome : Outcome) (fails : Bool) (reply : Reply) (before left : List ℕ) → ((r : Reply) → outcome ≡ refuses r → IsRefusal r) → Acts outcome fails reply before left → IsLike fails reply
like_acted (serves x rest) false reply before left refusal acts = record { used = λ y e. refl; failed = λ e. absurd (let told = acts.0 in cc) }
like_acted (serves x rest) true reply before left refusal acts = record { used = λ y e. absurd (let told = acts.0 in cc); failed = λ e. refl }
like_acted (refuses r) fails reply before left refusal acts = like_plain fails reply r acts.0 (refusal r refl).not_used (refusal r refl).not_failed

-- and serves as its law says, or fails
pub acts_so : (outcome : Outcome) (fails : Bool) (reply : Reply) (before left : List ℕ) → Acts outcome fails reply before left → steps.Acts outcome reply before left
acts_so (serves x rest) false reply before left acts = inl acts
acts_so (serves x rest) true reply before left acts = inr acts
acts_so (refuses r) fails reply before left acts = acts

module _ (d : Declaration) (old new : Present) (before after : Held) (w : ℕ) (reply : Reply) where
  like_start : (a : OpId) (r : Reply) → reply ≡ r → MovesStart (length d.operations) old w a r new → IsLike before.fails reply
  like_start a (Started n) is m = like_plain before.fails reply (Started n) is (λ x e. cc) (λ e. cc)
  like_start a (Blocked p) is m = like_plain before.fails reply (Blocked p) is (λ x e. cc) (λ e. cc)
  like_start a UnknownOperation is m = like_plain before.fails reply UnknownOperation is (λ x e. cc) (λ e. cc)
  like_start a r is m = absurd m.0

  like_use : (verb : Verb) (o : Option Activation) → MovesUse (λ (h : Held). h.contents) asked d w verb o before reply after → IsLike before.fails reply
  like_use verb None m = like_plain before.fails reply Stale m.0 (λ x e. cc) (λ e. cc)
  like_use verb (Some a) m = elim (cases_eq a.worker w) [
    | inl own ↦ (m.1 own).known
    | inr other ↦ like_plain before.fails reply NotYours (m.0 other).0 (λ x e. cc) (λ e. cc)
  ]

  like_finish : (n : ActId) (o : Option Activation) → MovesFinish old w n o reply new → IsLike before.fails reply
  like_finish n None m = like_plain before.fails reply Stale m.0 (λ x e. cc) (λ e. cc)
  like_finish n (Some a) m = elim (cases_eq a.worker w) [
    | inl own ↦ like_plain before.fails reply Finished (m.1 own).told (λ x e. cc) (λ e. cc)
    | inr other ↦ like_plain before.fails reply NotYours (m.0 other).0 (λ x e. cc) (λ e. cc)
  ]

  like_move : (attempt : Attempt) → Moves (λ (h : Held). h.contents) asked d old before w attempt reply new after → IsLike before.fails reply
  like_move (Start a) m = like_start a reply refl m.0
  like_move (Apply n verb) m = like_use verb _ m.0
  like_move (Finish n) m = like_finish n _ m.0

-- the reply to a line is like that of the line
pub like_line : (d : Declaration) (old new : ReplayValue) (room lines : ℕ) (line : Line) (reply : Reply) → Replays d old room lines line reply new → IsLike (says_failed line.reply) reply
like_line d old new room lines line reply answers = go _ refl
  where
    go : (can : Bool) → can_take old.present room lines line.worker line.attempt ≡ can → IsLike (says_failed line.reply) reply
    go true is = like_move d old.present new.present (held_for old.held line) new.held line.worker reply line.attempt (answers.inside is)
    go false is = like_plain (says_failed line.reply) reply NoRoom (answers.outside is).0 (λ x e. cc) (λ e. cc)
