-- A step of a service is one of its controller, behind which the line is kept or given up.
use Rattle.std.specs.Prelude.{Option, vec_capacity}
use Rattle.std.proofs.Common.{◌≡◌, ◌≢◌, ◌∙◌, ◌+◌, ◌<◌, ℕ, Bool, List, [], ◌∷◌, Some, None, length, length-append, ap, arith, subst, sym}
use Rattle.path_model.specs.declared.journal.Attempt.{Attempt}
use Rattle.path_model.specs.declared.journal.Line.{Line}
use Rattle.path_model.specs.declared.journal.Reply.{Reply}
use Rattle.path_model.specs.declared.journal.Reply.TheVariants.{DeviceFailed}
use Rattle.path_model.specs.Asked.{resource_asked}
use Rattle.path_model.specs.Journals.{with_line}
use Rattle.path_model.specs.Segments.{OwedBehind}
use Rattle.path_system.specs.Accounts.{Account, IsSystem, StayBut, rotated}
use Rattle.path_system.specs.Before.{BehindEach, earlier_behind, lines_behind}
use Rattle.path_system.specs.Controllers.{IsControlled}
use Rattle.path_system.specs.Taken.{IsTaken}
use Rattle.path_system.proofs.CallerLemmas.{is_system_of, of_system}
use Rattle.path_service.specs.declared.lines.Lines.{Lines}
use Rattle.path_service.specs.Inner.{AreKept, IsLogged}
use Rattle.path_service.specs.Services.{IsServed, IsStep}
use Rattle.path_service.specs.Serving.{Serving, settled}

-- a controller that was opened at no state is a system where its lines go on, and behind a rotation
pub gone_on : (old new : Account) (lines : List Line) (failures : List ℕ) → old.opened ≡ None → new ≡ record old { journal = lines; failures = failures }
    → IsControlled new → IsSystem new
gone_on old new lines failures first is controlled = is_system_of new (ap (λ (a : Account). a.opened) is ∙ first) controlled

pub turned : (old new : Account) → old.opened ≡ None → new ≡ rotated old → IsControlled new → IsSystem new
turned old new first is controlled = is_system_of new (ap (λ (a : Account). a.opened) is ∙ first) controlled

-- where a line was taken, the lines before it left a place for it
pub has_a_place : (old new : Account) (lines : Option Lines) (kept : Lines) (line : Line) → lines ≡ Some kept → IsLogged old lines → IsTaken old line new
    → IsControlled new → length kept.present.items < vec_capacity kept.present
has_a_place old new lines kept line is logged taken controlled =
    let its : AreKept old kept = subst (IsLogged old) is logged in
    let long : length new.journal ≡ length old.journal + 1 = ap (λ (a : Account). length a.journal) taken.written ∙ length-append old.journal (line ∷ []) in
    let room : new.room ≡ old.room = ap (λ (a : Account). a.room) taken.written in
    let present : length kept.present.items ≡ length old.journal = ap length its.present in
    omega (arith, controlled.within, its.roomy)

-- a step of such a controller
pub stepped : (old new : Account) (worker : ℕ) (attempt : Attempt) (reply : Reply) → old.opened ≡ None
    → BehindEach old (λ openings before. OwedBehind old.declaration old.room openings (earlier_behind before old) old.journal worker attempt reply)
    → new ≡ record old { journal = with_line old.journal worker attempt reply; failures = new.failures }
    → BehindEach old (λ openings before. StayBut (resource_asked old.declaration (lines_behind before old) attempt reply) old.failures new.failures)
    → reply ≢ DeviceFailed → IsStep old worker attempt reply new
stepped old new worker attempt reply first owed line failures served = record {
  owed = of_system old first _ owed;
  line = line;
  failures = of_system old first _ failures;
  served = served;
}

module _ (old : Serving) (worker : ℕ) (attempt : Attempt) (reply : Reply) where
  pub served : (account behind new : Account) (keeps kept : Bool) → record { account = account; keeps = keeps } ≡ old → keeps ≡ kept → IsStep account worker attempt reply behind
      → new ≡ settled kept behind → IsServed old worker attempt reply (record { account = new; keeps = kept })
  served account behind new keeps kept seen same step left =
      let is : record { account = account; keeps = kept } ≡ old = sym (ap (λ k. let s : Serving = record { account = account; keeps = k } in s) same) ∙ seen in
      subst (λ s. IsServed s worker attempt reply (record { account = new; keeps = kept })) is
      (record { behind = behind; step = step; left = ap (λ a. let s : Serving = record { account = a; keeps = kept } in s) left })
