-- The controller lists what is live.
use Rattle.std.specs.Prelude.{slice_get}
use Rattle.std.proofs.Common.{◌≡◌, ◌∙◌, Some, None, refl, ap, sym}
use Rattle.path_model.specs.Journals.{live}
use Rattle.path_system.specs.Accounts.{all_lines}
use Rattle.path_system.specs.Before.{lines_behind}
use Rattle.path_service.specs.Serving.{Serving}
use Rattle.path_c.proofs.Behind.{looked_up, told_behind}
use Rattle.path_c.proofs.listed.path_c_live_at.Goals as goal

pub returns-in-None-live-clause-listed : goal.returns-in-None-live-clause-listed
returns-in-None-live-clause-listed c =
    let told : c.live.result.now ≡ live (all_lines c.args.handle.now.held.service.account) =
    told_behind c.controller.result.now c.deref.result.now.account c.args.handle.now.held.service.account c.controller.ensures.value
    (ap (λ (s : Serving). s.account) (c.deref.ensures ∙ c.in-Some.ensures.result.1)) c.controller.ensures.system
    (λ a openings before. c.live.result.now ≡ live (lines_behind before a)) c.live.ensures in
    let none : slice_get (live (all_lines c.args.handle.now.held.service.account)) c.args.place ≡ None =
    ap (λ xs. slice_get xs c.args.place) (sym told) ∙ looked_up _ c.live.result.now c.args.place c.get.result c.get.ensures.lookup.3 c.get.ensures.lookup.1 ∙ sym c.copied-live.ensures ∙ c.in-None-live.is in
    λ is_live. rw none (refl, refl)

pub returns-in-Some-live-clause-listed : goal.returns-in-Some-live-clause-listed
returns-in-Some-live-clause-listed c =
    let told : c.live.result.now ≡ live (all_lines c.args.handle.now.held.service.account) =
    told_behind c.controller.result.now c.deref.result.now.account c.args.handle.now.held.service.account c.controller.ensures.value
    (ap (λ (s : Serving). s.account) (c.deref.ensures ∙ c.in-Some.ensures.result.1)) c.controller.ensures.system
    (λ a openings before. c.live.result.now ≡ live (lines_behind before a)) c.live.ensures in
    let some : slice_get (live (all_lines c.args.handle.now.held.service.account)) c.args.place ≡ Some c.in-Some-live.live =
    ap (λ xs. slice_get xs c.args.place) (sym told) ∙ looked_up _ c.live.result.now c.args.place c.get.result c.get.ensures.lookup.3 c.get.ensures.lookup.1 ∙ sym c.copied-live.ensures ∙ c.in-Some-live.is in
    λ is_live. rw some (refl, refl)
