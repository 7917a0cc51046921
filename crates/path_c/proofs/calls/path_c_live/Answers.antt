-- The controller counts what is live.
use Rattle.std.proofs.Common.{◌≡◌, ◌∙◌, length, ap}
use Rattle.path_model.specs.Journals.{live}
use Rattle.path_system.specs.Before.{lines_behind}
use Rattle.path_service.specs.Serving.{Serving}
use Rattle.path_c.proofs.Behind.{told_behind}
use Rattle.path_c.proofs.calls.path_c_live.Goals as goal

pub returns-in-Some-clause-count : goal.returns-in-Some-clause-count
returns-in-Some-clause-count c = λ is_live.
    told_behind c.controller.result.now c.deref.result.now.account c.args.handle.now.held.service.account c.controller.ensures.value
    (ap (λ (s : Serving). s.account) (c.deref.ensures ∙ c.in-Some.ensures.result.1)) c.controller.ensures.system
    (λ a openings before. c.live_count-count.result ≡ length (live (lines_behind before a))) c.live_count-count.ensures
