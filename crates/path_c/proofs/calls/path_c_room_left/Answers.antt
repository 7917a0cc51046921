-- The controller knows which room is left.
use Rattle.std.proofs.Common.{◌≡◌, ◌∙◌, ◌+◌, ap}
use Rattle.path_model.specs.Segments.{taken_behind}
use Rattle.path_system.specs.Before.{earlier_behind}
use Rattle.path_service.specs.Serving.{Serving}
use Rattle.path_c.proofs.Behind.{told_behind}
use Rattle.path_c.proofs.calls.path_c_room_left.Goals as goal

pub returns-in-Some-clause-left : goal.returns-in-Some-clause-left
returns-in-Some-clause-left c = λ is_live.
    told_behind c.controller.result.now c.deref.result.now.account c.args.handle.now.held.service.account c.controller.ensures.value
    (ap (λ (s : Serving). s.account) (c.deref.ensures ∙ c.in-Some.ensures.result.1)) c.controller.ensures.system
    (λ a openings before. c.room_left-left.result + taken_behind (earlier_behind before a) a.journal ≡ a.room) c.room_left-left.ensures
