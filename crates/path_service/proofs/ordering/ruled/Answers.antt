-- The gate is behind all lines, so what the order tells of it is told of them.
use Rattle.path_system.proofs.CallerLemmas.{of_system}
use Rattle.path_service.proofs.Asked.{ruled_in, door_in}
use Rattle.path_service.proofs.ordering.ruled.Goals as goal

pub fits-requires : goal.fits-requires
fits-requires c = (c.args.controller.now.declaration, c.requires.system.lawful, c.requires.of, c.gate-gate.ensures.paths)

pub returns-clause-ruled : goal.returns-clause-ruled
returns-clause-ruled c =
    ruled_in c.args.controller.now c.gate-gate.result.now c.gate-gate.ensures.paths (of_system c.args.controller.now c.requires.system.first _ c.gate-gate.ensures.at) (of_system c.args.controller.now c.requires.system.first _ c.gate-gate.ensures.legal)
    c.args.order.now.spares c.requires.of c.args.waiting.now c.args.running.now c.args.asking c.in_ok-may_start.field-0 c.in_ok-may_start.ensures.ruled

pub returns-clause-door : goal.returns-clause-door
returns-clause-door c =
    door_in c.args.controller.now c.gate-gate.result.now c.gate-gate.ensures.paths (of_system c.args.controller.now c.requires.system.first _ c.gate-gate.ensures.at) (of_system c.args.controller.now c.requires.system.first _ c.gate-gate.ensures.legal)
    c.args.order.now.spares c.requires.of c.args.waiting.now c.args.running.now c.args.asking c.in_ok-may_start.field-0 c.in_ok-may_start.ensures.door
