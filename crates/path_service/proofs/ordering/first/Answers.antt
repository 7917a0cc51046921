-- The gate is behind all lines, so what the order tells of it is told of them.
use Rattle.path_system.proofs.CallerLemmas.{of_system}
use Rattle.path_service.proofs.Asked.{next_in, unopposed_in, first_in}
use Rattle.path_service.proofs.ordering.first.Goals as goal

pub fits-requires : goal.fits-requires
fits-requires c = (c.args.controller.now.declaration, c.requires.system.lawful, c.requires.of, c.gate-gate.ensures.paths)

pub returns-clause-next : goal.returns-clause-next
returns-clause-next c =
    next_in c.args.controller.now c.gate-gate.result.now c.gate-gate.ensures.paths (of_system c.args.controller.now c.requires.system.first _ c.gate-gate.ensures.at) (of_system c.args.controller.now c.requires.system.first _ c.gate-gate.ensures.legal)
    c.args.order.now.spares c.requires.of c.args.waiting.now c.args.running.now c.in_ok-next.field-0 c.in_ok-next.ensures.next

pub returns-clause-door : goal.returns-clause-door
returns-clause-door c =
    unopposed_in c.args.controller.now c.gate-gate.result.now c.gate-gate.ensures.paths (of_system c.args.controller.now c.requires.system.first _ c.gate-gate.ensures.at) (of_system c.args.controller.now c.requires.system.first _ c.gate-gate.ensures.legal)
    c.args.order.now.spares c.requires.of c.args.waiting.now c.args.running.now c.in_ok-next.field-0 c.in_ok-next.ensures.door

pub returns-clause-no_stall : goal.returns-clause-no_stall
returns-clause-no_stall c =
    first_in c.args.controller.now c.gate-gate.result.now c.gate-gate.ensures.paths (of_system c.args.controller.now c.requires.system.first _ c.gate-gate.ensures.at) (of_system c.args.controller.now c.requires.system.first _ c.gate-gate.ensures.legal)
    c.args.order.now.spares c.requires.of c.args.waiting.now c.args.running.now c.in_ok-next.field-0 c.in_ok-next.ensures.no_stall
