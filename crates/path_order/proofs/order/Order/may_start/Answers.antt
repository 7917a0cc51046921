-- Nobody ahead shuts it out, or what those ahead tell.
use Rattle.std.proofs.Common.{take, arith}
use Rattle.path_model.specs.Legal.{Legal}
use Rattle.path_gate.specs.Standings.{IsAt}
use Rattle.path_order.specs.Waiting.{ops_of, place_for}
use Rattle.path_order.proofs.Beside.{ruled_as}
use Rattle.path_order.proofs.Bounds.{ruled_door, door_of}
use Rattle.path_order.proofs.Ruled.{nobody_ahead}
use Rattle.path_order.proofs.order.Order.may_start.Goals as goal

pub returns-then-not-is_shut_out-clause-ruled : goal.returns-then-not-is_shut_out-clause-ruled
returns-then-not-is_shut_out-clause-ruled g c = λ h is at.
    let place = place_for c.args.asking.priority c.args.waiting.now in
    c.rule_unopposed.ensures c.args.self.now.spares.paths (ops_of c.args.running.now) h (take place c.args.waiting.now)
    (nobody_ahead _ c.args.waiting.now c.place_for-place.result place c.args.asking.arrived (c.is_shut_out.ensures c.if-not-is_shut_out.true) (grind arith) c.place_for-place.ensures.place) is at

pub returns-then-not-is_shut_out-clause-door : goal.returns-then-not-is_shut_out-clause-door
returns-then-not-is_shut_out-clause-door g c = λ h is at.
    ruled_door c.args.gate.now.paths c.requires.ready.clear.well_formed c.args.self.now.spares.paths h (ops_of c.args.running.now)
    (take (place_for c.args.asking.priority c.args.waiting.now) c.args.waiting.now) c.args.asking c.rule_unopposed.result (returns-then-not-is_shut_out-clause-ruled g c h is at)

pub returns-clause-ruled : goal.returns-clause-ruled
returns-clause-ruled g c =
    ruled_as c.args.gate.now.paths (λ h. Legal c.args.gate.now.paths h) (λ h. IsAt c.args.gate.now h) c.args.asking (ops_of c.args.running.now) c.rule.result
    c.clear_all.new.spares.paths c.args.self.now.spares.paths _ c.rule.ensures.ruled c.in_ok-clear_all.ensures.paths
    c.place_for-place.result (place_for c.args.asking.priority c.args.waiting.now) c.args.waiting.now (grind arith) c.place_for-place.ensures.place

pub returns-clause-door : goal.returns-clause-door
returns-clause-door g c =
    door_of c.args.gate.now.paths c.requires.ready.clear.well_formed (λ h. Legal c.args.gate.now.paths h) (λ h. IsAt c.args.gate.now h) c.args.self.now.spares.paths (ops_of c.args.running.now)
    (take (place_for c.args.asking.priority c.args.waiting.now) c.args.waiting.now) c.args.asking c.rule.result (returns-clause-ruled g c)
