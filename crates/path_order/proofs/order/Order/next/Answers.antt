-- Where nobody runs, the first whose start is admissible is next.
use Rattle.path_model.specs.Legal.{Legal}
use Rattle.path_gate.specs.Standings.{IsAt}
use Rattle.path_order.specs.Waiting.{ops_of}
use Rattle.path_order.proofs.Beside.{no_stall}
use Rattle.path_order.proofs.Bounds.{unopposed_of}
use Rattle.path_order.proofs.order.Order.next.Goals as goal

pub returns-clause-no_stall : goal.returns-clause-no_stall
returns-clause-no_stall g c =
    no_stall c.args.gate.now.paths (λ h. Legal c.args.gate.now.paths h) (λ h. IsAt c.args.gate.now h) c.args.self.now.spares.paths
    c.args.running.now c.args.waiting.now c.first_free.result c.first_free.ensures.next

pub returns-clause-door : goal.returns-clause-door
returns-clause-door g c =
    unopposed_of c.args.gate.now.paths c.requires.ready.clear.well_formed (λ h. Legal c.args.gate.now.paths h) (λ h. IsAt c.args.gate.now h) c.args.self.now.spares.paths
    (ops_of c.args.running.now) c.args.waiting.now c.first_free.result c.first_free.ensures.next
