-- Nobody ahead shuts it out.
use Rattle.path_order.specs.Waiting.{ops_of}
use Rattle.path_order.proofs.ruling.rule_next.Goals as goal

pub returns-else-is_shut_out-clause-ruled : goal.returns-else-is_shut_out-clause-ruled
returns-else-is_shut_out-clause-ruled g c = λ h is at.
    c.rule_unopposed.ensures c.args.spares.now.paths (ops_of c.args.running.now) h c.args.ahead.now (c.is_shut_out.ensures c.if-is_shut_out.false) is at
