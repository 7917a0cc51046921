-- Nobody ahead withholds it.
use Rattle.std.proofs.Common.{refl}
use Rattle.path_order.specs.Waiting.{asked}
use Rattle.path_order.proofs.Judging.{admits}
use Rattle.path_order.proofs.Ruled.{unopposed_is}
use Rattle.path_order.proofs.ruling.rule_unopposed.Goals as goal

pub returns-in-Ok : goal.returns-in-Ok
returns-in-Ok g c = λ n run h ahead nobody is at.
    unopposed_is c.args.gate.now.paths n run h c.args.asking ahead
    (admits c.args.gate.now c.args.gate.now refl (asked c.args.asking) h is at c.would_admit.result c.in-Ok.field-0 c.in-Ok.is c.would_admit.ensures) nobody
