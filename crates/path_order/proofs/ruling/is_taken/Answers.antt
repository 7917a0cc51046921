-- The gates tell.
use Rattle.std.proofs.Common.{arith}
use Rattle.path_order.specs.Waiting.{asked}
use Rattle.path_order.proofs.Ways.{clear_at, shut_at}
use Rattle.path_order.proofs.ruling.is_taken.Goals as goal

pub returns-in-Err-clause-no : goal.returns-in-Err-clause-no
returns-in-Err-clause-no g c = λ e run h x are shut clear.
    absurd (shut_at c.args.gate.now c.args.clear.now c.args.behind.now c.requires run h x (asked c.args.waiter) c.would_admit.result are c.would_admit.ensures c.in-Err.field-0 c.in-Err.is clear)

pub returns-in-Ok-clause-yes : goal.returns-in-Ok-clause-yes
returns-in-Ok-clause-yes g c = λ e run h x are. record {
  shut = omega (arith, c.if-waiter-arrived.false);
  clear = clear_at c.args.gate.now c.args.clear.now c.args.behind.now c.requires run h x (asked c.args.waiter) c.would_admit.result are c.would_admit.ensures c.in-Ok.field-0 c.in-Ok.is;
  so = c.takes.ensures.yes e h x are.legal are.now are.starts are.started;
}

pub returns-in-Ok-clause-no : goal.returns-in-Ok-clause-no
returns-in-Ok-clause-no g c = λ e run h x are shut clear. c.takes.ensures.no e h x are.legal are.now are.starts are.started
