-- The two gates tell.
use Rattle.std.proofs.Common.{arith}
use Rattle.path_order.specs.Waiting.{asked}
use Rattle.path_order.proofs.Ways.{clear_over, shut_over, clear_behind, shut_behind}
use Rattle.path_order.proofs.ruling.is_shut.Goals as goal

pub returns-in-Ok-Err-clause-yes : goal.returns-in-Ok-Err-clause-yes
returns-in-Ok-Err-clause-yes g c = λ e gate run h x alike are. record {
  shut = omega (arith, c.if-waiter-arrived.false);
  clear = clear_over gate c.args.clear.now c.args.behind.now alike run h x (asked c.args.waiter) c.would_admit.result are c.would_admit.ensures c.in-Ok-Err.field-0-0 c.in-Ok-Err.is-0;
  so = shut_behind gate c.args.clear.now c.args.behind.now alike run h x (asked c.args.waiter) c.would_admit-2.result are c.would_admit-2.ensures c.in-Ok-Err.field-0-1 c.in-Ok-Err.is-1;
}

pub returns-in_default-clause-no : goal.returns-in_default-clause-no
returns-in_default-clause-no g c = λ e gate run h x alike are shut clear.
    clear_behind gate c.args.clear.now c.args.behind.now alike run h x (asked c.args.waiter) c.would_admit-2.result are c.would_admit-2.ensures c.in_default.field-0-1 c.in_default.is-1

pub returns-in_default-2-clause-no : goal.returns-in_default-2-clause-no
returns-in_default-2-clause-no g c = λ e gate run h x alike are shut clear.
    absurd (shut_over gate c.args.clear.now c.args.behind.now alike run h x (asked c.args.waiter) c.would_admit.result are c.would_admit.ensures c.in_default.field-0-0 c.in_default.is-0 clear)
