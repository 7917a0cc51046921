use Rattle.std.proofs.Common.{rules, arith}
use Rattle.path_run.proofs.Orders.{order_more}
use Rattle.path_run.proofs.lines.first_out_of_order.Goals as goal

pub loop-i-preserved : goal.loop-i-preserved
loop-i-preserved c =
    order_more c.args.journal.now c.args.receipts.now c.loop-i.i _ _ (omega (arith, c.loop-i-test.true, c.saturating_sub-i-end.ensures)) c.loop-i.invariant (c.may_follow.ensures.yes (search rules))
