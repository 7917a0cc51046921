use Rattle.std.proofs.Common.{arith}
use Rattle.path_workers.proofs.Copies.{one_there, one_counted, copied_more}
use Rattle.path_workers.proofs.settle.first_mismatch.Goals as goal

pub returns-then-copies_in_all-ne1-clause-some : goal.returns-then-copies_in_all-ne1-clause-some
returns-then-copies_in_all-ne1-clause-some g c =
    (omega arith, omega arith, (λ d is. c.if-copies_in_all-ne1.true (one_counted c.args.journal.now c.args.passes.now c.loop-place.place d _ c.copies_in_all.result (omega arith) c.copies_in_all.ensures is)), c.loop-place.invariant)

pub loop-place-preserved : goal.loop-place-preserved
loop-place-preserved g c =
    copied_more c.args.journal.now c.args.passes.now c.args.before c.loop-place.place c.loop-place.invariant (λ d. one_there c.args.journal.now c.args.passes.now c.loop-place.place d _ c.copies_in_all.result (omega arith) c.copies_in_all.ensures c.if-copies_in_all-ne1.false)

pub returns-clause-none : goal.returns-clause-none
returns-clause-none g c = λ k d le lt. c.loop-place.invariant k d le (omega arith)
