-- One more is over.
use Rattle.std.proofs.Common.{◌+◌, drop, get_or, ap}
use Rattle.std.proofs.lemmas.List.{drop_all}
use Rattle.path_order.specs.Waiting.{op_of, ops_of}
use Rattle.path_order.proofs.Over.{one_more, ends_one, all_end}
use Rattle.path_order.proofs.spare.end_all.Goals as goal

pub loop-operation-preserved : goal.loop-operation-preserved
loop-operation-preserved g c =
    let ns = c.args.running.now in
    let i = c.loop-operation.operation-index in
    ends_one c.args.spare.now c.loop-operation.spare (ops_of ns) c.end_one.new.spare (op_of (get_or ns i 0)) (ops_of (drop i ns)) (ops_of (drop (i + 1) ns))
    (one_more ns i c.loop-operation-test.true) c.end_one.ensures.paths c.end_one.ensures.places c.end_one.ensures.at c.loop-operation.invariant

pub returns-clause-at : goal.returns-clause-at
returns-clause-at g c =
    all_end c.args.spare.now c.loop-operation.spare (ops_of c.args.running.now) (ops_of (drop c.loop-operation.operation-index c.args.running.now))
    (ap ops_of (drop_all c.loop-operation.operation-index c.args.running.now c.loop-operation-test.false)) c.loop-operation.invariant
