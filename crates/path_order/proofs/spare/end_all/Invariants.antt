-- Those who are left are still to be over.
use Rattle.std.proofs.Common.{drop}
use Rattle.path_order.specs.Waiting.{ops_of}
use Rattle.path_order.proofs.Over.{IsEnding}
use Rattle.path_order.proofs.spare.end_all.Given as goal

abbrev pub invariant-loop-operation : goal.invariant-loop-operation
invariant-loop-operation g l = IsEnding l.initial.spare l.spare (ops_of (drop l.operation-index l.running)) (ops_of l.running)
