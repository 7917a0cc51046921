-- One more is kept or left out.
use Rattle.std.proofs.Common.{arith}
use Rattle.path_model.specs.declared.journal.Activation.{Activation}
use Rattle.path_model.specs.Trees.{has}
use Rattle.cmd_explain.specs.Standing.{tree_at}
use Rattle.cmd_explain.proofs.Gathered.{underway_more}
use Rattle.cmd_explain.proofs.refusal.underway.Goals as goal

pub loop-activation-preserved : goal.loop-activation-preserved
loop-activation-preserved g c =
    underway_more (λ (x : Activation). has (tree_at c.args.decl.now.declaration c.args.path) x.op) c.args.live.now c.loop-activation.activation-index _ c.loop-activation.found.items c.push_if.new.list.items c.names-wanted.result
    (omega arith) c.in_ok-push_if.ensures c.names-wanted.ensures c.loop-activation.invariant
