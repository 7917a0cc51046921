-- One fact more.
use Rattle.std.proofs.Common.{arith}
use Rattle.path_head.proofs.Written.{fact_written}
use Rattle.path_head.proofs.writer.push_facts.Goals as goal

pub loop-fact-preserved : goal.loop-fact-preserved
loop-fact-preserved g c =
    fact_written c.args.decl.now.declaration c.args.facts.now c.loop-fact.fact-index _ _ _ _ (omega arith) c.in_ok-push_fact.ensures c.loop-fact.invariant
