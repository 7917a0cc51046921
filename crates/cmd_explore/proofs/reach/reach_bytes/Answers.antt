-- The declaration is refused, or its histories are looked at.
use Rattle.cmd_explore.proofs.ReachLemmas.{has_under}
use Rattle.cmd_explore.proofs.reach.reach_bytes.Goals as goal

pub returns-in-Ok : goal.returns-in-Ok
returns-in-Ok g c = has_under c.args.declaration.now c.args.workers c.args.most c.in-Ok.decl.declaration _ _ c.reach_to.result c.in-Ok.ensures.ok c.reach_to.ensures
