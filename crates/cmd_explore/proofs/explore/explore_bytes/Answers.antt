-- The declaration is refused, or the schedules under it are looked at.
use Rattle.cmd_explore.proofs.SearchLemmas.{has_under}
use Rattle.cmd_explore.proofs.explore.explore_bytes.Goals as goal

pub returns-in-Ok : goal.returns-in-Ok
returns-in-Ok g c = has_under c.args.declaration.now c.args.script.now c.args.most c.in-Ok.decl.declaration _ _ c.explore_to.result c.in-Ok.ensures.ok c.explore_to.ensures
