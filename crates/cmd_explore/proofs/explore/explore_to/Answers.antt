-- The script is refused, or what its search came to is told.
use Rattle.cmd_explore.proofs.SearchLemmas.{has_so, open_so, says_so}
use Rattle.cmd_explore.proofs.explore.explore_to.Goals as goal

pub returns-in-Ok-explore : goal.returns-in-Ok-explore
returns-in-Ok-explore g c =
    has_so _ _ _ _ _ _ c.tell_explored.result
    (says_so c.args.decl.now.declaration c.args.script.now c.in-Ok.script.processes c.args.most c.in-Ok.ensures.ok c.in-Ok-explore.explored c.in-Ok-explore.ensures)
    (open_so c.args.decl.now.declaration c.args.script.now c.in-Ok.script.processes c.args.most c.in-Ok.ensures.ok c.in-Ok-explore.explored c.in-Ok-explore.ensures) c.tell_explored.ensures
