-- What the search came to is told.
use Rattle.cmd_explore.proofs.ReachLemmas.{few_marks, has_so, open_so, says_so}
use Rattle.cmd_explore.proofs.reach.reach_to.Goals as goal

pub tell_reached-requires : goal.tell_reached-requires
tell_reached-requires g c = few_marks c.args.decl.now.declaration c.args.workers c.args.most c.args.decl.now.lawful.few_operations c.in-Ok.reached c.in-Ok.ensures

pub returns-in-Ok : goal.returns-in-Ok
returns-in-Ok g c =
    has_so _ _ _ _ _ _ c.tell_reached.result (says_so c.args.decl.now.declaration c.args.workers c.args.most c.in-Ok.reached c.in-Ok.ensures)
    (open_so c.args.decl.now.declaration c.args.workers c.args.most c.in-Ok.reached c.in-Ok.ensures) c.tell_reached.ensures
