-- The first line that isn't taken is the first wrong one.
use Rattle.path_shelf.specs.Own.{own_state}
use Rattle.path_shelf.specs.States.{MayFail}
use Rattle.path_system.proofs.CallerLemmas.{is_system_of, of_system, take_fault, taken_first}
use Rattle.tell_base.proofs.CallerLemmas.{unfailing}
use Rattle.tell_journals.proofs.Going.{none_taken, one_taken, all_taken}
use Rattle.tell_journals.proofs.Wrong.{one_wrong}
use Rattle.tell_journals.proofs.taking.take_lines.Goals as goal

pub returns-in-Err-clause-wrong : goal.returns-in-Err-clause-wrong
returns-in-Err-clause-wrong g c =
    one_wrong (MayFail (own_state {Y = g.row.A.Denot})) c.args.system.now c.args.lines.now c.loop-n.n _ c.loop-n.system c.take_over.new.self c.in-Err._fault unfailing
    c.loop-n-test.true c.loop-n.invariant (take_fault _ c.loop-n.invariant.is_system.first _ _ _ _ c.in-Err.ensures.fault)

pub loop-n-preserved : goal.loop-n-preserved
loop-n-preserved g c =
    let first = c.loop-n.invariant.is_system.first in
    one_taken c.args.system.now c.args.lines.now c.loop-n.n _ c.loop-n.system c.take_over.new.self c.loop-n-test.true c.loop-n.invariant
    (of_system c.loop-n.system first _ c.in_default.ensures.taken.each)
    (is_system_of c.take_over.new.self (taken_first c.loop-n.system first _ _ c.in_default.ensures.taken) c.in_default.ensures.controlled)
