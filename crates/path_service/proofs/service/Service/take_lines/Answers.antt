-- One line more is taken over, or the first that isn't is told.
use Rattle.std.proofs.Common.{subst}
use Rattle.std.proofs.lemmas.List.{take_all}
use Rattle.path_service.specs.Taken.{TakesLines}
use Rattle.path_service.proofs.LinesTaken.{one_more, stops_here}
use Rattle.path_service.proofs.service.Service.take_lines.Goals as goal

pub loop-n-init : goal.loop-n-init
loop-n-init c = TakesLines.none

pub loop-n-preserved : goal.loop-n-preserved
loop-n-preserved c = one_more _ c.args.lines.now c.loop-n.n _ c.loop-n-test.true c.loop-n.self c.take_over.new.self c.loop-n.invariant c.in_default.ensures.taken

pub returns-in-Err-clause-stopped : goal.returns-in-Err-clause-stopped
returns-in-Err-clause-stopped c =
    stops_here _ c.args.lines.now c.loop-n.n _ c.loop-n-test.true c.loop-n.self c.take_over.new.self c.loop-n.invariant c.in-Err.owed c.in-Err.ensures.kept c.in-Err.ensures.owed

pub returns-clause-taken : goal.returns-clause-taken
returns-clause-taken c = subst (λ ls. TakesLines c.args.self.now ls c.loop-n.self) (take_all c.loop-n.n c.args.lines.now c.loop-n-test.false) c.loop-n.invariant
