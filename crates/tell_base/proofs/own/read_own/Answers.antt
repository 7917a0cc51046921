-- What refuses the declaration is told.
use Rattle.tell_base.proofs.CallerLemmas.{undeclared}
use Rattle.tell_base.proofs.own.read_own.Goals as goal

pub returns-in-Err-clause-err : goal.returns-in-Err-clause-err
returns-in-Err-clause-err g c = undeclared c.args.text.now c.in-Err.fault c.in-Err.ensures.err
