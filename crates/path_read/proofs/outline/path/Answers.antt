use Rattle.path_read.specs.Inner.Reading.{told}
use Rattle.path_read.proofs.Following.{no_value, handed_on}
use Rattle.path_read.proofs.Lists.{path_open, path_closed, no_path_at}
use Rattle.path_read.proofs.outline.path.Goals as goal

pub returns-in_default-clause-none : goal.returns-in_default-clause-none
returns-in_default-clause-none g c = path_open _ _ _ _ c.in_ok-left.ensures.found c.in_default.ensures.none

pub returns-clause-found : goal.returns-clause-found
returns-clause-found g c = path_closed _ _ _ _ _ _ c.in_ok-left.ensures.found c.in-Some.ensures.some c.take.ensures

pub returns-in_err-left-clause-found : goal.returns-in_err-left-clause-found
returns-in_err-left-clause-found g c = no_value c.from_residual.result _ _ c.from_residual.ensures.1

pub returns-in_err-left-clause-shorter : goal.returns-in_err-left-clause-shorter
returns-in_err-left-clause-shorter g c = no_value c.from_residual.result _ _ c.from_residual.ensures.1

pub returns-in_err-left-clause-none : goal.returns-in_err-left-clause-none
returns-in_err-left-clause-none g c = handed_on c.from_residual.result _ _ _ c.from_residual.ensures.1 (no_path_at (told c.args.tokens.now)) c.in_err-left.ensures.none
