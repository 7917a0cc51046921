use Rattle.path_read.specs.Inner.Parts.{law_said}
use Rattle.path_read.proofs.outline.law.Goals as goal

pub returns-clause-found : goal.returns-clause-found
returns-clause-found g c = (law_said c.in_ok-law.law, c.in_ok-law.ensures.ok, c.take.ensures)
