-- The words are given whole.
use Rattle.std.proofs.Common.{◌∙◌}
use Rattle.path_c.proofs.finding.path_c_finding.Goals as goal

pub returns-in-Ok-clause-given : goal.returns-in-Ok-clause-given
returns-in-Ok-clause-given c other = (c.as_bytes.result.now, (λ d declared. c.as_bytes.ensures.value ∙ c.in-Ok.ensures d declared), c.give.ensures)
