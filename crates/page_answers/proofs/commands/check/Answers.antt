-- The answer is what was written into an empty text.
use Rattle.path_print.specs.Printed.{printed}
use Rattle.cmd_check.specs.Outputs.{OutputEnds}
use Rattle.page_answers.proofs.Answered.{answered}
use Rattle.page_answers.proofs.commands.check.Goals as goal

pub returns : goal.returns
returns g c =
    answered (OutputEnds printed c.args.declaration.now) c.check_to-status.result _ _ _ _ c.blank-answer.ensures c.check_to-status.ensures c.ended.ensures.kept c.ended.ensures.failed
