-- The answer is what was written into an empty text.
use Rattle.cmd_check.specs.Outputs.{OutputEnds, compiled_text}
use Rattle.page_answers.proofs.Answered.{answered}
use Rattle.page_answers.proofs.commands.compile.Goals as goal

pub returns : goal.returns
returns g c =
    answered (OutputEnds compiled_text c.args.declaration.now) c.compile_to-status.result _ _ _ _ c.blank-answer.ensures c.compile_to-status.ensures c.ended.ensures.kept c.ended.ensures.failed
