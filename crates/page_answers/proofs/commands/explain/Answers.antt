-- The answer is what was written into an empty text.
use Rattle.cmd_explain.specs.Explanations.{ExplanationEnds}
use Rattle.page_answers.proofs.Answered.{answered}
use Rattle.page_answers.proofs.commands.explain.Goals as goal

pub returns : goal.returns
returns g c =
    answered (ExplanationEnds c.args.declaration.now c.args.room c.args.attempts.now) c.explain_attempts-status.result _ _ _ _ c.blank-answer.ensures c.explain_attempts-status.ensures c.ended.ensures.kept c.ended.ensures.failed
