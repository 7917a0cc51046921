-- The answer is what was written into an empty text.
use Rattle.cmd_explain.specs.Judgements.{JudgementEnds}
use Rattle.page_answers.proofs.Answered.{answered}
use Rattle.page_answers.proofs.commands.judge.Goals as goal

pub returns : goal.returns
returns g c =
    answered (JudgementEnds c.args.declaration.now c.args.room c.args.journal.now) c.explain_journal-status.result _ _ _ _ c.blank-answer.ensures c.explain_journal-status.ensures c.ended.ensures.kept c.ended.ensures.failed
