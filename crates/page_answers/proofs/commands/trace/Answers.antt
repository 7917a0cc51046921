-- The answer is what was written into an empty text.
use Rattle.cmd_trace.specs.Traces.{TraceEnds}
use Rattle.page_answers.proofs.Answered.{answered}
use Rattle.page_answers.proofs.commands.trace.Goals as goal

pub returns : goal.returns
returns g c =
    answered (TraceEnds c.args.declaration.now c.args.room c.args.report c.args.attempts.now) c.trace_bytes-status.result _ _ _ _ c.blank-answer.ensures c.trace_bytes-status.ensures.ends c.ended.ensures.kept c.ended.ensures.failed
