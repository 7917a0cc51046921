-- The system has stepped, and the text has grown by the line and the reply.
use Rattle.path_lines.specs.LineTexts.{reply_text}
use Rattle.path_system.proofs.CallerLemmas.{of_system}
use Rattle.cmd_trace.proofs.TraceLemmas.{grown_by}
use Rattle.cmd_trace.proofs.trace.answer.Goals as goal

pub returns-clause-ok : goal.returns-clause-ok
returns-clause-ok g c = record {
  reply = c.step-reply.result;
  owed = of_system c.args.system.now c.requires _ c.step-reply.ensures.owed;
  failed = c.step-reply.ensures.may_fail;
  stepped = c.step-reply.ensures.journal;
  grown = grown_by c.args.trace.now.items c.args.line.now c.extend_from_slice.new.self.items _ (reply_text c.step-reply.result) c.in_ok-extend_from_slice.ensures.items c.in_ok-push_told.ensures;
}
