-- The text is a journal, or why it isn't drawn.
use Rattle.std.proofs.Common.{ap, Err}
use Rattle.tell_base.proofs.CallerLemmas.{refuses_journal}
use Rattle.cmd_picture.proofs.picture.journal_drawn.Goals as goal

pub returns-in-Err-clause-err : goal.returns-in-Err-clause-err
returns-in-Err-clause-err g c =
    refuses_journal _ c.args.decl.now.declaration c.args.journal.now c.in-Err.fault (λ e. c.in-Err.ensures.too_long.0 (ap Err e)) (λ a b. c.in-Err.ensures.none a b)
