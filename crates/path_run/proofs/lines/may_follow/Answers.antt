use Rattle.std.proofs.Common.{sym, ◌∙◌}
use Rattle.path_run.proofs.Orders.{no_finish}
use Rattle.path_run.proofs.lines.may_follow.Goals as goal

pub returns-then-is_blocked-2-clause-no : goal.returns-then-is_blocked-2-clause-no
returns-then-is_blocked-2-clause-no c = λ not follows. no_finish c.args.journal.now _ c.args.next.place (c.has_finish.ensures.no not) (follows.1 (sym c.is_blocked.ensures ∙ c.if-is_blocked.true) (sym c.is_blocked-then-is_blocked.ensures ∙ c.if-is_blocked-2.true))
