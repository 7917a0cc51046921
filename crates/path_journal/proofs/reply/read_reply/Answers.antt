-- Each reply is of a kind in the table.
use Rattle.std.proofs.Common.{All, subst}
use Rattle.std.proofs.lemmas.List.{take_all}
use Rattle.std.proofs.lemmas.List.Elements.{All-more}
use Rattle.path_lines.specs.declared.lines.TheConstants.{REPLIES}
use Rattle.path_journal.specs.Replies.{IsNone}
use Rattle.path_journal.proofs.ReplyLemmas.{each_kind}
use Rattle.path_journal.proofs.reply.read_reply.Goals as goal

pub loop-kind-preserved : goal.loop-kind-preserved
loop-kind-preserved c = All-more (λ k. IsNone k c.args.text.now) REPLIES.now c.loop-kind.kind-index _ c.loop-kind-test.true c.loop-kind.invariant c.in-Err.ensures.err

pub returns-clause-err : goal.returns-clause-err
returns-clause-err c =
    each_kind c.args.text.now (subst (All (λ k. IsNone k c.args.text.now)) (take_all c.loop-kind.kind-index REPLIES.now c.loop-kind-test.false) c.loop-kind.invariant)
