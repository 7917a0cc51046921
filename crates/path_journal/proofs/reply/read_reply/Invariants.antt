-- No reply of the kinds so far stands there.
use Rattle.std.proofs.Common.{All, take}
use Rattle.path_journal.specs.Replies.{IsNone}
use Rattle.path_journal.proofs.reply.read_reply.Given as goal

abbrev pub invariant-loop-kind : goal.invariant-loop-kind
invariant-loop-kind l = All (λ k. IsNone k l.text) (take l.kind-index l.kind-items)
