-- One more line.
use Rattle.std.proofs.Common.{sym, arith}
use Rattle.std.specs.String.{string_bytes}
use Rattle.std.proofs.lemmas.List.{append-nil}
use Rattle.tell_base.specs.ReportTexts.{blocked_line}
use Rattle.path_lines.proofs.CallerLemmas.{piece_more, piece_all}
use Rattle.tell_base.proofs.report.push_all_blocked.Goals as goal

pub loop-op-preserved : goal.loop-op-preserved
loop-op-preserved g c =
    piece_more (blocked_line c.args.decl.now.declaration) c.args.blocked.now c.loop-op.op-index _ (string_bytes c.args.text.now) (string_bytes c.loop-op.text) (string_bytes c.push_blocked.new.text)
    (omega arith) c.in_ok-push_blocked.ensures c.loop-op.invariant

pub loop-op-init : goal.loop-op-init
loop-op-init g c = sym (append-nil (string_bytes c.args.text.now))

pub returns : goal.returns
returns g c = piece_all (blocked_line c.args.decl.now.declaration) c.args.blocked.now c.loop-op.op-index (string_bytes c.args.text.now) _ (omega arith) c.loop-op.invariant
