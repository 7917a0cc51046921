-- One more line.
use Rattle.std.proofs.Common.{sym, arith}
use Rattle.std.specs.String.{string_bytes}
use Rattle.std.proofs.lemmas.List.{append-nil}
use Rattle.tell_base.specs.ReportTexts.{live_line}
use Rattle.path_lines.proofs.CallerLemmas.{piece_more, piece_all}
use Rattle.tell_base.proofs.report.push_all_live.Goals as goal

pub loop-activation-preserved : goal.loop-activation-preserved
loop-activation-preserved g c =
    piece_more (live_line c.args.decl.now.declaration) c.args.live.now c.loop-activation.activation-index _ (string_bytes c.args.text.now) (string_bytes c.loop-activation.text) (string_bytes c.push_live.new.text)
    (omega arith) c.in_ok-push_live.ensures c.loop-activation.invariant

pub loop-activation-init : goal.loop-activation-init
loop-activation-init g c = sym (append-nil (string_bytes c.args.text.now))

pub returns : goal.returns
returns g c = piece_all (live_line c.args.decl.now.declaration) c.args.live.now c.loop-activation.activation-index (string_bytes c.args.text.now) _ (omega arith) c.loop-activation.invariant
