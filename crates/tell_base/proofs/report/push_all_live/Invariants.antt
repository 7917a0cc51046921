-- The lines so far.
use Rattle.std.proofs.Common.{◌≡◌, ◌++◌, take, flat_map}
use Rattle.std.specs.String.{string_bytes}
use Rattle.tell_base.specs.ReportTexts.{live_line}
use Rattle.tell_base.proofs.report.push_all_live.Given as goal

abbrev pub invariant-loop-activation : goal.invariant-loop-activation
invariant-loop-activation g l = string_bytes l.text ≡ string_bytes l.fn.text ++ flat_map (live_line l.decl.declaration) (take l.activation-index l.live)
