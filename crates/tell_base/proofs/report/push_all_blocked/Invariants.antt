-- The lines so far.
use Rattle.std.proofs.Common.{◌≡◌, ◌++◌, take, flat_map}
use Rattle.std.specs.String.{string_bytes}
use Rattle.tell_base.specs.ReportTexts.{blocked_line}
use Rattle.tell_base.proofs.report.push_all_blocked.Given as goal

abbrev pub invariant-loop-op : goal.invariant-loop-op
invariant-loop-op g l = string_bytes l.text ≡ string_bytes l.fn.text ++ flat_map (blocked_line l.decl.declaration) (take l.op-index l.blocked)
