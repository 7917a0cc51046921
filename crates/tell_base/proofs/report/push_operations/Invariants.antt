-- The operations so far.
use Rattle.std.proofs.Common.{◌≡◌, ◌++◌, take, flat_map}
use Rattle.std.specs.String.{string_bytes}
use Rattle.tell_base.specs.ReportTexts.{operation_word}
use Rattle.tell_base.proofs.report.push_operations.Given as goal

abbrev pub invariant-loop-op : goal.invariant-loop-op
invariant-loop-op g l = string_bytes l.text ≡ string_bytes l.fn.text ++ flat_map (operation_word l.decl.declaration) (take l.op-index l.operations)
