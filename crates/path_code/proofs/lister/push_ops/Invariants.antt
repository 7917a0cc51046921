-- The lines so far, and those that are left.
use Rattle.std.proofs.Common.{◌≡◌, ◌++◌, drop, map}
use Rattle.std.specs.String.{string_bytes}
use Rattle.path_code.specs.Listing.{op_line, lines_text}
use Rattle.path_code.proofs.lister.push_ops.Given as goal

abbrev pub invariant-loop-op : goal.invariant-loop-op
invariant-loop-op g l =
    string_bytes l.out ++ lines_text (map (op_line l.decl.declaration) (drop l.op-index l.ops)) ≡ string_bytes l.fn.out ++ lines_text (map (op_line l.decl.declaration) l.ops)
