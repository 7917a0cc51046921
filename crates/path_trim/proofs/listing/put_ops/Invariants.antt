-- The lines so far.
use Rattle.std.proofs.Common.{◌≡◌, ◌++◌, take, flat_map}
use Rattle.std.specs.String.{string_bytes}
use Rattle.path_trim.specs.LeanListing.{op_line}
use Rattle.path_trim.proofs.listing.put_ops.Given as goal

abbrev pub invariant-loop-op : goal.invariant-loop-op
invariant-loop-op g l = string_bytes l.out ≡ string_bytes l.fn.out ++ flat_map (op_line l.decl.declaration) (take l.op-index l.ops)
