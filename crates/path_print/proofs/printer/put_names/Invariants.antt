-- The names so far, and those that are left.
use Rattle.std.specs.String.{string_bytes}
use Rattle.path_print.proofs.PrintedWalk.{Named}
use Rattle.path_print.proofs.printer.put_names.Given as goal

abbrev pub invariant-loop-op : goal.invariant-loop-op
invariant-loop-op g l = Named (string_bytes l.fn.out) (string_bytes l.out) l.resource.0 l.decl.declaration.operations l.first l.op
