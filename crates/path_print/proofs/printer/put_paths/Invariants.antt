-- The paths so far, and those that are left.
use Rattle.std.specs.String.{string_bytes}
use Rattle.path_print.proofs.PrintedWalk.{Pathed}
use Rattle.path_print.proofs.printer.put_paths.Given as goal

abbrev pub invariant-loop-path : goal.invariant-loop-path
invariant-loop-path g l = Pathed (string_bytes l.fn.out) (string_bytes l.out) l.resource.0 l.decl.declaration.operations l.decl.declaration.paths l.first l.path
