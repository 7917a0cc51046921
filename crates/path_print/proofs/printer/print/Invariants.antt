-- The resources so far, and those that are left.
use Rattle.std.specs.String.{string_bytes}
use Rattle.path_print.proofs.PrintedLoop.{Printing}
use Rattle.path_print.proofs.printer.print.Given as goal

abbrev pub invariant-loop-number : goal.invariant-loop-number
invariant-loop-number g l = Printing (string_bytes l.out) l.decl.declaration l.number l.op l.path
