-- The paths so far are equal.
use Rattle.path_decl.proofs.SameLists.{Alike}
use Rattle.path_decl.proofs.equal.are_same_paths.Given as goal

abbrev pub invariant-loop-number : goal.invariant-loop-number
invariant-loop-number g l = Alike l.number l.left.declaration.paths l.right.declaration.paths
