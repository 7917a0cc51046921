-- The lines of the paths so far.
use Rattle.std.specs.String.{string_bytes}
use Rattle.path_trim.specs.Compared.{compared}
use Rattle.path_trim.proofs.Listed.{Listed}
use Rattle.path_trim.proofs.listing.lean_listing.Given as goal

abbrev pub invariant-loop-number : goal.invariant-loop-number
invariant-loop-number g l = Listed l.decl.declaration (compared l.lean.trees) l.number (string_bytes l.out) l.kept l.removed
