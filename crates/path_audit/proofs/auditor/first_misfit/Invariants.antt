-- The openings so far fit.
use Rattle.std.proofs.Common.{ℕ, ◌<◌}
use Rattle.std.specs.Prelude.{map}
use Rattle.path_audit.specs.Verdicts.{FitsAt}
use Rattle.path_audit.proofs.auditor.first_misfit.Given as goal

abbrev pub invariant-loop-i : goal.invariant-loop-i
invariant-loop-i g l = (r : ℕ) → r < l.i → FitsAt l.decl.declaration (map (λ opening. opening.items) l.openings) r
