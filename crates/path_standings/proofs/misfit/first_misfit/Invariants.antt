-- Each path so far can stand so.
use Rattle.std.proofs.Common.{◌<◌, ℕ}
use Rattle.path_standings.specs.Told.{rows_of}
use Rattle.path_standings.specs.Misfits.{PathCanStand}
use Rattle.path_standings.proofs.misfit.first_misfit.Given as goal

abbrev pub invariant-loop-number : goal.invariant-loop-number
invariant-loop-number g l = (j : ℕ) → j < l.number → PathCanStand l.decl.declaration l.in_progress (rows_of l.rows) j
