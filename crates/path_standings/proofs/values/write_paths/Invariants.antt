-- The values of the paths so far are written, and these are the numbers of the next one's.
use Rattle.std.proofs.Common.{◌≡◌, take}
use Rattle.std.specs.List.{sum_by}
use Rattle.path_model.specs.Machine.{braces}
use Rattle.path_model.specs.Flat.{semaphores_in}
use Rattle.path_model.specs.Declarations.{trees}
use Rattle.path_gate.specs.Levels.{levels}
use Rattle.path_standings.specs.Told.{rows_of}
use Rattle.path_standings.specs.Written.{WritesPaths}
use Rattle.path_standings.proofs.values.write_paths.Given as goal

abbrev pub invariant-loop-number : goal.invariant-loop-number
invariant-loop-number g l = record {
  own : l.own ≡ sum_by semaphores_in (take l.number (trees l.decl.declaration));
  first : l.first ≡ sum_by braces (take l.number (trees l.decl.declaration));
  written : WritesPaths l.decl.declaration l.in_progress (rows_of l.rows) l.number (levels l.fn.semaphores l.fn.counters) (levels l.semaphores l.counters);
}
