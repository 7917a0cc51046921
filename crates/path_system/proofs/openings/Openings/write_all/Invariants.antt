-- The rows so far hold what their devices contain.
use Rattle.std.proofs.Common.{◌≡◌, length, map}
use Rattle.path_system.proofs.Rows.{AreWritten}
use Rattle.path_system.proofs.openings.Openings.write_all.Given as goal

abbrev pub invariant-loop-resource : goal.invariant-loop-resource
invariant-loop-resource g l = record {
  count : length l.self ≡ l.resources;
  written : AreWritten l.self l.shelf l.resource;
  places : map (λ row. row.places) l.self ≡ map (λ row. row.places) l.fn.self;
}
