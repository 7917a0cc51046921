-- The rows so far have the places of their laws.
use Rattle.std.proofs.Common.{◌≡◌, ◌<◌, ◌≤◌, ℕ, length, map, vec_capacity}
use Rattle.path_model.specs.Declarations.{law_of}
use Rattle.path_system.specs.Inner.Openings.{places_of, row_at}
use Rattle.path_system.proofs.openings.Openings.with_places.Given as goal

abbrev pub invariant-loop-resource : goal.invariant-loop-resource
invariant-loop-resource g l = record {
  count : length l.rows.items ≡ l.resource;
  places : (r : ℕ) → r < l.resource → places_of (law_of l.decl.declaration r)
      ≤ (row_at (map (λ row. record { numbers = row.items; places = vec_capacity row }) l.rows.items) r).places;
}
