-- The paths so far have their rows, and this many semaphores.
use Rattle.std.proofs.Common.{◌≡◌, List, length, map, take}
use Rattle.std.specs.List.{sum_by}
use Rattle.path_model.specs.declared.history.Event.{Event}
use Rattle.path_model.specs.Flat.{semaphores_in}
use Rattle.path_model.specs.Legal.{Legal}
use Rattle.path_model.specs.Declarations.{trees}
use Rattle.path_gate.specs.Standings.{IsAt}
use Rattle.path_state.specs.Standings.{stands_after}
use Rattle.path_standings.proofs.standings.stands.Given as goal

abbrev pub invariant-loop-number : goal.invariant-loop-number
invariant-loop-number g l = record {
  own : l.own ≡ sum_by semaphores_in (take l.number (trees l.decl.declaration));
  many : length l.rows.items ≡ l.number;
  told :
      (h : List Event) → Legal l.gate.paths h → IsAt l.gate h
      → map (λ row. row.items) l.rows.items ≡ take l.number (map (λ s. stands_after s h) (trees l.decl.declaration));
}
