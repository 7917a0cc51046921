-- The openings so far are copied.
use Rattle.std.proofs.Common.{◌≡◌, take}
use Rattle.std.specs.Prelude.{map}
use Rattle.path_audit.proofs.resources.opened.Given as goal

abbrev pub invariant-loop-opening : goal.invariant-loop-opening
invariant-loop-opening g l = map (λ held. held.items) l.contents.items ≡ take l.opening-index (map (λ opening. opening.items) l.openings)
