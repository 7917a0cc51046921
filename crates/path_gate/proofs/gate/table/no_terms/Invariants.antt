-- The operations so far have no terms.
use Rattle.std.proofs.Common.{◌≡◌, map, replicate, []}
use Rattle.path_gate.proofs.gate.table.no_terms.Given as goal

abbrev pub invariant-loop-count : goal.invariant-loop-count
invariant-loop-count g l = map (λ terms. terms.items) l.by_op.items ≡ replicate l.count-index []
