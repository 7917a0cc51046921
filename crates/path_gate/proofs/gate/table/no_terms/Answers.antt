-- One operation more has no terms.
use Rattle.std.proofs.Common.{[]}
use Rattle.std.proofs.lemmas.List.{map-append, replicate-append-replicate}
use Rattle.path_gate.proofs.gate.table.no_terms.Goals as goal

pub loop-count-preserved : goal.loop-count-preserved
loop-count-preserved g c =
    rw (c.in_ok-push.ensures.items, map-append, c.loop-count.invariant, c.in_ok-with_capacity.ensures.items) (replicate-append-replicate c.loop-count.count-index 1 [])
