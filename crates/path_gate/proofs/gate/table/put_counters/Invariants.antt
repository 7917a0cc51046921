-- The counters that are left are still to be written.
use Rattle.std.proofs.Common.{◌≡◌, drop, map}
use Rattle.path_gate.specs.Inner.Initial.{put_all, at_zero}
use Rattle.path_gate.proofs.gate.table.put_counters.Given as goal

abbrev pub invariant-loop-counter : goal.invariant-loop-counter
invariant-loop-counter g l = put_all (map at_zero (drop l.counter-index l.counters)) l.values.items ≡ put_all (map at_zero l.counters) l.initial.values.items
