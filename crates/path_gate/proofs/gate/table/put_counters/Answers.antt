-- A counter is put.
use Rattle.std.proofs.Common.{map, arith}
use Rattle.path_gate.specs.Inner.Initial.{put_all, at_zero}
use Rattle.path_gate.proofs.Appended.{counter_put}
use Rattle.path_gate.proofs.gate.table.put_counters.Goals as goal

pub loop-counter-preserved : goal.loop-counter-preserved
loop-counter-preserved g c =
    counter_put c.args.counters.now c.loop-counter.values.items c.put_at.new.values.items (put_all (map at_zero c.args.counters.now) c.args.values.now.items)
    c.loop-counter.counter-index (omega arith) c.in_ok-put_at.ensures c.loop-counter.invariant
