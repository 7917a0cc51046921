-- The number of counts stays.
use Rattle.std.proofs.Common.{◌∙◌, sym}
use Rattle.std.specs.List.{length_refill}
use Rattle.path_gate.proofs.gate.table.count_paths.Goals as goal

pub loop-path-preserved : goal.loop-path-preserved
loop-path-preserved g c =
    let counts = c.loop-path.counts in
    sym (length_refill counts.len counts.items c.count_ops.new.counts counts.ok.0) ∙ counts.ok.0 ∙ c.loop-path.invariant
