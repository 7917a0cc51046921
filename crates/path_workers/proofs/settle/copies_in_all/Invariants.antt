use Rattle.std.proofs.Common.{◌≡◌, take, min}
use Rattle.path_workers.specs.Settled.{copies}
use Rattle.path_workers.proofs.settle.copies_in_all.Given as goal

abbrev pub invariant-loop-pass : goal.invariant-loop-pass
invariant-loop-pass g l = l.found ≡ min 2 (copies l.place l.line (take l.pass-index l.passes))
