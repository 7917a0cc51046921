use Rattle.std.proofs.Common.{◌≡◌, take, min}
use Rattle.path_workers.specs.Settled.{receipts_of}
use Rattle.path_workers.proofs.settle.receipt_count.Given as goal

abbrev pub invariant-loop-pass : goal.invariant-loop-pass
invariant-loop-pass g l = l.count ≡ min 18446744073709551615 (receipts_of (take l.pass-index l.passes))
