use Rattle.std.proofs.Common.{◌≡◌, take}
use Rattle.path_workers.specs.Attempts.{is_open}
use Rattle.path_workers.proofs.pass.is_owed.Given as goal

abbrev pub invariant-loop-receipt : goal.invariant-loop-receipt
invariant-loop-receipt l = l.owed ≡ is_open l.act (take l.receipt-index l.receipts)
