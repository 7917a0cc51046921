use Rattle.std.proofs.Common.{◌≡◌, take, min, count_by}
use Rattle.path_workers.specs.Settled.{is_copy}
use Rattle.path_workers.proofs.copy.copies_among.Given as goal

abbrev pub invariant-loop-receipt : goal.invariant-loop-receipt
invariant-loop-receipt l = l.found ≡ min 2 (count_by (λ r. is_copy l.place l.line r) (take l.receipt-index l.receipts))
