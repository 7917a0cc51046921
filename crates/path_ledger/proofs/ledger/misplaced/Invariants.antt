-- Those so far are in order, and the next number must be at least one above the last of them.
use Rattle.std.proofs.Common.{◌≤◌, take}
use Rattle.path_ledger.proofs.Numbered.{EndsLeast}
use Rattle.path_ledger.proofs.ledger.misplaced.Given as goal

abbrev pub invariant-loop-place : goal.invariant-loop-place
invariant-loop-place l = record {
  least : EndsLeast (take l.place l.live) l.low;
  within : l.low ≤ l.next;
}
