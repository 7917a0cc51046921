-- Those so far are in the row.
use Rattle.std.proofs.Common.{◌≡◌, take}
use Rattle.path_ledger.proofs.row.Row.holding.Given as goal

abbrev pub invariant-loop-activation : goal.invariant-loop-activation
invariant-loop-activation g l = record {
  items : l.row.items ≡ take l.activation-index l.items;
  room : l.row.room ≡ l.room;
}
