-- One leaves, and the others keep their order.
use Rattle.std.proofs.Common.{rules}
use Rattle.path_ledger.proofs.Numbered.{numbered_remove}
use Rattle.path_ledger.proofs.ledger.Ledger.end.Goals as goal

pub invariant_of-self : goal.invariant_of-self
invariant_of-self g c = record {
  numbered = rw c.remove.ensures.others (numbered_remove 0 c.self.inside.live.items _ _ c.self.invariant.numbered);
  small = search rules;
  within = search rules;
  reserved = search rules;
}
