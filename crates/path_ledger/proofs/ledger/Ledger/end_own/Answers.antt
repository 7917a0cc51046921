-- One leaves, and the others keep their order.
use Rattle.std.proofs.Common.{rules, subst}
use Rattle.path_ledger.specs.Ledgers.{IsPlaceOf}
use Rattle.path_ledger.proofs.Numbered.{numbered_remove}
use Rattle.path_ledger.proofs.Owned.{none_is_stale, another_is_not_yours, own_is_ended}
use Rattle.path_ledger.proofs.ledger.Ledger.end_own.Goals as goal

pub invariant_of-self : goal.invariant_of-self
invariant_of-self g c = record {
  numbered = rw c.remove.ensures.others (numbered_remove 0 c.self.inside.live.items _ _ c.self.invariant.numbered);
  small = search rules;
  within = search rules;
  reserved = search rules;
}

pub returns-then-as_slice-i-clause-told : goal.returns-then-as_slice-i-clause-told
returns-then-as_slice-i-clause-told g c = rw (← c.self.view_is)
    (another_is_not_yours c.args.worker c.args.act c.self.inside.live.items _ c.in-Some.i _ c.as_slice-in-Some.ensures (subst (λ live. IsPlaceOf c.args.act live c.in-Some.i) c.as_slice.ensures c.in-Some.ensures) c.if-as_slice-i.true)

pub returns-in-None-clause-told : goal.returns-in-None-clause-told
returns-in-None-clause-told g c = rw (← c.self.view_is, ← c.as_slice.ensures) (none_is_stale c.args.worker c.args.act c.as_slice.result.now c.in-None.ensures)

pub returns-else-as_slice-i-clause-told : goal.returns-else-as_slice-i-clause-told
returns-else-as_slice-i-clause-told g c = rw (← c.self.view_is)
    (own_is_ended c.args.worker c.args.act c.self.inside.live.items _ c.in-Some.i _ c.remove.result c.as_slice-in-Some.ensures (subst (λ live. IsPlaceOf c.args.act live c.in-Some.i) c.as_slice.ensures c.in-Some.ensures) c.remove.ensures.value c.if-as_slice-i.false)
