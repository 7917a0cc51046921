-- What the gate and the ledger say.
use Rattle.std.proofs.Common.{◌∙◌, ◌++◌, ap, sym, subst}
use Rattle.path_system.specs.Reports.{IsSorting, MeetsAt}
use Rattle.path_system.proofs.parts.Parts.report.Goals as goal

pub returns : goal.returns
returns g c =
    rw (← c.self.view_is) (record {
      sorted = subst (λ k. IsSorting (MeetsAt c.self.inside.gate) k c.in_ok-startable.startable.items c.in_ok-startable.blocked.items) c.counts-operations.ensures.operations c.in_ok-startable.ensures;
      live_is = c.in_ok-extend_from_slice.ensures.items ∙ ap (λ xs. xs ++ c.live.result.now) c.new-live.ensures.items ∙ c.live.ensures.value;
      frozen_is = (
        λ t. (sym c.deref.ensures.value ∙ (c.is_idle-frozen.ensures.0 t).0, sym c.deref-2.ensures.value ∙ (c.is_idle-frozen.ensures.0 t).1),
        λ p. c.is_idle-frozen.ensures.1 (c.deref.ensures.value ∙ p.0, c.deref-2.ensures.value ∙ p.1),
      );
    })
