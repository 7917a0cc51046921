-- Where no line failed all are kept, and synced if that was left to the end.
use Rattle.std.proofs.Common.{inl, inr, sym, subst}
use Rattle.cmd_follow.specs.Stored.{HasKept, Outlasts}
use Rattle.cmd_follow.proofs.Closing.{outlasts_closed, told_worse}
use Rattle.cmd_follow.proofs.Outlasting.{outlasts_either}
use Rattle.cmd_follow.proofs.stored.closed.Goals as goal

pub returns-in-Some-clause-status : goal.returns-in-Some-clause-status
returns-in-Some-clause-status g c = inr (told_worse _ _ c.tell_once.ensures c.worse-told.ensures.either)

pub returns-in-Some-clause-kept : goal.returns-in-Some-clause-kept
returns-in-Some-clause-kept g c = λ first found ls k memory failed. absurd (elim (told_worse _ _ c.tell_once.ensures c.worse-told.ensures.either) [ inl e ↦ memory e | inr e ↦ failed e ])

pub returns-in-Some-clause-left : goal.returns-in-Some-clause-left
returns-in-Some-clause-left g c = λ first found ls more l.
    subst (λ (x : g.row.D.Denot). Outlasts g.D.Device.may_leave g.D.Device.moment g.D.Device.left_since first.store.decl.declaration first.store.room first.syncing first.store.device x found ls more) (sym c.into_device.ensures)
    (outlasts_either g.D.Device.holds g.D.Device.may_leave g.D.Device.moment g.D.Device.left_since g.met.D.Device.counts_now g.met.D.Device.only_now first c.args.keeper found ls more l)

pub returns-in-Err-clause-status : goal.returns-in-Err-clause-status
returns-in-Err-clause-status g c = inr (told_worse _ _ c.tell_unkept.ensures c.worse-told-in-Err.ensures.either)

pub returns-in-Err-clause-kept : goal.returns-in-Err-clause-kept
returns-in-Err-clause-kept g c = λ first found ls k memory failed. absurd (elim (told_worse _ _ c.tell_unkept.ensures c.worse-told-in-Err.ensures.either) [ inl e ↦ memory e | inr e ↦ failed e ])

pub returns-in-Err-clause-left : goal.returns-in-Err-clause-left
returns-in-Err-clause-left g c = λ first found ls more l.
    subst (λ (x : g.row.D.Denot). Outlasts g.D.Device.may_leave g.D.Device.moment g.D.Device.left_since first.store.decl.declaration first.store.room first.syncing first.store.device x found ls more) (sym c.into_device-in-Err.ensures)
    (outlasts_closed g.D.Device.holds g.D.Device.may_leave g.D.Device.moment g.D.Device.left_since first c.args.keeper c.close.new.self found ls more c.in-None.is l (c.close.ensures.left first found ls))

pub returns-in-Ok-clause-kept : goal.returns-in-Ok-clause-kept
returns-in-Ok-clause-kept g c = λ first found ls k memory failed.
    subst (λ (x : g.row.D.Denot). HasKept g.D.Device.holds g.D.Device.may_leave first.store.decl.declaration first.store.room x first.syncing ls) (sym c.into_device-in-Ok.ensures) (c.in-Ok.ensures.kept first found ls k)

pub returns-in-Ok-clause-left : goal.returns-in-Ok-clause-left
returns-in-Ok-clause-left g c = λ first found ls more l.
    subst (λ (x : g.row.D.Denot). Outlasts g.D.Device.may_leave g.D.Device.moment g.D.Device.left_since first.store.decl.declaration first.store.room first.syncing first.store.device x found ls more) (sym c.into_device-in-Ok.ensures)
    (outlasts_closed g.D.Device.holds g.D.Device.may_leave g.D.Device.moment g.D.Device.left_since first c.args.keeper c.close.new.self found ls more c.in-None.is l (c.close.ensures.left first found ls))
