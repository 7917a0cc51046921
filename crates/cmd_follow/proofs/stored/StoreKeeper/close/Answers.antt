-- All lines are synced, unless each was, or that is left to the operating system.
use Rattle.std.proofs.Common.{[], ◌++◌, sym, subst}
use Rattle.std.proofs.lemmas.List.{append-nil}
use Rattle.std.proofs.lemmas.Result.{on_ok_weaker}
use Rattle.path_store.specs.Devices.{LeavesOnly}
use Rattle.path_store.specs.Stores.{FindsSome}
use Rattle.cmd_follow.proofs.Closing.{kept_same, kept_synced}
use Rattle.cmd_follow.proofs.Outlasting.{outlasts_call, outlasts_here}
use Rattle.cmd_follow.proofs.stored.StoreKeeper.close.Goals as goal

pub returns-in_default-clause-kept : goal.returns-in_default-clause-kept
returns-in_default-clause-kept g c = λ first found ls k. kept_same g.D.Device.holds g.D.Device.may_leave g.D.Device.moment g.D.Device.left_since first c.args.self.now c.args.self.now found ls k c.in_default.not-Close

pub returns-in_default-clause-left : goal.returns-in_default-clause-left
returns-in_default-clause-left g c = λ first found ls k. outlasts_here g.D.Device.holds g.D.Device.may_leave g.D.Device.moment g.D.Device.left_since g.met.D.Device.counts_now g.met.D.Device.only_now first c.args.self.now found ls k

pub returns-clause-kept : goal.returns-clause-kept
returns-clause-kept g c = λ first found ls k.
    on_ok_weaker c.sync.result
    (λ stored. kept_synced g.D.Device.holds g.D.Device.may_leave g.D.Device.moment g.D.Device.left_since first c.args.self.now (record c.args.self.now { store = c.sync.new.self }) found ls k c.sync.ensures.decl c.sync.ensures.room stored)
    (c.sync.ensures.stored (found ++ k.kept) k.fresh k.stored)

pub returns-clause-left : goal.returns-clause-left
returns-clause-left g c = λ first found ls k.
    outlasts_call g.D.Device.holds g.D.Device.may_leave g.D.Device.moment g.D.Device.left_since g.met.D.Device.counts_now g.met.D.Device.only_now first c.args.self.now found ls k c.sync.new.self.device []
    (subst (λ x. LeavesOnly g.D.Device.moment g.D.Device.left_since c.args.self.now.store.device c.sync.new.self.device (FindsSome c.args.self.now.store.decl.declaration c.args.self.now.store.room (found ++ k.kept) x)) (sym (append-nil k.fresh))
    (c.sync.ensures.any_moment (found ++ k.kept) k.fresh k.stored))
