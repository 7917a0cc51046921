-- A sync keeps each line, and then all are on the disk.
use Rattle.std.proofs.Common.{refl}
use Rattle.path_store.proofs.Crash.{at_start, sync_leaves, has_all}
use Rattle.path_store.proofs.store.Store.sync.Goals as goal

pub returns-in_err-check_whole-clause-any_moment : goal.returns-in_err-check_whole-clause-any_moment
returns-in_err-check_whole-clause-any_moment g c = λ synced fresh s.
    at_start g.D.Device.holds g.D.Device.may_leave c.args.self.now.decl.declaration c.args.self.now.room g.D.Device.moment g.D.Device.left_since g.met.D.Device.only_now c.args.self.now.device c.args.self.now.length synced fresh s.lines

pub returns-in_err-sync-clause-any_moment : goal.returns-in_err-sync-clause-any_moment
returns-in_err-sync-clause-any_moment g c = λ synced fresh s.
    sync_leaves g.D.Device.holds g.D.Device.may_leave c.args.self.now.decl.declaration c.args.self.now.room g.D.Device.moment g.D.Device.left_since g.met.D.Device.only_now c.args.self.now.device c.sync.new.self c.args.self.now.length synced fresh s.lines c.sync.ensures.crash c.sync.ensures.time

pub returns-clause-any_moment : goal.returns-clause-any_moment
returns-clause-any_moment g c = λ synced fresh s.
    sync_leaves g.D.Device.holds g.D.Device.may_leave c.args.self.now.decl.declaration c.args.self.now.room g.D.Device.moment g.D.Device.left_since g.met.D.Device.only_now c.args.self.now.device c.sync.new.self c.args.self.now.length synced fresh s.lines c.sync.ensures.crash c.sync.ensures.time

pub returns-clause-stored : goal.returns-clause-stored
returns-clause-stored g c = λ synced fresh s. record {
  lines = has_all g.D.Device.holds g.D.Device.may_leave c.args.self.now.decl.declaration c.args.self.now.room c.args.self.now.device c.sync.new.self c.args.self.now.length synced fresh s.lines c.sync.ensures.holds c.in_ok-sync.ensures.durable;
  none_fresh = λ e. refl;
}
