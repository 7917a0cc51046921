-- The line is behind those that are on the disk, or is there itself; where it isn't kept, a crash leaves it or leaves it out.
use Rattle.std.proofs.Common.{[], ◌∷◌, ◌++◌, refl, ◌∙◌}
use Rattle.std.proofs.lemmas.Result.{on_ok_weaker}
use Rattle.cmd_follow.proofs.Outlasting.{joined_calls, keeps_more, keeps_synced, on_err, outlasts_call}
use Rattle.cmd_follow.proofs.stored.StoreKeeper.write.Goals as goal

pub returns-in_default-clause-kept : goal.returns-in_default-clause-kept
returns-in_default-clause-kept g c = λ first found ls k.
    keeps_more g.D.Device.holds g.D.Device.may_leave g.D.Device.moment g.D.Device.left_since g.met.D.Device.counts_now g.met.D.Device.only_now first c.args.self.now found ls k (record c.args.self.now { store = c.append.new.self }) c.args.line
    c.append.ensures.decl c.append.ensures.room refl (c.in_ok-append.ensures.stored (found ++ k.kept) k.fresh k.stored) (λ e. absurd (c.in_default.not-Each e))
    (c.append.ensures.any_moment (found ++ k.kept) k.fresh k.stored)

pub returns-in_err-append-clause-left : goal.returns-in_err-append-clause-left
returns-in_err-append-clause-left g c = λ first found ls k.
    on_err _
    (outlasts_call g.D.Device.holds g.D.Device.may_leave g.D.Device.moment g.D.Device.left_since g.met.D.Device.counts_now g.met.D.Device.only_now first c.args.self.now found ls k c.append.new.self.device (c.args.line ∷ [])
    (c.append.ensures.any_moment (found ++ k.kept) k.fresh k.stored))

pub returns-clause-kept : goal.returns-clause-kept
returns-clause-kept g c = λ first found ls k.
    on_ok_weaker c.sync.result
    (λ stored. keeps_synced g.D.Device.holds g.D.Device.may_leave g.D.Device.moment g.D.Device.left_since g.met.D.Device.counts_now g.met.D.Device.only_now first c.args.self.now found ls k (record c.args.self.now { store = c.sync.new.self }) c.args.line
    (c.sync.ensures.decl ∙ c.append.ensures.decl) (c.sync.ensures.room ∙ c.append.ensures.room) refl stored
    (joined_calls g.D.Device.holds g.D.Device.may_leave g.D.Device.moment g.D.Device.left_since g.met.D.Device.counts_now g.met.D.Device.only_now c.args.self.now.store c.append.new.self c.sync.new.self (found ++ k.kept) (k.fresh ++ c.args.line ∷ []) c.append.ensures.decl c.append.ensures.room
    (c.append.ensures.any_moment (found ++ k.kept) k.fresh k.stored) (c.sync.ensures.any_moment (found ++ k.kept) (k.fresh ++ c.args.line ∷ []) (c.in_ok-append.ensures.stored (found ++ k.kept) k.fresh k.stored))))
    (c.sync.ensures.stored (found ++ k.kept) (k.fresh ++ c.args.line ∷ []) (c.in_ok-append.ensures.stored (found ++ k.kept) k.fresh k.stored))

pub returns-clause-left : goal.returns-clause-left
returns-clause-left g c = λ first found ls k.
    on_err _
    (outlasts_call g.D.Device.holds g.D.Device.may_leave g.D.Device.moment g.D.Device.left_since g.met.D.Device.counts_now g.met.D.Device.only_now first c.args.self.now found ls k c.sync.new.self.device (c.args.line ∷ [])
    (joined_calls g.D.Device.holds g.D.Device.may_leave g.D.Device.moment g.D.Device.left_since g.met.D.Device.counts_now g.met.D.Device.only_now c.args.self.now.store c.append.new.self c.sync.new.self (found ++ k.kept) (k.fresh ++ c.args.line ∷ []) c.append.ensures.decl c.append.ensures.room
    (c.append.ensures.any_moment (found ++ k.kept) k.fresh k.stored) (c.sync.ensures.any_moment (found ++ k.kept) (k.fresh ++ c.args.line ∷ []) (c.in_ok-append.ensures.stored (found ++ k.kept) k.fresh k.stored))))
