-- The declaration or the file is refused, or the lines are answered behind those of the file.
use Rattle.std.proofs.Common.{◌≡◌, None, true, false, inl, inr, refl}
use Rattle.tell_base.specs.declared.status.Status.TheVariants.{Done, CommandRefused, DeclarationRefused}
use Rattle.tell_base.specs.Statuses.{status_of}
use Rattle.tell_base.proofs.CallerLemmas.{own_room}
use Rattle.cmd_follow.specs.declared.stored.StoreKeeper.{StoreKeeper}
use Rattle.cmd_follow.proofs.Behind.{answered_behind, closed_declared, closed_done, closed_ending, closed_refused, done_kept, kept_behind, leaves_behind, not_failed, once_open, once_own, opened_leaves, refused_kept, told_declared, told_done, told_room, unopened_leaves, wrong_command, wrong_declared, wrong_done, wrote_behind}
use Rattle.path_store.proofs.CallerLemmas.{untouched_same}
use Rattle.cmd_follow.proofs.Ending.{ends_open, ends_undeclared, no_good_room, unopened}
use Rattle.cmd_follow.proofs.Written.{keeps_same}
use Rattle.cmd_follow.proofs.stored.follow_stored.Goals as goal

pub returns-in-Err-clause-undeclared : goal.returns-in-Err-clause-undeclared
returns-in-Err-clause-undeclared g c = λ e. (keeps_same (g.O.Write.contents c.args.out.now), ends_undeclared c.args.declaration.now (status_of c.in-Err.fault) c.tell.result DeclarationRefused c.in-Err.ensures.err c.tell.ensures e, refl)

pub returns-in-Err-clause-bad_room : goal.returns-in-Err-clause-bad_room
returns-in-Err-clause-bad_room g c = λ e. absurd (ends_undeclared c.args.declaration.now (status_of c.in-Err.fault) c.tell.result CommandRefused c.in-Err.ensures.err c.tell.ensures e)

pub returns-in-Err-open_store-clause-done : goal.returns-in-Err-open_store-clause-done
returns-in-Err-open_store-clause-done g c = λ e. absurd (told_done _ _ c.tell_unopened.ensures e)

pub returns-in-Err-open_store-clause-undeclared : goal.returns-in-Err-open_store-clause-undeclared
returns-in-Err-open_store-clause-undeclared g c = λ e. absurd (told_declared _ _ c.tell_unopened.ensures e)

pub returns-in-Err-open_store-clause-bad_room : goal.returns-in-Err-open_store-clause-bad_room
returns-in-Err-open_store-clause-bad_room g c = λ e. (keeps_same (g.O.Write.contents c.args.out.now), (c.in-Ok.own.0.declaration, c.in-Ok.ensures.declares, told_room _ _ c.args.room c.tell_unopened.ensures c.in-Err-open_store.ensures.bad_room e))

pub returns-in-Err-open-clause-done : goal.returns-in-Err-open-clause-done
returns-in-Err-open-clause-done g c = λ e. absurd (ends_open c.in-Err-open.fault _ Done c.tell-in-Err-open.ensures e)

pub returns-in-Err-open-clause-undeclared : goal.returns-in-Err-open-clause-undeclared
returns-in-Err-open-clause-undeclared g c = λ e. absurd (ends_open c.in-Err-open.fault _ DeclarationRefused c.tell-in-Err-open.ensures e)

pub returns-in-Err-open-clause-bad_room : goal.returns-in-Err-open-clause-bad_room
returns-in-Err-open-clause-bad_room g c = λ e.
    let none = unopened c.in-Ok.own.0.declaration _ c.in-Ok-open_store.opened.0 c.in-Err-open.fault _ c.in-Err-open.ensures.fault c.tell-in-Err-open.ensures e in
    absurd (no_good_room c.in-Ok-open_store.opened.0 c.in-Ok-open_store.ensures.ok.0 (own_room c.in-Ok.own.0.declaration _ c.in-Ok-open_store.opened.0 c.in-Ok.ensures.devices none))

pub returns-in-Some-clause-done : goal.returns-in-Some-clause-done
returns-in-Some-clause-done g c = λ e. absurd (wrong_done _ c.tell_wrong.ensures e)

pub returns-in-Some-clause-undeclared : goal.returns-in-Some-clause-undeclared
returns-in-Some-clause-undeclared g c = λ e. absurd (wrong_declared _ c.tell_wrong.ensures e)

pub returns-in-Some-clause-bad_room : goal.returns-in-Some-clause-bad_room
returns-in-Some-clause-bad_room g c = λ e. absurd (wrong_command _ c.tell_wrong.ensures e)

pub returns-clause-done : goal.returns-clause-done
returns-clause-done g c = λ e.
    let first : StoreKeeper g.row.D.Denot g.row.A.Denot = record { syncing = c.args.syncing; fault = None; store = c.in-Ok-open_store.opened.1.store } in
    let once : c.in-Ok.own.0.declaration ≡ c.in-Ok-open_store.opened.1.store.decl.declaration = c.each_text_declares_once.ensures c.args.declaration.now c.in-Ok.own.0.declaration c.in-Ok-open_store.opened.1.store.decl.declaration c.in-Ok.ensures.declares c.in-Ok-open_store.ensures.ok.3 in
    let kept = c.follow_kept-status.ensures.done (closed_done _ _ c.closed.ensures.status e) in
    let ends = done_kept _ e in
    let all = kept_behind g.row.A.Denot c.args.declaration.now (g.R.Read.remaining c.args.input.now) (g.O.Write.contents c.args.out.now) (g.O.Write.contents c.follow_kept-status.new.out) c.in-Ok-open_store.opened.1.store.decl.declaration _ c.in-Ok-open_store.opened.0 (g.D.Device.holds c.args.device)
    _ c.deref.result.now c.in-Ok-open.system c.go_on.new.system c.in-Ok-open_store.ensures.ok.3 (once_own c.in-Ok.own.0.declaration c.in-Ok-open_store.opened.1.store.decl.declaration _ once c.in-Ok.ensures.devices) (once_open c.in-Ok.own.0.declaration c.in-Ok-open_store.opened.1.store.decl.declaration _ c.in-Ok-open_store.opened.0 c.in-Ok-open.system once c.in-Ok-open.ensures.ok) c.in_default-go_on.ensures c.deref.ensures.value c.in-Ok-open_store.ensures.ok.4
    g.D.Device.holds g.D.Device.may_leave g.D.Device.moment g.D.Device.left_since g.met.D.Device.only_now c.args.device c.closed.result.1 first refl c.in-Ok-open_store.ensures.ok.1 c.in-Ok-open_store.ensures.stored
    kept.0 (λ ls k. c.closed.ensures.kept first ls kept.0 (kept.2 first ls k) ends.0 ends.1) in
    wrote_behind g.row.A.Denot c.args.declaration.now (g.R.Read.remaining c.args.input.now) (g.O.Write.contents c.args.out.now) (g.O.Write.contents c.follow_kept-status.new.out) c.in-Ok-open_store.opened.1.store.decl.declaration _ c.in-Ok-open_store.opened.0 (g.D.Device.holds c.args.device)
    _ c.deref.result.now c.in-Ok-open.system c.go_on.new.system c.in-Ok-open_store.ensures.ok.3 (once_own c.in-Ok.own.0.declaration c.in-Ok-open_store.opened.1.store.decl.declaration _ once c.in-Ok.ensures.devices) (once_open c.in-Ok.own.0.declaration c.in-Ok-open_store.opened.1.store.decl.declaration _ c.in-Ok-open_store.opened.0 c.in-Ok-open.system once c.in-Ok-open.ensures.ok) c.in_default-go_on.ensures c.deref.ensures.value c.in-Ok-open_store.ensures.ok.4
    g.D.Device.holds g.D.Device.may_leave g.D.Device.moment g.D.Device.left_since g.met.D.Device.only_now c.args.device c.closed.result.1 first refl c.in-Ok-open_store.ensures.ok.1 c.in-Ok-open_store.ensures.stored
    false kept.0 all (λ b held. held) kept.1

pub returns-clause-refused : goal.returns-clause-refused
returns-clause-refused g c = λ e.
    let first : StoreKeeper g.row.D.Denot g.row.A.Denot = record { syncing = c.args.syncing; fault = None; store = c.in-Ok-open_store.opened.1.store } in
    let once : c.in-Ok.own.0.declaration ≡ c.in-Ok-open_store.opened.1.store.decl.declaration = c.each_text_declares_once.ensures c.args.declaration.now c.in-Ok.own.0.declaration c.in-Ok-open_store.opened.1.store.decl.declaration c.in-Ok.ensures.declares c.in-Ok-open_store.ensures.ok.3 in
    let kept = c.follow_kept-status.ensures.refused (closed_refused _ _ c.closed.ensures.status e) in
    let ends = refused_kept _ e in
    let all = kept_behind g.row.A.Denot c.args.declaration.now (g.R.Read.remaining c.args.input.now) (g.O.Write.contents c.args.out.now) (g.O.Write.contents c.follow_kept-status.new.out) c.in-Ok-open_store.opened.1.store.decl.declaration _ c.in-Ok-open_store.opened.0 (g.D.Device.holds c.args.device)
    _ c.deref.result.now c.in-Ok-open.system c.go_on.new.system c.in-Ok-open_store.ensures.ok.3 (once_own c.in-Ok.own.0.declaration c.in-Ok-open_store.opened.1.store.decl.declaration _ once c.in-Ok.ensures.devices) (once_open c.in-Ok.own.0.declaration c.in-Ok-open_store.opened.1.store.decl.declaration _ c.in-Ok-open_store.opened.0 c.in-Ok-open.system once c.in-Ok-open.ensures.ok) c.in_default-go_on.ensures c.deref.ensures.value c.in-Ok-open_store.ensures.ok.4
    g.D.Device.holds g.D.Device.may_leave g.D.Device.moment g.D.Device.left_since g.met.D.Device.only_now c.args.device c.closed.result.1 first refl c.in-Ok-open_store.ensures.ok.1 c.in-Ok-open_store.ensures.stored
    kept.0 (λ ls k. c.closed.ensures.kept first ls kept.0 (kept.2 first ls k) ends.0 ends.1) in
    inr (wrote_behind g.row.A.Denot c.args.declaration.now (g.R.Read.remaining c.args.input.now) (g.O.Write.contents c.args.out.now) (g.O.Write.contents c.follow_kept-status.new.out) c.in-Ok-open_store.opened.1.store.decl.declaration _ c.in-Ok-open_store.opened.0 (g.D.Device.holds c.args.device)
    _ c.deref.result.now c.in-Ok-open.system c.go_on.new.system c.in-Ok-open_store.ensures.ok.3 (once_own c.in-Ok.own.0.declaration c.in-Ok-open_store.opened.1.store.decl.declaration _ once c.in-Ok.ensures.devices) (once_open c.in-Ok.own.0.declaration c.in-Ok-open_store.opened.1.store.decl.declaration _ c.in-Ok-open_store.opened.0 c.in-Ok-open.system once c.in-Ok-open.ensures.ok) c.in_default-go_on.ensures c.deref.ensures.value c.in-Ok-open_store.ensures.ok.4
    g.D.Device.holds g.D.Device.may_leave g.D.Device.moment g.D.Device.left_since g.met.D.Device.only_now c.args.device c.closed.result.1 first refl c.in-Ok-open_store.ensures.ok.1 c.in-Ok-open_store.ensures.stored
    true kept.0 all (λ b held. held) kept.1)

pub returns-clause-undeclared : goal.returns-clause-undeclared
returns-clause-undeclared g c = λ e. absurd (closed_declared _ _ c.closed.ensures.status c.follow_kept-status.ensures.statuses e)

pub returns-clause-bad_room : goal.returns-clause-bad_room
returns-clause-bad_room g c = λ e. absurd (closed_ending _ _ c.closed.ensures.status c.follow_kept-status.ensures.statuses e)

pub returns-clause-memory : goal.returns-clause-memory
returns-clause-memory g c = λ e.
    let first : StoreKeeper g.row.D.Denot g.row.A.Denot = record { syncing = c.args.syncing; fault = None; store = c.in-Ok-open_store.opened.1.store } in
    let once : c.in-Ok.own.0.declaration ≡ c.in-Ok-open_store.opened.1.store.decl.declaration = c.each_text_declares_once.ensures c.args.declaration.now c.in-Ok.own.0.declaration c.in-Ok-open_store.opened.1.store.decl.declaration c.in-Ok.ensures.declares c.in-Ok-open_store.ensures.ok.3 in
    let t = c.follow_kept-status.ensures.answered (not_failed _ _ c.closed.ensures.failed e) in
    inr (answered_behind g.row.A.Denot c.args.declaration.now (g.R.Read.remaining c.args.input.now) (g.O.Write.contents c.args.out.now) (g.O.Write.contents c.follow_kept-status.new.out) c.in-Ok-open_store.opened.1.store.decl.declaration _ c.in-Ok-open_store.opened.0 (g.D.Device.holds c.args.device)
    _ c.deref.result.now c.in-Ok-open.system c.go_on.new.system c.in-Ok-open_store.ensures.ok.3 (once_own c.in-Ok.own.0.declaration c.in-Ok-open_store.opened.1.store.decl.declaration _ once c.in-Ok.ensures.devices) (once_open c.in-Ok.own.0.declaration c.in-Ok-open_store.opened.1.store.decl.declaration _ c.in-Ok-open_store.opened.0 c.in-Ok-open.system once c.in-Ok-open.ensures.ok) c.in_default-go_on.ensures c.deref.ensures.value c.in-Ok-open_store.ensures.ok.4
    g.D.Device.holds g.D.Device.may_leave g.D.Device.moment g.D.Device.left_since g.met.D.Device.only_now c.args.device c.closed.result.1 first refl c.in-Ok-open_store.ensures.ok.1 c.in-Ok-open_store.ensures.stored
    c.args.room c.in-Ok-open_store.ensures.ok.2 t.2.0 t.2.1 (λ ls k. c.closed.ensures.left first ls t.2.0 t.2.1 (t.2.4 first ls k)) (λ b held. held) (t.0, t.1, (t.2.2, t.2.3)))

pub returns-clause-any_moment : goal.returns-clause-any_moment
returns-clause-any_moment g c =
    let first : StoreKeeper g.row.D.Denot g.row.A.Denot = record { syncing = c.args.syncing; fault = None; store = c.in-Ok-open_store.opened.1.store } in
    let once : c.in-Ok.own.0.declaration ≡ c.in-Ok-open_store.opened.1.store.decl.declaration = c.each_text_declares_once.ensures c.args.declaration.now c.in-Ok.own.0.declaration c.in-Ok-open_store.opened.1.store.decl.declaration c.in-Ok.ensures.declares c.in-Ok-open_store.ensures.ok.3 in
    let t = c.follow_kept-status.ensures.taken in
    inr (leaves_behind g.row.A.Denot c.args.declaration.now (g.R.Read.remaining c.args.input.now) (g.O.Write.contents c.args.out.now) (g.O.Write.contents c.follow_kept-status.new.out) c.in-Ok-open_store.opened.1.store.decl.declaration _ c.in-Ok-open_store.opened.0 (g.D.Device.holds c.args.device)
    _ c.deref.result.now c.in-Ok-open.system c.go_on.new.system c.in-Ok-open_store.ensures.ok.3 (once_own c.in-Ok.own.0.declaration c.in-Ok-open_store.opened.1.store.decl.declaration _ once c.in-Ok.ensures.devices) (once_open c.in-Ok.own.0.declaration c.in-Ok-open_store.opened.1.store.decl.declaration _ c.in-Ok-open_store.opened.0 c.in-Ok-open.system once c.in-Ok-open.ensures.ok) c.in_default-go_on.ensures c.deref.ensures.value c.in-Ok-open_store.ensures.ok.4
    g.D.Device.holds g.D.Device.may_leave g.D.Device.moment g.D.Device.left_since g.met.D.Device.only_now c.args.device c.closed.result.1 first refl c.in-Ok-open_store.ensures.ok.1 c.in-Ok-open_store.ensures.stored
    c.args.room c.in-Ok-open_store.ensures.ok.2 t.2.0 t.2.1 (λ ls k. c.closed.ensures.left first ls t.2.0 t.2.1 (t.2.3 first ls k)) (t.0, t.1, t.2.2))

pub returns-in-Err-clause-any_moment : goal.returns-in-Err-clause-any_moment
returns-in-Err-clause-any_moment g c = inl (untouched_same g.D.Device.holds g.D.Device.may_leave g.D.Device.moment g.D.Device.left_since g.met.D.Device.only_now c.args.device)

pub returns-in-Err-clause-memory : goal.returns-in-Err-clause-memory
returns-in-Err-clause-memory g c = λ e. inl (keeps_same (g.O.Write.contents c.args.out.now))

pub returns-in-Err-open_store-clause-any_moment : goal.returns-in-Err-open_store-clause-any_moment
returns-in-Err-open_store-clause-any_moment g c = unopened_leaves g.D.Device.holds g.D.Device.may_leave g.D.Device.moment g.D.Device.left_since (g.R.Read.remaining c.args.input.now) c.args.declaration.now c.args.room c.args.device _ c.in-Err-open_store.ensures.unopened

pub returns-in-Err-open_store-clause-memory : goal.returns-in-Err-open_store-clause-memory
returns-in-Err-open_store-clause-memory g c = λ e. inl (keeps_same (g.O.Write.contents c.args.out.now))

pub returns-in-Err-tell_found-clause-any_moment : goal.returns-in-Err-tell_found-clause-any_moment
returns-in-Err-tell_found-clause-any_moment g c =
    inr (opened_leaves g.D.Device.holds g.D.Device.may_leave g.D.Device.moment g.D.Device.left_since (g.R.Read.remaining c.args.input.now) c.args.declaration.now c.args.room c.in-Ok-open_store.opened.0 c.in-Ok-open_store.opened.1.store.decl.declaration c.args.device c.in-Ok-open_store.opened.1.store.device _ c.into_device.ensures
    c.in-Ok-open_store.ensures.ok.3 c.in-Ok-open_store.ensures.ok.2 (λ synced fresh file. (c.in-Ok-open_store.ensures.stored synced fresh file).2))

pub returns-in-Err-tell_found-clause-memory : goal.returns-in-Err-tell_found-clause-memory
returns-in-Err-tell_found-clause-memory g c = λ e. inl (keeps_same (g.O.Write.contents c.args.out.now))

pub returns-in-Err-open-clause-any_moment : goal.returns-in-Err-open-clause-any_moment
returns-in-Err-open-clause-any_moment g c =
    inr (opened_leaves g.D.Device.holds g.D.Device.may_leave g.D.Device.moment g.D.Device.left_since (g.R.Read.remaining c.args.input.now) c.args.declaration.now c.args.room c.in-Ok-open_store.opened.0 c.in-Ok-open_store.opened.1.store.decl.declaration c.args.device c.in-Ok-open_store.opened.1.store.device _ c.into_device-in-Err-open.ensures
    c.in-Ok-open_store.ensures.ok.3 c.in-Ok-open_store.ensures.ok.2 (λ synced fresh file. (c.in-Ok-open_store.ensures.stored synced fresh file).2))

pub returns-in-Err-open-clause-memory : goal.returns-in-Err-open-clause-memory
returns-in-Err-open-clause-memory g c = λ e. inl (keeps_same (g.O.Write.contents c.args.out.now))

pub returns-in-Some-clause-any_moment : goal.returns-in-Some-clause-any_moment
returns-in-Some-clause-any_moment g c =
    inr (opened_leaves g.D.Device.holds g.D.Device.may_leave g.D.Device.moment g.D.Device.left_since (g.R.Read.remaining c.args.input.now) c.args.declaration.now c.args.room c.in-Ok-open_store.opened.0 c.in-Ok-open_store.opened.1.store.decl.declaration c.args.device c.in-Ok-open_store.opened.1.store.device _ c.into_device-in-Some.ensures
    c.in-Ok-open_store.ensures.ok.3 c.in-Ok-open_store.ensures.ok.2 (λ synced fresh file. (c.in-Ok-open_store.ensures.stored synced fresh file).2))

pub returns-in-Some-clause-memory : goal.returns-in-Some-clause-memory
returns-in-Some-clause-memory g c = λ e. inl (keeps_same (g.O.Write.contents c.args.out.now))
