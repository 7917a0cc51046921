-- What is found is what the file has, and at no moment a crash leaves less.
use Rattle.std.proofs.Common.{inr, sym}
use Rattle.path_decl.specs.Text.{IsDeclarationText}
use Rattle.path_store.specs.Stores.{Finds}
use Rattle.cmd_follow.proofs.Opening.{opened_all, opened_behind, opened_kept, read_file, same_room}
use Rattle.cmd_follow.proofs.stored.open_store.Goals as goal

pub returns-in-Ok-open-clause-ok : goal.returns-in-Ok-open-clause-ok
returns-in-Ok-open-clause-ok g c = (
  c.is_room.ensures.room c.if-not-is_room.false,
  sym c.in-Ok-open.ensures.new.0,
  c.in-Ok.ensures.named,
  opened_kept (λ d. IsDeclarationText c.args.declaration.now d) _ _ c.in-Ok-open.ensures.decl c.in-Ok-read.ensures.ok,
  λ b h. opened_kept (λ d. Finds d c.in-Ok.room b c.in-Ok-open.opened.lines.items) _ _ c.in-Ok-open.ensures.decl (c.in-Ok-open.ensures.found b (c.own_room.ensures.untouched.read b h)),
)

pub returns-in-Ok-open-clause-stored : goal.returns-in-Ok-open-clause-stored
returns-in-Ok-open-clause-stored g c = λ synced fresh.
    opened_all g.D.Device.holds g.D.Device.may_leave g.D.Device.moment g.D.Device.left_since c.args.device c.own_room.new.device c.own_room.ensures.untouched _ _ c.in-Ok.room synced fresh c.in-Ok-open.opened.lines.items c.in-Ok-open.opened.store
    c.in-Ok-open.ensures.decl (c.in-Ok-open.ensures.lines synced fresh) (c.in-Ok-open.ensures.stored synced fresh) (c.in-Ok-open.ensures.any_moment synced fresh)

pub returns-in-Err-open-clause-unopened : goal.returns-in-Err-open-clause-unopened
returns-in-Err-open-clause-unopened g c = inr (
  c.in-Ok-read.decl.declaration,
  c.in-Ok-read.ensures.ok,
  c.in-Ok.room,
  c.in-Ok.ensures.named,
  λ synced fresh file.
      opened_behind g.D.Device.holds g.D.Device.may_leave g.D.Device.moment g.D.Device.left_since c.args.device c.own_room.new.device c.own_room.ensures.untouched _ c.in-Ok-read.decl.declaration c.in-Ok.room synced fresh file
      (c.in-Err-open.ensures.any_moment_err synced fresh (read_file g.D.Device.holds g.D.Device.may_leave c.in-Ok-read.decl.declaration c.in-Ok.room c.args.device c.own_room.new.device synced fresh c.own_room.ensures.untouched.read c.own_room.ensures.untouched.left file)),
)

pub returns-then-not-is_room-clause-bad_room : goal.returns-then-not-is_room-clause-bad_room
returns-then-not-is_room-clause-bad_room g c = same_room c.in-Ok.room c.args.room c.in-Ok.ensures.room (c.is_room.ensures.bad c.if-not-is_room.true)
