-- The system can't be opened, or it answered the lines.
use Rattle.std.proofs.Common.{true, false, subst}
use Rattle.std.specs.Prelude.{map}
use Rattle.path_shelf.specs.States.{MayFail}
use Rattle.tell_base.specs.declared.status.Status.TheVariants.{Done, DeclarationRefused, TextRefused, Unsound}
use Rattle.cmd_follow.specs.Stops.{IsEnding}
use Rattle.cmd_follow.proofs.Written.{keeps_same}
use Rattle.cmd_follow.proofs.Ending.{ends_open, first_none, first_of, follow_of, memory_not_failed, never_both, no_good_room, unopened}
use Rattle.cmd_follow.proofs.follow.follow_to.Goals as goal

pub returns-in-Ok-clause-done : goal.returns-in-Ok-clause-done
returns-in-Ok-clause-done g c = λ e. follow_of (MayFail g.D.Device.state) (g.R.Read.remaining c.args.input.now) (g.O.Write.contents c.args.out.now) _ c.args.decl.declaration (map g.D.Device.state c.args.devices.items) c.args.room c.in-Ok.system false c.in-Ok.ensures.ok (c.follow_kept.ensures.done e).0 (c.follow_kept.ensures.done e).1

pub returns-in-Ok-clause-refused : goal.returns-in-Ok-clause-refused
returns-in-Ok-clause-refused g c = λ e. follow_of (MayFail g.D.Device.state) (g.R.Read.remaining c.args.input.now) (g.O.Write.contents c.args.out.now) _ c.args.decl.declaration (map g.D.Device.state c.args.devices.items) c.args.room c.in-Ok.system true c.in-Ok.ensures.ok (c.follow_kept.ensures.refused e).0 (c.follow_kept.ensures.refused e).1

pub returns-in-Ok-clause-room : goal.returns-in-Ok-clause-room
returns-in-Ok-clause-room g c = λ bad. absurd (no_good_room c.args.room c.in-Ok.ensures.good_room bad)

pub returns-in-Ok-clause-laws : goal.returns-in-Ok-clause-laws
returns-in-Ok-clause-laws g c = λ h. c.in-Ok.ensures.laws

pub returns-in-Ok-clause-unopened : goal.returns-in-Ok-clause-unopened
returns-in-Ok-clause-unopened g c = λ e. absurd (subst IsEnding e c.follow_kept.ensures.statuses)

pub returns-in-Ok-clause-memory : goal.returns-in-Ok-clause-memory
returns-in-Ok-clause-memory g c = λ e. first_of (MayFail g.D.Device.state) (g.R.Read.remaining c.args.input.now) (g.O.Write.contents c.args.out.now) _ c.args.decl.declaration (map g.D.Device.state c.args.devices.items) c.args.room c.in-Ok.system _ c.in-Ok.ensures.ok (c.follow_kept.ensures.answered (memory_not_failed _ e))

pub returns-in-Ok-clause-statuses : goal.returns-in-Ok-clause-statuses
returns-in-Ok-clause-statuses g c = (λ e. subst IsEnding e c.follow_kept.ensures.statuses, λ e. subst IsEnding e c.follow_kept.ensures.statuses)

pub returns-clause-done : goal.returns-clause-done
returns-clause-done g c = λ e. absurd (ends_open c.in-Err.fault _ Done c.tell.ensures e)

pub returns-clause-refused : goal.returns-clause-refused
returns-clause-refused g c = λ e. absurd (ends_open c.in-Err.fault _ TextRefused c.tell.ensures e)

pub returns-clause-room : goal.returns-clause-room
returns-clause-room g c = λ bad. (λ e. ends_open c.in-Err.fault _ Done c.tell.ensures e, λ e. ends_open c.in-Err.fault _ TextRefused c.tell.ensures e)

pub returns-clause-laws : goal.returns-clause-laws
returns-clause-laws g c = λ h. absurd (never_both c.in-Err.fault _ c.tell.ensures h)

pub returns-clause-unopened : goal.returns-clause-unopened
returns-clause-unopened g c = λ e. (keeps_same (g.O.Write.contents c.args.out.now), unopened c.args.decl.declaration (map g.D.Device.state c.args.devices.items) c.args.room c.in-Err.fault _ c.in-Err.ensures.fault c.tell.ensures e)

pub returns-clause-memory : goal.returns-clause-memory
returns-clause-memory g c = λ e. first_none (MayFail g.D.Device.state) (g.R.Read.remaining c.args.input.now) (g.O.Write.contents c.args.out.now) c.args.decl.declaration (map g.D.Device.state c.args.devices.items) c.args.room

pub returns-clause-statuses : goal.returns-clause-statuses
returns-clause-statuses g c = (λ e. ends_open c.in-Err.fault _ DeclarationRefused c.tell.ensures e, λ e. ends_open c.in-Err.fault _ Unsound c.tell.ensures e)
