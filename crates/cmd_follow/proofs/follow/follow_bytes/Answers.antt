-- The declaration is refused, or the lines are answered.
use Rattle.std.proofs.Common.{true, false, inl}
use Rattle.tell_base.specs.declared.status.Status.TheVariants.{Done, CommandRefused, DeclarationRefused, TextRefused, Unsound}
use Rattle.tell_base.specs.Statuses.{status_of}
use Rattle.tell_base.proofs.CallerLemmas.{own_room}
use Rattle.cmd_follow.proofs.Written.{keeps_same}
use Rattle.cmd_follow.proofs.Ending.{ends_undeclared, first_under, follow_under}
use Rattle.cmd_follow.proofs.follow.follow_bytes.Goals as goal

pub returns-in-Ok-clause-done : goal.returns-in-Ok-clause-done
returns-in-Ok-clause-done g c = λ e. follow_under {Y = g.row.A.Denot} c.args.declaration.now (g.R.Read.remaining c.args.input.now) (g.O.Write.contents c.args.out.now) _ c.in-Ok.decl.declaration _ c.args.room c.in-Ok.ensures.declares c.in-Ok.ensures.devices false (c.follow_to.ensures.done e)

pub returns-in-Ok-clause-refused : goal.returns-in-Ok-clause-refused
returns-in-Ok-clause-refused g c = λ e. follow_under {Y = g.row.A.Denot} c.args.declaration.now (g.R.Read.remaining c.args.input.now) (g.O.Write.contents c.args.out.now) _ c.in-Ok.decl.declaration _ c.args.room c.in-Ok.ensures.declares c.in-Ok.ensures.devices true (c.follow_to.ensures.refused e)

pub returns-in-Ok-clause-undeclared : goal.returns-in-Ok-clause-undeclared
returns-in-Ok-clause-undeclared g c = λ e. absurd (c.follow_to.ensures.statuses.0 e)

pub returns-in-Ok-clause-bad_room : goal.returns-in-Ok-clause-bad_room
returns-in-Ok-clause-bad_room g c = λ e.
    let kept = c.follow_to.ensures.unopened e in
    (kept.0, (c.in-Ok.decl.declaration, c.in-Ok.ensures.declares, own_room c.in-Ok.decl.declaration _ c.args.room c.in-Ok.ensures.devices kept.1))

pub returns-in-Ok-clause-room : goal.returns-in-Ok-clause-room
returns-in-Ok-clause-room g c = c.follow_to.ensures.room

pub returns-in-Ok-clause-memory : goal.returns-in-Ok-clause-memory
returns-in-Ok-clause-memory g c = λ e. first_under {Y = g.row.A.Denot} c.args.declaration.now (g.R.Read.remaining c.args.input.now) (g.O.Write.contents c.args.out.now) _ c.in-Ok.decl.declaration _ c.args.room c.in-Ok.ensures.declares c.in-Ok.ensures.devices (c.follow_to.ensures.memory e)

pub returns-in-Ok-clause-statuses : goal.returns-in-Ok-clause-statuses
returns-in-Ok-clause-statuses g c = c.follow_to.ensures.statuses.1

pub returns-in-Err-clause-done : goal.returns-in-Err-clause-done
returns-in-Err-clause-done g c = λ e. absurd (ends_undeclared c.args.declaration.now (status_of c.in-Err.fault) c.tell.result Done c.in-Err.ensures.err c.tell.ensures e)

pub returns-in-Err-clause-refused : goal.returns-in-Err-clause-refused
returns-in-Err-clause-refused g c = λ e. absurd (ends_undeclared c.args.declaration.now (status_of c.in-Err.fault) c.tell.result TextRefused c.in-Err.ensures.err c.tell.ensures e)

pub returns-in-Err-clause-undeclared : goal.returns-in-Err-clause-undeclared
returns-in-Err-clause-undeclared g c = λ e. (keeps_same (g.O.Write.contents c.args.out.now), ends_undeclared c.args.declaration.now (status_of c.in-Err.fault) c.tell.result DeclarationRefused c.in-Err.ensures.err c.tell.ensures e)

pub returns-in-Err-clause-bad_room : goal.returns-in-Err-clause-bad_room
returns-in-Err-clause-bad_room g c = λ e. absurd (ends_undeclared c.args.declaration.now (status_of c.in-Err.fault) c.tell.result CommandRefused c.in-Err.ensures.err c.tell.ensures e)

pub returns-in-Err-clause-room : goal.returns-in-Err-clause-room
returns-in-Err-clause-room g c = λ bad. (λ e. ends_undeclared c.args.declaration.now (status_of c.in-Err.fault) c.tell.result Done c.in-Err.ensures.err c.tell.ensures e, λ e. ends_undeclared c.args.declaration.now (status_of c.in-Err.fault) c.tell.result TextRefused c.in-Err.ensures.err c.tell.ensures e)

pub returns-in-Err-clause-memory : goal.returns-in-Err-clause-memory
returns-in-Err-clause-memory g c = λ e. inl (keeps_same (g.O.Write.contents c.args.out.now))

pub returns-in-Err-clause-statuses : goal.returns-in-Err-clause-statuses
returns-in-Err-clause-statuses g c = λ e. ends_undeclared c.args.declaration.now (status_of c.in-Err.fault) c.tell.result Unsound c.in-Err.ensures.err c.tell.ensures e
