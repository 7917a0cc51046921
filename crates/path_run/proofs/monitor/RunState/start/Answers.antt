-- What each reply to a start adds.
use Rattle.path_script.specs.declared.script.Step.TheVariants.{Enter}
use Rattle.path_model.specs.declared.journal.Attempt.TheVariants.{Start}
use Rattle.path_run.proofs.Taking.{entered_adds, blocked_tries, stalled_closes, memory_closes, room_closes, enter_fault}
use Rattle.path_run.proofs.monitor.RunState.start.Goals as goal

pub returns-in_default-clause-run : goal.returns-in_default-clause-run
returns-in_default-clause-run g c =
    let t = c.in_default.ensures.run in
    (t.0, t.1, memory_closes (Enter c.args.op) t.0 t.2)

pub returns-in-Started-clause-run : goal.returns-in-Started-clause-run
returns-in-Started-clause-run g c =
    let t = c.in-Ok.ensures.run in
    (t.0, t.1, entered_adds c.args.op c.in-Ok.reply c.in-Started.act t.0 t.2 c.in-Started.is)

pub returns-in-NoRoom-clause-run : goal.returns-in-NoRoom-clause-run
returns-in-NoRoom-clause-run g c =
    let t = c.in-Ok.ensures.run in
    (t.0, t.1, room_closes (Enter c.args.op) (Start c.args.op) c.in-Ok.reply t.0 t.2 c.in-NoRoom.is)

pub returns-in-Blocked-clause-run : goal.returns-in-Blocked-clause-run
returns-in-Blocked-clause-run g c =
    let t = c.in-Ok.ensures.run in
    (t.0, t.1, (blocked_tries c.args.op c.in-Ok.reply c.in-Blocked.field-0 t.0 t.2 c.in-Blocked.is, stalled_closes c.args.op c.in-Ok.reply c.in-Blocked.field-0 t.0 t.2 c.in-Blocked.is))

pub returns-in_default-reply-clause-run : goal.returns-in_default-reply-clause-run
returns-in_default-reply-clause-run g c =
    let t = c.in-Ok.ensures.run in
    (t.0, t.1, enter_fault c.args.op c.in-Ok.reply t.0 t.2 c.in_default-reply.not-NoRoom c.in_default-reply.not-Started c.in_default-reply.not-Blocked)
