-- What each reply to a finish adds.
use Rattle.std.proofs.Common.{◌∷◌}
use Rattle.path_script.specs.declared.script.Step.TheVariants.{Leave}
use Rattle.path_model.specs.declared.journal.Attempt.TheVariants.{Finish}
use Rattle.path_run.proofs.Taking.{left_adds, memory_closes, room_closes, leave_fault}
use Rattle.path_run.proofs.step.leave.Goals as goal

pub returns-in_default-clause-run : goal.returns-in_default-clause-run
returns-in_default-clause-run g c =
    let t = c.in_default.ensures.run in
    (t.0, t.1, λ held. memory_closes Leave t.0 t.2 (c.args.act ∷ held))

pub returns-in-Finished-clause-run : goal.returns-in-Finished-clause-run
returns-in-Finished-clause-run g c =
    let t = c.in-Ok.ensures.run in
    (t.0, t.1, left_adds c.args.act c.in-Ok.reply t.0 t.2 c.in-Finished.is)

pub returns-in-NoRoom-clause-run : goal.returns-in-NoRoom-clause-run
returns-in-NoRoom-clause-run g c =
    let t = c.in-Ok.ensures.run in
    (t.0, t.1, λ held. room_closes Leave (Finish c.args.act) c.in-Ok.reply t.0 t.2 c.in-NoRoom.is (c.args.act ∷ held))

pub returns-in_default-reply : goal.returns-in_default-reply
returns-in_default-reply g c =
    let t = c.in-Ok.ensures.run in record {
      worker = c.attempt.ensures.worker;
      unstopped = tt;
      run = (t.0, t.1, leave_fault c.args.act c.in-Ok.reply t.0 t.2 c.in_default-reply.not-NoRoom c.in_default-reply.not-Finished);
    }
