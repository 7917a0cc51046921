-- What each reply to a use adds.
use Rattle.std.proofs.Common.{◌∷◌}
use Rattle.path_script.specs.declared.script.Step.TheVariants.{Apply as Use}
use Rattle.path_model.specs.declared.journal.Attempt.TheVariants.{Apply}
use Rattle.path_run.proofs.Taking.{used_adds, memory_closes, room_closes, use_fault}
use Rattle.path_run.proofs.step.apply.Goals as goal

pub returns-in_default-clause-run : goal.returns-in_default-clause-run
returns-in_default-clause-run g c =
    let t = c.in_default.ensures.run in
    (t.0, t.1, λ held. memory_closes (Use c.args.verb) t.0 t.2 (c.args.act ∷ held))

pub returns-in-Used-clause-run : goal.returns-in-Used-clause-run
returns-in-Used-clause-run g c =
    let t = c.in-Ok.ensures.run in
    (t.0, t.1, used_adds c.args.verb c.args.act c.in-Ok.reply c.in-Used.field-0 t.0 t.2 c.in-Used.is)

pub returns-in-NoRoom-clause-run : goal.returns-in-NoRoom-clause-run
returns-in-NoRoom-clause-run g c =
    let t = c.in-Ok.ensures.run in
    (t.0, t.1, λ held. room_closes (Use c.args.verb) (Apply c.args.act c.args.verb) c.in-Ok.reply t.0 t.2 c.in-NoRoom.is (c.args.act ∷ held))

pub returns-in_default-reply : goal.returns-in_default-reply
returns-in_default-reply g c =
    let t = c.in-Ok.ensures.run in record {
      worker = c.attempt.ensures.worker;
      unstopped = tt;
      run = (t.0, t.1, use_fault c.args.verb c.args.act c.in-Ok.reply t.0 t.2 c.in_default-reply.not-NoRoom c.in_default-reply.not-Used);
    }
