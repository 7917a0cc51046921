-- The run began with an empty journal.
use Rattle.std.proofs.Common.{rules, map}
use denote.Param.Send.{sendable}
use Rattle.path_system.proofs.CallerLemmas.{system_send}
use Rattle.tell_base.specs.Statuses.{status_of}
use Rattle.cmd_run.proofs.RunLemmas.{ran_so, open_refused, no_outcome_so}
use Rattle.cmd_run.proofs.run.ran.Goals as goal

pub returns-in-Ok-run-clause-run : goal.returns-in-Ok-run-clause-run
returns-in-Ok-run-clause-run g c =
    let o = c.in-Ok-run.outcome in
    let e = c.in-Ok-run.ensures in
    ran_so c.args.decl.declaration (map g.D.Device.state c.args.devices.items) c.args.room c.in-Ok.system o.system c.in-Ok.ensures.ok e.later c.args.script.now.processes o.passes.items o.ends.items
    (search rules) (search rules) e.system e.settled e.runs e.orderly e.blocked

pub run-requires-send-S : goal.run-requires-send-S
run-requires-send-S g c κs within = search (sendable, system_send) depth 20

pub returns-in-Err-clause-err : goal.returns-in-Err-clause-err
returns-in-Err-clause-err g c =
    open_refused c.args.decl.declaration (map g.D.Device.state c.args.devices.items) c.args.room c.in-Err.fault c.in-Err.ensures.fault

pub returns-in-Err-run-clause-err : goal.returns-in-Err-run-clause-err
returns-in-Err-run-clause-err g c =
    no_outcome_so c.args.decl.declaration (map g.D.Device.state c.args.devices.items) c.args.room c.in-Err-run.fault (status_of c.no_outcome.result) c.no_outcome.ensures.memory c.no_outcome.ensures.unsettled
