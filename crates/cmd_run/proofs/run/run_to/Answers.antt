-- The script is refused, or the journal of its run is written.
use Rattle.std.proofs.Common.{map}
use Rattle.tell_base.specs.Statuses.{script_status, status_of}
use Rattle.tell_base.proofs.CallerLemmas.{ends_so, ends_told, may_refuse}
use Rattle.cmd_run.specs.RunTexts.{WritesRunOf}
use Rattle.cmd_run.proofs.Endings.{may_unrun, refuses_script, run_so}
use Rattle.cmd_run.proofs.run.run_to.Goals as goal

pub returns-in-Err : goal.returns-in-Err
returns-in-Err g c =
    let d = c.args.decl.declaration in
    ends_told _ _ (script_status c.in-Err.fault) _
    (may_refuse (WritesRunOf d (map g.D.Device.state c.args.devices.items) c.args.room c.args.script.now) _ _ _ _ (script_status c.in-Err.fault) (λ x. x) (λ x. x)
    (refuses_script _ d c.args.script.now c.in-Err.fault c.in-Err.ensures.err c.in-Err.ensures.none))
    c.tell.ensures

pub returns-in-Ok-ran : goal.returns-in-Ok-ran
returns-in-Ok-ran g c =
    let o = c.in-Ok-ran.outcome in
    ends_so _ _
    (run_so c.args.decl.declaration o.system.declaration (map g.D.Device.state c.args.devices.items) c.args.room c.args.script.now c.in-Ok.script.processes o.system.journal o.ends.items
    c.in-Ok-ran.ensures.declaration c.in-Ok.ensures.ok c.in-Ok-ran.ensures.run _) _ _ _ c.tell_outcome-status.ensures

pub returns : goal.returns
returns g c =
    ends_told _ _ (status_of c.in-Err-ran.fault) _
    (may_unrun c.args.decl.declaration (map g.D.Device.state c.args.devices.items) c.args.room c.args.script.now (status_of c.in-Err-ran.fault) c.in-Err-ran.ensures.err)
    c.tell-in-Err-ran.ensures
