-- The text is refused, or what the command writes of it was written.
use Rattle.std.proofs.Common.{refl}
use Rattle.tell_base.specs.Statuses.{status_of}
use Rattle.tell_base.proofs.CallerLemmas.{ends_told, ends_written, may_undeclared}
use Rattle.cmd_check.specs.Outputs.{OutputEnd, OutputEnds, output_text}
use Rattle.cmd_check.proofs.output.put_output.Goals as goal

pub returns-in-Ok : goal.returns-in-Ok
returns-in-Ok g c =
    let u = c.in-Ok.ensures.ok in
    ends_written (OutputEnds (output_text c.args.output) c.args.text.now) _ _ _ _ _ _ c.as_bytes.ensures.value (u.0, u.1, (refl, u.2)) c.put_text.ensures

pub returns-in-Err : goal.returns-in-Err
returns-in-Err g c =
    ends_told _ _ (status_of c.in-Err.fault) _ (may_undeclared _ (OutputEnd (output_text c.args.output)) (status_of c.in-Err.fault) c.in-Err.ensures.err) c.tell.ensures
