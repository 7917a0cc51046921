-- The attempts are refused, or they were read, stepped and written.
use Rattle.std.specs.Prelude.{map}
use Rattle.path_shelf.specs.States.{MayFail}
use Rattle.tell_base.specs.Ends.{AtDone}
use Rattle.tell_base.specs.Statuses.{status_of}
use Rattle.tell_base.proofs.CallerLemmas.{ends_told, ends_written, may_refuse, never_done}
use Rattle.cmd_trace.specs.Traces.{IsTraceOf}
use Rattle.cmd_trace.proofs.trace.trace_to.Goals as goal

pub returns-in-Ok-clause-ends : goal.returns-in-Ok-clause-ends
returns-in-Ok-clause-ends g c = ends_written _ _ _ _ _ _ _ c.as_slice.ensures.value c.in-Ok.ensures.ok c.put_text.ensures

pub returns-in-Ok-clause-room : goal.returns-in-Ok-clause-room
returns-in-Ok-clause-room g c = λ bad e. c.in-Ok.ensures.opened.0 bad

pub returns-in-Ok-clause-laws : goal.returns-in-Ok-clause-laws
returns-in-Ok-clause-laws g c = λ e. c.in-Ok.ensures.opened.1

pub returns-in-Err-clause-ends : goal.returns-in-Err-clause-ends
returns-in-Err-clause-ends g c =
    ends_told _ _ (status_of c.in-Err.fault) _ (may_refuse (AtDone (IsTraceOf c.args.decl.declaration (map g.D.Device.state c.args.devices.items) (MayFail g.D.Device.state) c.args.room c.args.report c.args.attempts.now))
    _ _ _ _ (status_of c.in-Err.fault) (λ x. x) (λ x. x) c.in-Err.ensures.err) c.tell.ensures

pub returns-in-Err-clause-room : goal.returns-in-Err-clause-room
returns-in-Err-clause-room g c = λ bad e. never_done _ _ (status_of c.in-Err.fault) _ c.in-Err.ensures.err c.tell.ensures e

pub returns-in-Err-clause-laws : goal.returns-in-Err-clause-laws
returns-in-Err-clause-laws g c = λ e. absurd (never_done _ _ (status_of c.in-Err.fault) _ c.in-Err.ensures.err c.tell.ensures e)
