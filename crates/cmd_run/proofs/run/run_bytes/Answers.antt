-- The declaration is refused, or its own devices are run over.
use Rattle.tell_base.specs.Statuses.{status_of}
use Rattle.tell_base.proofs.CallerLemmas.{ends_so, ends_told, ends_under, may_undeclared, own_room, text_so}
use Rattle.tell_base.specs.Own.{own_states}
use Rattle.cmd_run.specs.RunTexts.{OwnRunEnds, WritesRunOf}
use Rattle.cmd_run.proofs.Endings.{own_run}
use Rattle.cmd_run.proofs.run.run_bytes.Goals as goal

pub returns-in-Ok : goal.returns-in-Ok
returns-in-Ok g c =
    let d = c.in-Ok.decl.declaration in
    ends_under _ (OwnRunEnds c.args.room c.args.script.now) d _ _ _ c.in-Ok.ensures.declares (λ out none. none)
    (ends_so _ _ (text_so (WritesRunOf d _ c.args.room c.args.script.now) (WritesRunOf d (own_states d) c.args.room c.args.script.now) _ _ _ _ (own_run d _ c.args.room c.args.script.now c.in-Ok.ensures.devices) (own_room d _ c.args.room c.in-Ok.ensures.devices) (λ x. x)) _ _ _
    c.run_to.ensures)

pub returns-in-Err : goal.returns-in-Err
returns-in-Err g c =
    ends_told _ _ (status_of c.in-Err.fault) _ (may_undeclared _ (OwnRunEnds c.args.room c.args.script.now) (status_of c.in-Err.fault) c.in-Err.ensures.err) c.tell.ensures
