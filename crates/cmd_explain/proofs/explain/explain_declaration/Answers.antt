-- The declaration is refused, or described.
use Rattle.std.proofs.Common.{refl}
use Rattle.tell_base.specs.Statuses.{status_of}
use Rattle.tell_base.proofs.CallerLemmas.{ends_told, ends_written, may_undeclared}
use Rattle.cmd_explain.specs.Explanations.{DescriptionEnd, DescriptionEnds}
use Rattle.cmd_explain.proofs.explain.explain_declaration.Goals as goal

pub returns-in-Ok : goal.returns-in-Ok
returns-in-Ok g c =
    let u = c.in-Ok.ensures.declares in
    ends_written (DescriptionEnds c.args.declaration.now) _ _ _ _ _ _ refl (u.0, u.1, tt) c.put_text.ensures

pub returns-in-Err : goal.returns-in-Err
returns-in-Err g c =
    ends_told _ _ (status_of c.in-Err.fault) _ (may_undeclared _ DescriptionEnd (status_of c.in-Err.fault) c.in-Err.ensures.err) c.tell_place.ensures
