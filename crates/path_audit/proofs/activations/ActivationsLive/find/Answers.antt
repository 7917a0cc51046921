-- The number is the place.
use Rattle.std.proofs.Common.{sym, ap, arith, ◌∙◌}
use Rattle.path_audit.specs.Inner.Owners.{owned}
use Rattle.path_audit.proofs.Places.{late, here}
use Rattle.path_audit.proofs.activations.ActivationsLive.find.Goals as goal

pub returns-then-place-len : goal.returns-then-place-len
returns-then-place-len g c =
    rw (← c.self.view_is) (sym (late c.args.act 0 c.self.inside.begun.items (omega (arith, c.if-place-len.true, c.len.ensures, c.self.inside.begun.ok.0))))

pub returns-in_err-owner : goal.returns-in_err-owner
returns-in_err-owner g c =
    let xs = c.self.inside.begun.items in
    let at = here c.args.act 0 c.args.act.0 xs c.index.result.now (omega arith) (omega (arith, c.if-place-len.false, c.len.ensures, c.self.inside.begun.ok.0)) in
    rw (← c.self.view_is) (c.from_residual.ensures ∙ ap (owned c.args.act.0) (sym c.in_err-owner.was ∙ c.index.ensures) ∙ sym at)

pub returns : goal.returns
returns g c =
    let xs = c.self.inside.begun.items in
    let at = here c.args.act 0 c.args.act.0 xs c.index.result.now (omega arith) (omega (arith, c.if-place-len.false, c.len.ensures, c.self.inside.begun.ok.0)) in
    rw (← c.self.view_is) (ap (owned c.args.act.0) (sym c.in_ok-owner.was ∙ c.index.ensures) ∙ sym at)
