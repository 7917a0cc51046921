-- The controller's step is that of the service; a line that isn't kept is given up.
use Rattle.std.proofs.Common.{◌≡◌, ◌∙◌, None, ap, sym, refl, rules, true, false}
use Rattle.std.specs.Prelude.{is_some}
use Rattle.path_system.specs.Accounts.{Account}
use Rattle.path_service.specs.Services.{IsStep}
use Rattle.path_service.specs.Serving.{settled}
use Rattle.tell_base.proofs.CallerLemmas.{unfailing}
use Rattle.path_service.proofs.Served.{gone_on, served, stepped, turned}
use Rattle.path_service.proofs.service.Service.step.Goals as goal

pub returns-in-None : goal.returns-in-None
returns-in-None c =
    let step : IsStep c.self.inside.controller c.args.worker c.args.attempt c.step-reply.result c.step-reply.new.self =
    stepped _ _ _ _ _ c.self.invariant.system.first c.step-reply.ensures.owed c.step-reply.ensures.journal c.step-reply.ensures.failures (λ e. unfailing (c.step-reply.ensures.may_fail e)) in
    let none : is_some c.self.inside.lines ≡ false = ap is_some c.in-None.is in
    served c.args.self.now c.args.worker c.args.attempt c.step-reply.result c.self.inside.controller c.step-reply.new.self c.rotate.new.self (is_some c.self.inside.lines) (is_some c.self.inside.lines)
    c.self.view_is refl step (c.rotate.ensures.rotated ∙ ap (λ k. settled k c.step-reply.new.self) (sym none))

pub returns-then-not-matches : goal.returns-then-not-matches
returns-then-not-matches c =
    let step : IsStep c.self.inside.controller c.args.worker c.args.attempt c.step-reply.result c.step-reply.new.self =
    stepped _ _ _ _ _ c.self.invariant.system.first c.step-reply.ensures.owed c.step-reply.ensures.journal c.step-reply.ensures.failures (λ e. unfailing (c.step-reply.ensures.may_fail e)) in
    let some : is_some c.self.inside.lines ≡ true = ap is_some c.in-Some.is in
    served c.args.self.now c.args.worker c.args.attempt c.step-reply.result c.self.inside.controller c.step-reply.new.self c.step-reply.new.self (is_some c.self.inside.lines) true
    c.self.view_is some step refl

pub returns-else-not-matches : goal.returns-else-not-matches
returns-else-not-matches c =
    let step : IsStep c.self.inside.controller c.args.worker c.args.attempt c.step-reply.result c.step-reply.new.self =
    stepped _ _ _ _ _ c.self.invariant.system.first c.step-reply.ensures.owed c.step-reply.ensures.journal c.step-reply.ensures.failures (λ e. unfailing (c.step-reply.ensures.may_fail e)) in
    let some : is_some c.self.inside.lines ≡ true = ap is_some c.in-Some.is in
    served c.args.self.now c.args.worker c.args.attempt c.step-reply.result c.self.inside.controller c.step-reply.new.self c.step-reply.new.self (is_some c.self.inside.lines) true
    c.self.view_is some step refl

pub invariant_of-self : goal.invariant_of-self
invariant_of-self c =
    let first : c.step-reply.new.self.opened ≡ None = ap (λ (a : Account). a.opened) c.step-reply.ensures.journal ∙ c.self.invariant.system.first in
    record {
      system = turned c.step-reply.new.self c.rotate.new.self first c.rotate.ensures.rotated c.rotate.ensures.controlled;
      logged = search rules;
      ordered = search rules;
    }

pub invariant_of-self-then-not-matches : goal.invariant_of-self-then-not-matches
invariant_of-self-then-not-matches c = record {
  system = gone_on c.self.inside.controller c.step-reply.new.self _ _ c.self.invariant.system.first c.step-reply.ensures.journal c.step-reply.ensures.controlled;
  logged = search rules;
  ordered = search rules;
}

pub invariant_of-self-else-not-matches : goal.invariant_of-self-else-not-matches
invariant_of-self-else-not-matches c = record {
  system = gone_on c.self.inside.controller c.step-reply.new.self _ _ c.self.invariant.system.first c.step-reply.ensures.journal c.step-reply.ensures.controlled;
  logged = search rules;
  ordered = search rules;
}
