-- A device serves as the line says, or is marked.
use Rattle.std.proofs.Common.{◌≡◌, sym, ap, subst, ◌∙◌}
use Rattle.std.proofs.Math.ListN.{set}
use Rattle.std.proofs.lemmas.List.{set-get_or}
use Rattle.path_step.specs.Steps as steps
use Rattle.path_shelf.specs.States.{MayFail, state_at}
use Rattle.path_system.specs.Inner.Parts.{Marked, PartsValue, HasMarked, HasServed, MayUse, contents, is_law_at}
use Rattle.path_system.proofs.Taken.{take_served, take_marked}
use Rattle.path_system.proofs.parts.Parts.take_use.Goals as goal
use Rattle.path_system.proofs.parts.Parts.take_use.Goals.{After-resource_at-resource}
use Rattle.path_system.proofs.parts.Parts.take_use.Given.{Over}

ready_of : (g : Over) (c : After-resource_at-resource g) → (p : PartsValue) → p ≡ c.args.self.now → steps.AreReady p.declaration p.present.register.live (contents p.devices) (is_law_at p.devices)
ready_of g c p same = subst (λ (q : PartsValue). steps.AreReady q.declaration q.present.register.live (contents q.devices) (is_law_at q.devices)) (sym same) c.requires.ready

may_of : (g : Over) (c : After-resource_at-resource g) → (p : PartsValue) → p ≡ c.args.self.now → MayUse p c.args.worker c.args.act c.args.verb c.args.told
may_of g c p same = subst (λ (q : PartsValue). MayUse q c.args.worker c.args.act c.args.verb c.args.told) (sym same) c.requires.may

pub returns-in-Used-clause-taken : goal.returns-in-Used-clause-taken
returns-in-Used-clause-taken g c =
    let at = (goal.at.returns-in-Used-clause-taken g c).After-resource_at-resource in
    rw (← c.self.view_is) (λ is. take_served _ (ready_of g at _ c.self.view_is) c.args.worker c.args.act c.args.verb c.args.told (may_of g at _ c.self.view_is)
    c.in-Some.activation (sym c.find.ensures ∙ c.in-Some.is) c.if-activation-worker.false (MayFail g.D.Device.state) c.serve.new.self c.in-Used.field-0 c.in-Used.is
    (subst (λ r. HasServed (MayFail g.D.Device.state) c.self.inside.devices r c.args.verb c.serve.new.self) c.resource_at-resource.ensures (c.serve.ensures.served is)))

pub returns-in_default-told : goal.returns-in_default-told
returns-in_default-told g c =
    let at = (goal.at.returns-in_default-told g c).After-resource_at-resource in
    let old = c.self.inside.devices in
    let new = c.mark.new.self in
    let states = ap (λ (m : Marked). m.states) c.mark.ensures in
    let marks = ap (λ (m : Marked). m.asked) c.mark.ensures in
    let r = c.resource_at-resource.result.0 in
    let marked : HasMarked old r c.args.verb c.args.told new = record {
      law = ap (λ xs. (state_at xs r).law) states;
      others = states ∙ sym (ap (λ xs. set old.states r (state_at xs r)) states ∙ set-get_or old.states r _);
      marked = marks;
    } in
    rw (← c.self.view_is) (record {
      taken = λ is. take_marked _ (ready_of g at _ c.self.view_is) c.args.worker c.args.act c.args.verb c.args.told (may_of g at _ c.self.view_is)
          c.in-Some.activation (sym c.find.ensures ∙ c.in-Some.is) c.if-activation-worker.false new c.in_default-told.not-Used (λ i. record { states = states i; asked = new.asked })
          (subst (λ r. HasMarked old r c.args.verb c.args.told new) c.resource_at-resource.ensures marked);
      failed = λ is. absurd (cc);
    })
