-- The place of the number is emptied.
use Rattle.std.proofs.Common.{◌≡◌, Some, None, sym, ap, arith, ◌∙◌}
use Rattle.std.proofs.lemmas.List.{length-set}
use Rattle.path_model.specs.Journals.{activation_of}
use Rattle.path_step.specs.Steps.{Register}
use Rattle.path_audit.specs.Inner.Owners.{live_from}
use Rattle.path_audit.proofs.Places.{found, held, fewer, without_here}
use Rattle.path_audit.proofs.activations.ActivationsLive.end_own.Goals as goal

pub index_mut-requires : goal.index_mut-requires
index_mut-requires g c =
    let xs = c.self.inside.begun.items in
    let there : activation_of c.args.act (live_from 0 xs) ≡ Some c.in-Some.activation = ap (λ (r : Register). activation_of c.args.act r.live) c.self.view_is ∙ sym c.find.ensures ∙ c.in-Some.is in
    omega (arith, found c.args.act xs _ there, c.self.inside.begun.ok.0)

pub invariant_of-self : goal.invariant_of-self
invariant_of-self g c =
    let xs = c.self.inside.begun.items in
    let there : activation_of c.args.act (live_from 0 xs) ≡ Some c.in-Some.activation = ap (λ (r : Register). activation_of c.args.act r.live) c.self.view_is ∙ sym c.find.ensures ∙ c.in-Some.is in
    let owner = held c.args.act xs _ None there in
    let one = fewer 0 c.args.act.0 xs None owner.0 (found c.args.act xs _ there) owner.1 in
    omega (arith, one, c.self.invariant)

pub returns-clause-ended : goal.returns-clause-ended
returns-clause-ended g c =
    let xs = c.self.inside.begun.items in
    let there : activation_of c.args.act (live_from 0 xs) ≡ Some c.in-Some.activation = ap (λ (r : Register). activation_of c.args.act r.live) c.self.view_is ∙ sym c.find.ensures ∙ c.in-Some.is in
    let same = without_here c.args.act 0 c.args.act.0 xs (omega arith) (found c.args.act xs _ there) in
    let kept = length-set xs c.args.act.0 None in
    rw (← c.self.view_is) (λ i. record { live = sym same i; begun = kept i })
