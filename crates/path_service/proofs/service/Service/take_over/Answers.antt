-- The line is kept or given up.
use Rattle.std.proofs.Common.{◌≡◌, ◌∙◌, None, ap, arith, rules, sym, subst, true, false}
use Rattle.std.specs.Prelude.{is_some}
use Rattle.path_system.specs.Accounts.{Account}
use Rattle.path_system.proofs.CallerLemmas.{of_system, take_fault, taken_first}
use Rattle.tell_base.proofs.CallerLemmas.{unfailing}
use Rattle.path_service.specs.Inner.{IsReady}
use Rattle.path_service.specs.Serving.{Serving, settled}
use Rattle.path_service.proofs.Served.{gone_on, has_a_place, turned}
use Rattle.path_service.proofs.service.Service.take_over.Goals as goal

pub returns-in-None-clause-taken : goal.returns-in-None-clause-taken
returns-in-None-clause-taken c =
    let none : is_some c.self.inside.lines ≡ false = ap is_some c.in-None.is in
    rw (← c.self.view_is) (record {
      behind = c.take_over.new.self;
      taken = of_system c.self.inside.controller c.self.invariant.system.first _ c.in-Ok.ensures.taken.each;
      left = λ i. record { account = (c.rotate.ensures.rotated ∙ ap (λ k. settled k c.take_over.new.self) (sym none)) i; keeps = is_some c.self.inside.lines };
    })

pub returns-in-Some-clause-taken : goal.returns-in-Some-clause-taken
returns-in-Some-clause-taken c =
    let some : true ≡ is_some c.self.inside.lines = sym (ap is_some c.in-Some.is) in
    rw (← c.self.view_is) (record {
      behind = c.take_over.new.self;
      taken = of_system c.self.inside.controller c.self.invariant.system.first _ c.in-Ok.ensures.taken.each;
      left = λ i. record { account = settled (some i) c.take_over.new.self; keeps = some i };
    })

pub returns-in-Err-NotOwed-clause-owed : goal.returns-in-Err-NotOwed-clause-owed
returns-in-Err-NotOwed-clause-owed c =
    let told = take_fault c.self.inside.controller c.self.invariant.system.first _ _ _ _ (rw c.in-Err-NotOwed.field-0-is at c.in-Err-NotOwed.ensures.fault) in
    rw (← c.self.view_is, c.in-Err-NotOwed.field-0-is) (record { other = told.other; owed = record { owed = told.owed; served = told.served } })

pub returns-in-Err-NotOwed-clause-kept : goal.returns-in-Err-NotOwed-clause-kept
returns-in-Err-NotOwed-clause-kept c =
    let fault = rw c.in-Err-NotOwed.field-0-is at c.in-Err-NotOwed.ensures.fault in
    ap (λ (a : Account). let s : Serving = record { account = a; keeps = is_some c.self.inside.lines } in s) fault.kept.1 ∙ c.self.view_is

pub invariant_of-self : goal.invariant_of-self
invariant_of-self c =
    let fault = rw c.in-Err-NotOwed.field-0-is at c.in-Err-NotOwed.ensures.fault in
    subst (λ (a : Account). IsReady a c.self.inside.lines c.self.inside.order) (sym fault.kept.1) c.self.invariant

pub unreachable-unreachable : goal.unreachable-unreachable
unreachable-unreachable c =
    let fault = rw c.in-Err-DeviceFailed.field-0-is at c.in-Err-DeviceFailed.ensures.fault in
    unfailing fault.kept.0

pub push_reserved-requires : goal.push_reserved-requires
push_reserved-requires c =
    let taken = of_system c.self.inside.controller c.self.invariant.system.first _ c.in-Ok.ensures.taken.each in
    let roomy = has_a_place c.self.inside.controller c.take_over.new.self c.self.inside.lines _ c.args.line c.in-Some.is c.self.invariant.logged taken c.in-Ok.ensures.controlled in
    omega (arith, roomy)

pub invariant_of-self-in-None : goal.invariant_of-self-in-None
invariant_of-self-in-None c =
    let first : c.take_over.new.self.opened ≡ None = taken_first c.self.inside.controller c.self.invariant.system.first _ _ c.in-Ok.ensures.taken in
    record {
      system = turned c.take_over.new.self c.rotate.new.self first c.rotate.ensures.rotated c.rotate.ensures.controlled;
      logged = search rules;
      ordered = search rules;
    }

pub invariant_of-self-in-Some : goal.invariant_of-self-in-Some
invariant_of-self-in-Some c =
    let taken = of_system c.self.inside.controller c.self.invariant.system.first _ c.in-Ok.ensures.taken.each in
    record {
      system = gone_on c.self.inside.controller c.take_over.new.self _ _ c.self.invariant.system.first taken.written c.in-Ok.ensures.controlled;
      logged = search rules;
      ordered = search rules;
    }
