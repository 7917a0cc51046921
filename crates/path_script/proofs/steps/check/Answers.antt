-- A step is barred by the first rule that it breaks.
use Rattle.std.proofs.Common.{inl, inr, sym, subst, rules}
use Rattle.path_script.specs.declared.fault.Cause.TheVariants as causes
use Rattle.path_script.specs.Scripts.{MayStep}
use Rattle.path_script.specs.ScriptFaults.{Bars, uses_nothing, leaves_nothing, enters_deep, many_steps}
use Rattle.path_script.proofs.steps.check.Goals as goal
use Rattle.path_script.proofs.steps.check.Goals.{in-Enter+else-entered-ge-MOST_ENTERED, in-Apply+else-entered-eq0}

pub returns-then-entered-ge-MOST_ENTERED-clause-err : goal.returns-then-entered-ge-MOST_ENTERED-clause-err
returns-then-entered-ge-MOST_ENTERED-clause-err c = subst (λ s. Bars c.args.steps c.args.entered s causes.TooDeep) (sym c.in-Enter.is) (enters_deep c.if-entered-ge-MOST_ENTERED.true)

pub returns-then-entered-eq0 : goal.returns-then-entered-eq0
returns-then-entered-eq0 c = record {
  ok = tt;
  err = elim c.in-Apply.is [
    | inl p ↦ subst (λ s. Bars c.args.steps c.args.entered s causes.Unbalanced) (sym p.1) (uses_nothing c.if-entered-eq0.true)
    | inr p ↦ subst (λ s. Bars c.args.steps c.args.entered s causes.Unbalanced) (sym p) (leaves_nothing c.if-entered-eq0.true)
  ];
}

pub returns-then-steps-ge-MOST_STEPS-clause-err : goal.returns-then-steps-ge-MOST_STEPS-clause-err
returns-then-steps-ge-MOST_STEPS-clause-err c =
    let may : MayStep c.args.entered c.args.step = elim c.match-step.branch [ in-Enter+else-entered-ge-MOST_ENTERED w ↦ search rules | in-Apply+else-entered-eq0 w ↦ search rules ] in
    many_steps may c.if-steps-ge-MOST_STEPS.true
