-- The first that can be started is one; and if there is none, none is left.
use Rattle.std.proofs.Common.{◌≡◌, ◌<◌, ℕ, true, false, arith, ap, subst, inl, inr}
use Rattle.std.proofs.lemmas.Bool.{cases_eq}
use Rattle.cmd_explain.specs.Standing.{Starts}
use Rattle.cmd_explain.proofs.stuck.has_startable.Goals as goal

true_false : true ≡ false → ⊥
true_false z = cc

pub loop-number-init : goal.loop-number-init
loop-number-init g c = λ h l now a below s. omega (arith, below)

pub loop-number-preserved : goal.loop-number-preserved
loop-number-preserved g c = λ h l now a below s. elim (cases_eq a.0 c.loop-number.number) [
  | inl same ↦ (let here : a ≡ record { 0 = c.loop-number.number } = ap (λ (k : ℕ). record { 0 = k }) same in
      let t = (c.starts.ensures h l now).1 (subst (λ x. Starts c.args.decl.now.declaration h c.args.resource.0 x) here s) in let f = c.if-starts.false in absurd (cc))
  | inr other ↦ c.loop-number.invariant h l now a (omega (arith, below, other)) s
]

pub returns-then-starts-clause-some : goal.returns-then-starts-clause-some
returns-then-starts-clause-some g c = λ h l now t. (record { 0 = c.loop-number.number }, (c.starts.ensures h l now).0 c.if-starts.true)

pub returns-clause-none : goal.returns-clause-none
returns-clause-none g c = λ h l now f a s. (let k = s.declared in let within : a.0 < c.loop-number.number = omega (arith, k) in c.loop-number.invariant h l now a within s)
