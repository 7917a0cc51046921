-- One more is gathered or left out.
use Rattle.std.proofs.Common.{◌≡◌, length, arith, subst}
use Rattle.cmd_explain.specs.Standing.{AreNext}
use Rattle.cmd_explain.proofs.Gathered.{none_next, next_more}
use Rattle.cmd_explain.proofs.refusal.may_begin.Goals as goal

pub loop-number-init : goal.loop-number-init
loop-number-init g c = λ h l now. none_next c.args.decl.now.declaration h c.args.path _ c.new-ops.ensures.items

pub loop-number-preserved : goal.loop-number-preserved
loop-number-preserved g c = λ h l now.
    next_more c.args.decl.now.declaration h c.args.path (record { 0 = c.loop-number.number }) c.loop-number.ops.items c.push_if.new.list.items c.lets_begin-wanted.result
    (c.loop-number.invariant h l now) (c.lets_begin-wanted.ensures h l now) c.in_ok-push_if.ensures

pub returns : goal.returns
returns g c = λ h l now.
    let all : c.loop-number.number ≡ length c.args.decl.now.declaration.operations = omega arith in
    subst (λ n. AreNext c.args.decl.now.declaration h c.args.path n c.loop-number.ops.items) all (c.loop-number.invariant h l now)
