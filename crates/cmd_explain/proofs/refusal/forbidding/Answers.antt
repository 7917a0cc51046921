-- One more is gathered or left out.
use Rattle.std.proofs.Common.{◌≡◌, ◌<◌, length, All, arith, subst, sym}
use Rattle.std.proofs.lemmas.List.Elements.{All-nil}
use Rattle.path_model.specs.declared.ids.PathId.{PathId}
use Rattle.cmd_explain.specs.Standing.{AreForbidding}
use Rattle.cmd_explain.proofs.Gathered.{none_forbidding, forbidding_more, declared_more}
use Rattle.cmd_explain.proofs.refusal.forbidding.Goals as goal

pub loop-number-init : goal.loop-number-init
loop-number-init g c = (
  λ h l now. none_forbidding c.args.decl.now.declaration h c.args.op _ c.new-paths.ensures.items,
  subst (All (λ (p : PathId). p.0 < length c.args.decl.now.declaration.paths)) (sym c.new-paths.ensures.items) (All-nil (λ (p : PathId). p.0 < length c.args.decl.now.declaration.paths)),
)

pub loop-number-preserved : goal.loop-number-preserved
loop-number-preserved g c = (
  λ h l now.
      forbidding_more c.args.decl.now.declaration h c.args.op (record { 0 = c.loop-number.number }) c.loop-number.paths.items c.push_if.new.list.items c.is_forbidding-wanted.result
      (c.loop-number.invariant.0 h l now) (c.is_forbidding-wanted.ensures h l now) c.in_ok-push_if.ensures,
  declared_more (λ p. p.0 < length c.args.decl.now.declaration.paths) (record { 0 = c.loop-number.number }) c.loop-number.paths.items c.push_if.new.list.items c.is_forbidding-wanted.result
      c.loop-number.invariant.1 (omega arith) c.in_ok-push_if.ensures,
)

pub returns-clause-forbidding : goal.returns-clause-forbidding
returns-clause-forbidding g c = λ h l now.
    let all : c.loop-number.number ≡ length c.args.decl.now.declaration.paths = omega arith in
    subst (λ n. AreForbidding c.args.decl.now.declaration h c.args.op n c.loop-number.paths.items) all (c.loop-number.invariant.0 h l now)

pub returns-clause-declared : goal.returns-clause-declared
returns-clause-declared g c = c.loop-number.invariant.1
