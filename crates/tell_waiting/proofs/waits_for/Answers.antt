-- The first lines are all of them.
use Rattle.std.proofs.Common.{arith, subst}
use Rattle.std.specs.Prelude.{IfNone}
use Rattle.std.proofs.lemmas.List.{take_all}
use Rattle.path_model.specs.declared.ids.OpId.{OpId}
use Rattle.tell_waiting.specs.Waiting.{WaitsFor}
use Rattle.tell_waiting.proofs.waits_for.Goals as goal

pub returns-clause-none : goal.returns-clause-none
returns-clause-none c =
    subst (λ lines. IfNone c.loop-line.waits ((a : OpId) → WaitsFor c.args.worker a lines → ⊥))
    (take_all c.loop-line.line-index c.args.lines.now (omega arith)) c.loop-line.invariant.1
