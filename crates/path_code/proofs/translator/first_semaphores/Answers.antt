-- Each further semaphore opens at 0.
use Rattle.std.proofs.Common.{◌∙◌, ◌++◌, ◌∷◌, [], ap, sym, arith}
use Rattle.path_code.proofs.NumberLists.{next_zero}
use Rattle.path_code.proofs.translator.first_semaphores.Goals as goal

pub loop-number-preserved : goal.loop-number-preserved
loop-number-preserved g c =
    c.in_ok-push-2.ensures.items ∙ ap (λ xs. xs ++ (c.loop-number.number, 0) ∷ []) c.loop-number.invariant ∙ sym (next_zero c.args.own c.loop-number.number (omega arith))
