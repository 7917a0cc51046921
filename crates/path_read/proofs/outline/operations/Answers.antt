use Rattle.std.proofs.Common.{arith}
use Rattle.std.proofs.lemmas.Result.{err_from_is_err_and}
use Rattle.path_read.proofs.Following.{fails_then, no_value}
use Rattle.path_read.proofs.Lists.{first_name, next_name, no_names_at, no_first_name, names_end}
use Rattle.path_read.proofs.outline.operations.Goals as goal

pub returns-in_err-name-clause-none : goal.returns-in_err-name-clause-none
returns-in_err-name-clause-none g c =
    let p = err_from_is_err_and c.from_residual.result c.from_residual.ensures.1 in
    rw (p.1, p.2) (fails_then _ (λ none. no_first_name _ none) c.in_err-name.ensures.err)

pub loop-left-init : goal.loop-left-init
loop-left-init g c = record { shorter = c.in_ok-name.ensures.shorter; reached = first_name _ _ _ _ _ c.in_ok-name.ensures.ok c.take.ensures }

pub returns-in_err-name-2-clause-none : goal.returns-in_err-name-2-clause-none
returns-in_err-name-2-clause-none g c =
    let p = err_from_is_err_and c.from_residual-in_err-name-2.result c.from_residual-in_err-name-2.ensures.1 in
    rw (p.1, p.2) (fails_then _ (λ none. no_names_at _ _ _ _ _ c.in-Some.ensures.some none c.loop-left.invariant.reached) c.in_err-name-2.ensures.err)

pub loop-left-preserved : goal.loop-left-preserved
loop-left-preserved g c = record {
  shorter = omega (arith, c.in_ok-name-2.ensures.shorter, c.in-Some.ensures.shorter, c.loop-left.invariant.shorter);
  reached = next_name _ _ _ _ _ _ _ _ c.in-Some.ensures.some c.in_ok-name-2.ensures.ok c.take-in-Some.ensures c.loop-left.invariant.reached;
}

pub returns-clause-found : goal.returns-clause-found
returns-clause-found g c = names_end _ _ _ _ c.in_default.ensures.none c.loop-left.invariant.reached

pub returns-in_err-name-clause-found : goal.returns-in_err-name-clause-found
returns-in_err-name-clause-found g c = no_value c.from_residual.result _ _ c.from_residual.ensures.1

pub returns-in_err-name-clause-shorter : goal.returns-in_err-name-clause-shorter
returns-in_err-name-clause-shorter g c = no_value c.from_residual.result _ _ c.from_residual.ensures.1

pub returns-in_err-name-2-clause-found : goal.returns-in_err-name-2-clause-found
returns-in_err-name-2-clause-found g c = no_value c.from_residual-in_err-name-2.result _ _ c.from_residual-in_err-name-2.ensures.1

pub returns-in_err-name-2-clause-shorter : goal.returns-in_err-name-2-clause-shorter
returns-in_err-name-2-clause-shorter g c = no_value c.from_residual-in_err-name-2.result _ _ c.from_residual-in_err-name-2.ensures.1
