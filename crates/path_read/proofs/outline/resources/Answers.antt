use Rattle.std.proofs.lemmas.Result.{err_from_is_err_and}
use Rattle.path_read.proofs.Following.{fails_then, no_value}
use Rattle.path_read.proofs.Lists.{first_resource, next_resource, no_file, no_file_at, file_ends, told_none, told_some}
use Rattle.path_read.proofs.Greedy.{not_file, is_file}
use Rattle.path_read.proofs.outline.resources.Goals as goal

pub returns-in_err-rest-clause-none : goal.returns-in_err-rest-clause-none
returns-in_err-rest-clause-none g c =
    let p = err_from_is_err_and c.from_residual.result c.from_residual.ensures.1 in
    rw (p.1, p.2) (fails_then _ (λ none. not_file _ (no_file _ none)) c.in_err-rest.ensures.none)

pub loop-rest-init : goal.loop-rest-init
loop-rest-init g c = first_resource _ _ _ _ c.in_ok-rest.ensures.found

pub returns-in_err-rest-2-clause-none : goal.returns-in_err-rest-2-clause-none
returns-in_err-rest-2-clause-none g c =
    let p = err_from_is_err_and c.from_residual-in_err-rest-2.result c.from_residual-in_err-rest-2.ensures.1 in
    rw (p.1, p.2) (fails_then _ (λ none. not_file _ (no_file_at _ _ _ _ (told_some _ c.loop-rest-test.true c.is_empty.ensures) none c.loop-rest.invariant)) c.in_err-rest-2.ensures.none)

pub loop-rest-preserved : goal.loop-rest-preserved
loop-rest-preserved g c = next_resource _ _ _ _ _ _ c.in_ok-rest-2.ensures.found c.loop-rest.invariant

pub returns-clause-found : goal.returns-clause-found
returns-clause-found g c =
    let f = file_ends _ _ _ _ (told_none _ c.loop-rest-test.false c.is_empty.ensures) c.loop-rest.invariant in
    (f.0, is_file f.1, f.2)

pub returns-in_err-rest-clause-found : goal.returns-in_err-rest-clause-found
returns-in_err-rest-clause-found g c = no_value c.from_residual.result _ _ c.from_residual.ensures.1

pub returns-in_err-rest-2-clause-found : goal.returns-in_err-rest-2-clause-found
returns-in_err-rest-2-clause-found g c = no_value c.from_residual-in_err-rest-2.result _ _ c.from_residual-in_err-rest-2.ensures.1
