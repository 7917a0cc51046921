use Rattle.std.proofs.lemmas.Result.{err_from_is_err_and}
use Rattle.path_read.proofs.Following.{fails_then, no_value}
use Rattle.path_read.proofs.Lists.{no_word, no_name_after, named, no_law, no_operation, no_body, no_end, is_resource, ok_then, err_then}
use Rattle.path_read.proofs.outline.resource.Goals as goal

pub returns-in_err-named-clause-none : goal.returns-in_err-named-clause-none
returns-in_err-named-clause-none g c =
    let p = err_from_is_err_and c.from_residual.result c.from_residual.ensures.1 in
    rw (p.1, p.2) (fails_then _ (λ none. no_word _ none) c.in_err-named.ensures.err)

pub returns-in_err-name-clause-none : goal.returns-in_err-name-clause-none
returns-in_err-name-clause-none g c =
    let p = err_from_is_err_and c.from_residual-in_err-name.result c.from_residual-in_err-name.ensures.1 in
    rw (p.1, p.2) (fails_then _ (λ none. no_name_after _ _ c.in_ok-named.ensures.ok none) c.in_err-name.ensures.err)

pub returns-in_err-kind-clause-none : goal.returns-in_err-kind-clause-none
returns-in_err-kind-clause-none g c =
    let p = err_from_is_err_and c.from_residual-in_err-kind.result c.from_residual-in_err-kind.ensures.1 in
    rw (p.1, p.2) (fails_then _ (λ none. no_law _ _ _ (named _ _ _ _ c.in_ok-named.ensures.ok c.in_ok-name.ensures.ok) none) c.in_err-kind.ensures.none)

pub returns-in_err-inside-clause-none : goal.returns-in_err-inside-clause-none
returns-in_err-inside-clause-none g c =
    let p = err_from_is_err_and c.from_residual-in_err-inside.result c.from_residual-in_err-inside.ensures.1 in
    rw (p.1, p.2) (fails_then _ (λ none. no_operation _ _ _ _ _ _ (named _ _ _ _ c.in_ok-named.ensures.ok c.in_ok-name.ensures.ok) c.in_ok-kind.ensures.found none) c.in_err-inside.ensures.err)

pub returns-in_err-last-clause-none : goal.returns-in_err-last-clause-none
returns-in_err-last-clause-none g c =
    let p = err_from_is_err_and c.from_residual-in_err-last.result c.from_residual-in_err-last.ensures.1 in
    rw (p.1, p.2) (fails_then _ (λ none. no_body _ _ _ _ _ _ _ (named _ _ _ _ c.in_ok-named.ensures.ok c.in_ok-name.ensures.ok) c.in_ok-kind.ensures.found c.in_ok-inside.ensures.ok none) c.in_err-last.ensures.none)

pub returns-clause-found : goal.returns-clause-found
returns-clause-found g c = ok_then _ (λ rest e. is_resource _ _ _ _ _ _ _ _ _ _ _ (named _ _ _ _ c.in_ok-named.ensures.ok c.in_ok-name.ensures.ok) c.take.ensures c.in_ok-kind.ensures.found c.in_ok-inside.ensures.ok c.in_ok-last.ensures.found e) c.expect_word-3.ensures.ok

pub returns-clause-none : goal.returns-clause-none
returns-clause-none g c = err_then _ (λ e. fails_then e (λ none. no_end _ _ _ _ _ _ _ _ _ (named _ _ _ _ c.in_ok-named.ensures.ok c.in_ok-name.ensures.ok) c.in_ok-kind.ensures.found c.in_ok-inside.ensures.ok c.in_ok-last.ensures.found none)) c.expect_word-3.ensures.err

pub returns-in_err-named-clause-found : goal.returns-in_err-named-clause-found
returns-in_err-named-clause-found g c = no_value c.from_residual.result _ _ c.from_residual.ensures.1

pub returns-in_err-named-clause-shorter : goal.returns-in_err-named-clause-shorter
returns-in_err-named-clause-shorter g c = no_value c.from_residual.result _ _ c.from_residual.ensures.1

pub returns-in_err-name-clause-found : goal.returns-in_err-name-clause-found
returns-in_err-name-clause-found g c = no_value c.from_residual-in_err-name.result _ _ c.from_residual-in_err-name.ensures.1

pub returns-in_err-name-clause-shorter : goal.returns-in_err-name-clause-shorter
returns-in_err-name-clause-shorter g c = no_value c.from_residual-in_err-name.result _ _ c.from_residual-in_err-name.ensures.1

pub returns-in_err-kind-clause-found : goal.returns-in_err-kind-clause-found
returns-in_err-kind-clause-found g c = no_value c.from_residual-in_err-kind.result _ _ c.from_residual-in_err-kind.ensures.1

pub returns-in_err-kind-clause-shorter : goal.returns-in_err-kind-clause-shorter
returns-in_err-kind-clause-shorter g c = no_value c.from_residual-in_err-kind.result _ _ c.from_residual-in_err-kind.ensures.1

pub returns-in_err-inside-clause-found : goal.returns-in_err-inside-clause-found
returns-in_err-inside-clause-found g c = no_value c.from_residual-in_err-inside.result _ _ c.from_residual-in_err-inside.ensures.1

pub returns-in_err-inside-clause-shorter : goal.returns-in_err-inside-clause-shorter
returns-in_err-inside-clause-shorter g c = no_value c.from_residual-in_err-inside.result _ _ c.from_residual-in_err-inside.ensures.1

pub returns-in_err-last-clause-found : goal.returns-in_err-last-clause-found
returns-in_err-last-clause-found g c = no_value c.from_residual-in_err-last.result _ _ c.from_residual-in_err-last.ensures.1

pub returns-in_err-last-clause-shorter : goal.returns-in_err-last-clause-shorter
returns-in_err-last-clause-shorter g c = no_value c.from_residual-in_err-last.result _ _ c.from_residual-in_err-last.ensures.1
