use Rattle.std.proofs.Common.{arith}
use Rattle.std.proofs.lemmas.Result.{err_from_is_err_and}
use Rattle.path_read.specs.Inner.Reading.{told}
use Rattle.path_read.proofs.Following.{fails_then, no_value, handed_on}
use Rattle.path_read.proofs.Lists.{first_body, next_body, no_body_at, body_ends, no_first_names}
use Rattle.path_read.proofs.outline.body.Goals as goal

pub loop-at-init : goal.loop-at-init
loop-at-init g c = record { shorter = c.in_ok-rest.ensures.shorter; reached = first_body _ _ _ _ c.in_ok-rest.ensures.found }

pub returns-in_err-rest-2-clause-none : goal.returns-in_err-rest-2-clause-none
returns-in_err-rest-2-clause-none g c =
    let p = err_from_is_err_and c.from_residual-in_err-rest-2.result c.from_residual-in_err-rest-2.ensures.1 in
    rw (p.1, p.2) (fails_then _ (λ none. no_body_at _ _ _ _ _ c.in-Some.ensures.some none c.loop-at.invariant.reached) c.in_err-rest-2.ensures.none)

pub loop-at-preserved : goal.loop-at-preserved
loop-at-preserved g c = record {
  shorter = omega (arith, c.in_ok-rest-2.ensures.shorter, c.in-Some.ensures.shorter, c.loop-at.invariant.shorter);
  reached = next_body _ _ _ _ _ _ _ _ c.in-Some.ensures.some c.take.ensures c.in_ok-rest-2.ensures.found c.loop-at.invariant.reached;
}

pub returns-clause-found : goal.returns-clause-found
returns-clause-found g c = body_ends _ _ _ _ c.in_default.ensures.none c.loop-at.invariant.reached

pub returns-in_err-rest-clause-found : goal.returns-in_err-rest-clause-found
returns-in_err-rest-clause-found g c = no_value c.from_residual.result _ _ c.from_residual.ensures.1

pub returns-in_err-rest-clause-shorter : goal.returns-in_err-rest-clause-shorter
returns-in_err-rest-clause-shorter g c = no_value c.from_residual.result _ _ c.from_residual.ensures.1

pub returns-in_err-rest-2-clause-found : goal.returns-in_err-rest-2-clause-found
returns-in_err-rest-2-clause-found g c = no_value c.from_residual-in_err-rest-2.result _ _ c.from_residual-in_err-rest-2.ensures.1

pub returns-in_err-rest-2-clause-shorter : goal.returns-in_err-rest-2-clause-shorter
returns-in_err-rest-2-clause-shorter g c = no_value c.from_residual-in_err-rest-2.result _ _ c.from_residual-in_err-rest-2.ensures.1

pub returns-in_err-rest-clause-none : goal.returns-in_err-rest-clause-none
returns-in_err-rest-clause-none g c = handed_on c.from_residual.result _ _ _ c.from_residual.ensures.1 (no_first_names (told c.args.tokens.now)) c.in_err-rest.ensures.none
