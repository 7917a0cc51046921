use Rattle.path_read.specs.Inner.Reading.{told}
use Rattle.path_read.proofs.Unit.{plain_closing, bound_closing, neither, no_number}
use Rattle.path_read.proofs.Following.{handed_on, no_value}
use Rattle.path_read.proofs.grammar.closing.Goals as goal

pub returns-in_err-digits-clause-found : goal.returns-in_err-digits-clause-found
returns-in_err-digits-clause-found g c = no_value c.from_residual.result _ _ c.from_residual.ensures.1

pub returns-in_err-digits-clause-shorter : goal.returns-in_err-digits-clause-shorter
returns-in_err-digits-clause-shorter g c = no_value c.from_residual.result _ _ c.from_residual.ensures.1

pub returns-in_err-digits-clause-none : goal.returns-in_err-digits-clause-none
returns-in_err-digits-clause-none g c = handed_on c.from_residual.result _ _ _ c.from_residual.ensures.1 (no_number (told c.args.tokens.now) (told c.in-Some.bounded.now) c.in-Some.ensures.some) c.in_err-digits.ensures.err

pub returns-in-Some-clause-found : goal.returns-in-Some-clause-found
returns-in-Some-clause-found g c = bound_closing _ _ _ _ _ _ _ c.in-Some.ensures.some c.in_ok-digits.ensures.ok c.in-Some-after_sign.ensures.some c.take.ensures

pub returns-in_default-after_sign-2-clause-none : goal.returns-in_default-after_sign-2-clause-none
returns-in_default-after_sign-2-clause-none g c = neither _ c.in_default.ensures.none c.in_default-after_sign-2.ensures.none

pub returns-clause-found : goal.returns-clause-found
returns-clause-found g c = plain_closing _ _ _ _ c.in-Some-after_sign-2.ensures.some c.take-2.ensures
