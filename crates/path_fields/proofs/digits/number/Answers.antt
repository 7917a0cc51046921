-- The digits read so far and the number that they spell.
use Rattle.std.proofs.Common.{◌≡◌, ◌+◌, ◌-◌, ◌++◌, decimal, length, get_or, take, ◌∙◌, ◌<◌, arith, sym, ap, subst, drop}
use Rattle.std.proofs.lemmas.Grind.{common_steps}
use Rattle.path_fields.specs.Splits.{HasNoDigitNext}
use Rattle.path_fields.proofs.Numbers.{too_large, reads_more, reads_all, leading_zero, empty_number}
use Rattle.path_fields.proofs.digits.number.Goals as goal
use Rattle.path_fields.proofs.digits.number.Goals.{else-at-gt1-via-then-at-gt1+else-text-eq48, else-at-gt1-via-else-at-gt1}

pub returns-in_err-checked_mul-clause-none : goal.returns-in_err-checked_mul-clause-none
returns-in_err-checked_mul-clause-none c =
    let is = c.loop-digit-test.ensures.yes in
    let shows : get_or c.args.text.now c.loop-digit.at 0 ≡ 48 + (get_or c.args.text.now c.loop-digit.at 0 - 48) = let low = is.1.0 in omega (arith, low) in
    rw c.from_residual.ensures (λ n rest fits end e.
    too_large c.args.text.now c.loop-digit.at c.loop-digit.value (get_or c.args.text.now c.loop-digit.at 0 - 48) n rest c.loop-digit.invariant is.0 is.1 shows (omega arith) fits end e)

pub returns-in_err-value-clause-none : goal.returns-in_err-value-clause-none
returns-in_err-value-clause-none c =
    let is = c.loop-digit-test.ensures.yes in
    let shows : get_or c.args.text.now c.loop-digit.at 0 ≡ 48 + (get_or c.args.text.now c.loop-digit.at 0 - 48) = let low = is.1.0 in omega (arith, low) in
    rw c.from_residual-in_err-value.ensures (λ n rest fits end e.
    too_large c.args.text.now c.loop-digit.at c.loop-digit.value (get_or c.args.text.now c.loop-digit.at 0 - 48) n rest c.loop-digit.invariant is.0 is.1 shows (omega arith) fits end e)

pub loop-digit-preserved : goal.loop-digit-preserved
loop-digit-preserved c =
    let is = c.loop-digit-test.ensures.yes in
    let shows : get_or c.args.text.now c.loop-digit.at 0 ≡ 48 + (get_or c.args.text.now c.loop-digit.at 0 - 48) = let low = is.1.0 in omega (arith, low) in
    reads_more c.args.text.now c.loop-digit.at c.loop-digit.value _ (get_or c.args.text.now c.loop-digit.at 0 - 48) is.0 is.1 shows (omega arith) (omega arith) c.loop-digit.invariant

pub returns-then-at-eq0-clause-none : goal.returns-then-at-eq0-clause-none
returns-then-at-eq0-clause-none c = λ n rest fits end e.
    let stop : HasNoDigitNext (drop 0 c.args.text.now) = subst (λ k. HasNoDigitNext (drop k c.args.text.now)) c.if-at-eq0.true c.loop-digit-test.ensures.no in
    empty_number c.args.text.now n rest stop fits end e

pub returns-then-text-eq48-clause-none : goal.returns-then-text-eq48-clause-none
returns-then-text-eq48-clause-none c = λ n rest fits end e.
    leading_zero c.args.text.now c.loop-digit.at c.loop-digit.value n rest c.loop-digit.invariant c.loop-digit-test.ensures.no c.if-at-gt1.true c.if-text-eq48.true fits end e

pub returns-clause-some : goal.returns-clause-some
returns-clause-some c =
    let first : 1 < c.loop-digit.at → get_or c.args.text.now 0 0 ≡ 48 → ⊥ = λ long zero. elim c.else-at-gt1.branch [ else-at-gt1-via-then-at-gt1+else-text-eq48 w ↦ w.if-text-eq48.false zero | else-at-gt1-via-else-at-gt1 w ↦ let few = w.if-at-gt1.false in omega (arith, few, long) ] in
    let some : 0 < c.loop-digit.at = let k = c.if-at-eq0.false in omega (arith, k) in
    let whole : take (length c.args.text.now - c.loop-digit.at) (drop c.loop-digit.at c.args.text.now) ≡ drop c.loop-digit.at c.args.text.now = grind (arith, common_steps) in
    reads_all c.args.text.now c.loop-digit.at c.loop-digit.value c.loop-digit.invariant some first ∙ ap (λ rest. decimal c.loop-digit.value ++ rest) (sym whole)
