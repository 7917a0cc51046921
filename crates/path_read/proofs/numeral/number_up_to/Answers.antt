use Rattle.std.proofs.Common.{rules, arith}
use Rattle.path_read.proofs.NumeralLemmas.{whole_number, no_whole_number, is_up_to, nothing_left, something_left}
use Rattle.path_read.proofs.numeral.number_up_to.Goals.{then-not-is_empty-via-then-not-is_empty, then-not-is_empty-via-else-not-is_empty+then-value-eq0, then-not-is_empty-via-else-not-is_empty+else-value-eq0+then-value-from}
use Rattle.path_read.proofs.numeral.number_up_to.Goals as goal

pub returns-in_err-value-clause-none : goal.returns-in_err-value-clause-none
returns-in_err-value-clause-none c = rw c.from_residual.ensures (no_whole_number c.args.most c.args.digits.now c.ranges.most.fits c.in_err-value.ensures.none)

pub returns-then-not-is_empty-clause-none : goal.returns-then-not-is_empty-clause-none
returns-then-not-is_empty-clause-none c = λ u.
    let p = whole_number c.args.most c.args.digits.now c.in_ok-value.value c.in_ok-value.rest.now c.ranges.most.fits (search rules) c.in_ok-value.ensures.some c.in_ok-value.ensures.end u in
    elim c.then-not-is_empty.branch [
      | then-not-is_empty-via-then-not-is_empty w ↦ something_left c.in_ok-value.rest.now w.if-not-is_empty.true c.is_empty.ensures p.1
      | then-not-is_empty-via-else-not-is_empty+then-value-eq0 w ↦ omega (arith, u.positive, p.0, w.if-value-eq0.true)
      | then-not-is_empty-via-else-not-is_empty+else-value-eq0+then-value-from w ↦ omega (arith, u.within, p.0, w.if-value-from.true, w.from.ensures)
    ]

pub returns-clause-some : goal.returns-clause-some
returns-clause-some c = is_up_to c.args.most c.args.digits.now c.in_ok-value.value c.in_ok-value.rest.now c.ranges.most.fits c.in_ok-value.ensures.some (nothing_left c.in_ok-value.rest.now c.if-not-is_empty.false c.is_empty.ensures) (omega (arith, c.if-value-eq0.false)) (omega (arith, c.if-value-from.false, c.from.ensures))
