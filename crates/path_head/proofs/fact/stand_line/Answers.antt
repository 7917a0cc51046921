-- A line has one number, and one place.
use Rattle.std.proofs.Common.{codes, sym, ◌∙◌, rules, arith}
use Rattle.path_head.proofs.Numbers.{number_once_before}
use Rattle.path_head.proofs.Facts.{at_ends, path_ends, small}
use Rattle.path_head.proofs.fact.stand_line.Goals as goal

pub returns-in_err-place-clause-none : goal.returns-in_err-place-clause-none
returns-in_err-place-clause-none c =
    let found = c.in_ok-number.ensures.some in
    rw c.from_residual-in_err-place.ensures (λ s rest fits e.
    let p = number_once_before (codes " at ") c.in_ok-number.number s.number c.in_ok-number.rest.now _ at_ends (search rules) fits.0 (sym found.0 ∙ e) in
    c.in_err-place.ensures.none s.place _ (omega (arith, fits.1)) p.1)

pub returns-in_err-path-clause-none : goal.returns-in_err-path-clause-none
returns-in_err-path-clause-none c =
    let found = c.in_ok-number.ensures.some in
    let next = c.in_ok-place.ensures.some in
    rw c.from_residual-in_err-path.ensures (λ s rest fits e.
    let p = number_once_before (codes " at ") c.in_ok-number.number s.number c.in_ok-number.rest.now _ at_ends (search rules) fits.0 (sym found.0 ∙ e) in
    let q = number_once_before (codes " of path ") c.in_ok-place.place s.place c.in_ok-place.rest.now _ path_ends (search rules) (small s.place fits.1) (sym next.0 ∙ p.1) in
    c.in_err-path.ensures.none s.path.0 rest (omega (arith, fits.2)) q.1)
