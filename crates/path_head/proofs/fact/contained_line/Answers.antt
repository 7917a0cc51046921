-- A line has one resource.
use Rattle.std.proofs.Common.{rules, arith}
use Rattle.path_head.proofs.Numbers.{number_once_before}
use Rattle.path_head.proofs.Facts.{space_ends, small}
use Rattle.std.proofs.Common.{codes, sym, ◌∙◌}
use Rattle.path_head.proofs.fact.contained_line.Goals as goal

pub returns-in_err-number-clause-none : goal.returns-in_err-number-clause-none
returns-in_err-number-clause-none c =
    let found = c.in_ok-resource.ensures.some in
    rw c.from_residual-in_err-number.ensures (λ k rest fits e.
    let p = number_once_before (codes " ") c.in_ok-resource.resource k.resource.0 c.in_ok-resource.rest.now _ space_ends (search rules) (small k.resource.0 fits.0) (sym found.0 ∙ e) in
    c.in_err-number.ensures.none k.number rest (omega (arith, fits.1)) p.1)
