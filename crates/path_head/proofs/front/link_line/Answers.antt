-- A line has a link or none.
use Rattle.std.proofs.Common.{◌++◌, ◌∷◌, codes, sym, ◌∙◌}
use Rattle.std.proofs.lemmas.List.{append_cancel_left}
use Rattle.path_head.proofs.Fronts.{unlinked, linked, declared_after}
use Rattle.path_head.proofs.front.link_line.Goals as goal

pub returns-in_err-rest-2-clause-none : goal.returns-in_err-rest-2-clause-none
returns-in_err-rest-2-clause-none c =
    let sum = c.in-Some.ensures.some in
    rw c.from_residual-in_err-rest-2.ensures (λ link rest h e. c.in_err-rest-2.ensures rest
    (linked c.in_ok-rest.rest.now c.args.print.now c.in-Some.sum.0 c.in-Some.rest.now link rest sum.1 sum.2 h sum.0 (append_cancel_left (codes "link ") _ _ (sym c.in_ok-rest.ensures ∙ e))))

pub returns-in_err-rest-3-clause-none : goal.returns-in_err-rest-3-clause-none
returns-in_err-rest-3-clause-none c =
    rw c.from_residual-in_err-rest-3.ensures (λ link rest h e. c.in_err-rest-3.ensures (c.args.print.now ++ 10 ∷ rest)
    (unlinked c.in_ok-rest.rest.now c.args.print.now link rest h c.in_default.ensures.none (append_cancel_left (codes "link ") _ _ (sym c.in_ok-rest.ensures ∙ e))))

pub returns-in_err-rest-4-clause-none : goal.returns-in_err-rest-4-clause-none
returns-in_err-rest-4-clause-none c =
    rw c.from_residual-in_err-rest-4.ensures (λ link rest h e. c.in_err-rest-4.ensures (10 ∷ rest)
    (declared_after c.in_ok-rest.rest.now c.args.print.now c.in_ok-rest-3.rest.now link rest h c.in_default.ensures.none c.in_ok-rest-3.ensures (append_cancel_left (codes "link ") _ _ (sym c.in_ok-rest.ensures ∙ e))))

pub returns-in_err-rest-5-clause-none : goal.returns-in_err-rest-5-clause-none
returns-in_err-rest-5-clause-none c =
    rw c.from_residual-in_err-rest-5.ensures (λ link rest h e. c.in_err-rest-5.ensures rest
    (append_cancel_left c.args.print.now _ _ (sym c.in_ok-rest-4.ensures
    ∙ declared_after c.in_ok-rest.rest.now c.args.print.now c.in_ok-rest-3.rest.now link rest h c.in_default.ensures.none c.in_ok-rest-3.ensures (append_cancel_left (codes "link ") _ _ (sym c.in_ok-rest.ensures ∙ e)))))
