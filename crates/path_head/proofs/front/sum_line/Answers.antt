-- Behind the word stands the sum.
use Rattle.std.proofs.Common.{◌++◌, ◌∷◌, sym, ap, ◌∙◌}
use Rattle.std.proofs.lemmas.List.{append_cancel_left}
use Rattle.hex.specs.Hex.{encode_lower}
use Rattle.path_head.proofs.front.sum_line.Goals as goal

pub returns-in_err-rest-2-clause-none : goal.returns-in_err-rest-2-clause-none
returns-in_err-rest-2-clause-none c =
    let digits = c.digits_of-digits.ensures ∙ ap encode_lower c.digest-sum.ensures in
    rw c.from_residual-in_err-rest-2.ensures (λ rest e. c.in_err-rest-2.ensures (10 ∷ rest) (append_cancel_left c.args.word.now _ _ (sym c.in_ok-rest.ensures ∙ e) ∙ ap (λ x. x ++ 10 ∷ rest) (sym digits)))

pub returns-in_err-rest-3-clause-none : goal.returns-in_err-rest-3-clause-none
returns-in_err-rest-3-clause-none c =
    let digits = c.digits_of-digits.ensures ∙ ap encode_lower c.digest-sum.ensures in
    rw c.from_residual-in_err-rest-3.ensures (λ rest e. c.in_err-rest-3.ensures rest
    (append_cancel_left c.digits_of-digits.result _ _ (sym c.in_ok-rest-2.ensures ∙ append_cancel_left c.args.word.now _ _ (sym c.in_ok-rest.ensures ∙ e) ∙ ap (λ x. x ++ 10 ∷ rest) (sym digits))))
