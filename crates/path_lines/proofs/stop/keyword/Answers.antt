-- What goes on with a longer word has no space behind the word, and no end of the line.
use Rattle.std.proofs.Common.{sym, ◌∙◌, subst}
use Rattle.std.proofs.lemmas.List.{append_cancel_left}
use Rattle.path_fields.specs.Splits.{EndsAt}
use Rattle.path_lines.proofs.stop.keyword.Goals as goal

pub returns-then-begins_word-clause-spaced : goal.returns-then-begins_word-clause-spaced
returns-then-begins_word-clause-spaced c = λ rest e.
    c.if-begins_word.ensures.spaced rest (append_cancel_left c.args.front.now _ _ (sym c.in_ok-rest.ensures ∙ e))

pub returns-then-begins_word-clause-ended : goal.returns-then-begins_word-clause-ended
returns-then-begins_word-clause-ended c = λ rest end e.
    c.if-begins_word.ensures.ended (subst (EndsAt 10) (sym (append_cancel_left c.args.front.now _ _ (sym c.in_ok-rest.ensures ∙ e))) end)
