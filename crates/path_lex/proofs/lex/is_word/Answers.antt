use Rattle.std.proofs.Common.{length, sym, subst}
use Rattle.std.specs.Prelude.{IsTrue, nat_eq}
use Rattle.path_lex.specs.Names.{IsWordText}
use Rattle.path_lex.proofs.Cut.{is_word_text}
use Rattle.path_lex.proofs.lex.is_word.Goals as goal

pub returns-in-Letter : goal.returns-in-Letter
returns-in-Letter c =
    subst (λ t. (IsTrue (nat_eq c.word_part.result (length c.in-Some.rest.now)) → IsWordText t) × (IsWordText t → IsTrue (nat_eq c.word_part.result (length c.in-Some.rest.now)))) (sym c.in-Some.ensures.cases.0)
    (is_word_text _ _ _ (sym c.in-Letter.ensures) c.word_part.ensures.part)
