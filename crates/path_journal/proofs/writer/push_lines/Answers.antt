-- One line more.
use Rattle.std.proofs.Common.{arith, List, ℕ, [], ◌∷◌, ◌++◌, ap, ◌∙◌, append_assoc}
use Rattle.path_journal.specs.JournalTexts.{journal_line}
use Rattle.path_lines.proofs.CallerLemmas.{piece_more}
use Rattle.path_journal.proofs.writer.push_lines.Goals as goal

pub loop-line-preserved : goal.loop-line-preserved
loop-line-preserved g c =
    piece_more (journal_line c.args.decl.now.declaration) c.args.lines.now c.loop-line.line-index _ _ _ _ (omega arith)
    (c.in_ok-push_str.ensures.bytes ∙ ap (λ (xs : List ℕ). xs ++ 10 ∷ []) c.in_ok-push_line.ensures ∙ append_assoc _ _ (10 ∷ [])) c.loop-line.invariant
