-- One more operation.
use Rattle.std.proofs.Common.{◌≡◌, List, ℕ, [], ◌∷◌, ◌++◌, sym, ap, ◌∙◌, append_assoc, arith}
use Rattle.std.specs.String.{string_bytes}
use Rattle.std.proofs.lemmas.List.{append-nil}
use Rattle.tell_base.specs.ReportTexts.{operation_word}
use Rattle.path_lines.proofs.CallerLemmas.{piece_more, piece_all}
use Rattle.tell_base.proofs.report.push_operations.Goals as goal

-- a word behind a space
spaced : (before between after word : List ℕ) → after ≡ between ++ word → between ≡ before ++ 32 ∷ [] → after ≡ before ++ 32 ∷ word
spaced before between after word e f = e ∙ ap (λ xs. xs ++ word) f ∙ append_assoc before (32 ∷ []) word

pub loop-op-preserved : goal.loop-op-preserved
loop-op-preserved g c =
    piece_more (operation_word c.args.decl.now.declaration) c.args.operations.now c.loop-op.op-index _ (string_bytes c.args.text.now) (string_bytes c.loop-op.text) (string_bytes c.push_operation.new.out)
    (omega arith) (spaced _ _ _ _ c.in_ok-push_operation.ensures c.in_ok-push_str.ensures.bytes) c.loop-op.invariant

pub loop-op-init : goal.loop-op-init
loop-op-init g c = sym (append-nil (string_bytes c.args.text.now))

pub returns : goal.returns
returns g c = piece_all (operation_word c.args.decl.now.declaration) c.args.operations.now c.loop-op.op-index (string_bytes c.args.text.now) _ (omega arith) c.loop-op.invariant
