-- The first wrong line comes first.
use Rattle.std.proofs.Common.{subst, ◌∙◌}
use Rattle.std.specs.Prelude.{is_some}
use Rattle.std.specs.String.{string_bytes}
use Rattle.cmd_explain.specs.Judgements.{Begins, owed_lines}
use Rattle.cmd_explain.proofs.Judging.{begins_so, found_at}
use Rattle.cmd_explain.proofs.journal.unsound.Goals as goal

pub returns : goal.returns
returns g c = λ l at.
    let d = c.args.decl.now.declaration in
    let n = c.args.wrong.line in
    let owed = c.args.wrong.owed in
    let bytes = string_bytes c.push_str-2.new.self in
    subst (λ x. Begins (owed_lines d (is_some c.args.journal.now.room) n x owed) bytes) (c.index.ensures ∙ found_at c.args.journal.now.lines.items n l _ at)
    (subst (λ h. Begins (owed_lines d h n c.index.result.now owed) bytes) c.is_some.ensures
    (begins_so _ _ _ _ _ _ _ c.new-text.ensures.bytes c.in_ok-push_owed.ensures c.in_ok-push_str.ensures.bytes c.in_ok-push_str-2.ensures.bytes))
