-- The last line is the sum of those above it.
use Rattle.std.proofs.Common.{◌++◌, [], ap, ◌∙◌}
use Rattle.std.specs.String.{string_bytes}
use Rattle.sha2.specs.Sha256.{sha256}
use Rattle.path_head.specs.HeadTexts.{front_before}
use Rattle.path_head.proofs.Written.{head_written}
use Rattle.path_head.proofs.writer.write_head.Goals as goal

pub returns : goal.returns
returns g c =
    head_written c.args.decl.now.declaration c.args.print.now c.args.front.now c.args.facts.now (string_bytes c.push_front.new.out) (string_bytes c.push_facts.new.out) (string_bytes c.push_str.new.self) (string_bytes c.push_sum.new.out) c.digest-sum.result
    (c.in_ok-push_front.ensures ∙ ap (λ x. x ++ front_before c.args.print.now c.args.front.now []) c.new-text.ensures.bytes)
    c.in_ok-push_facts.ensures c.in_ok-push_str.ensures.bytes c.in_ok-push_sum.ensures (c.digest-sum.ensures ∙ ap sha256 c.as_bytes.ensures.value)
