-- The operation has the name that was compared.
use Rattle.std.proofs.Common.{◌≡◌, [], sym, ◌∙◌, Some, rules, arith}
use Rattle.path_lines.proofs.FrontLemmas.{same_bytes}
use Rattle.path_lines.proofs.NameLemmas.{named_text}
use Rattle.path_lines.proofs.quick.Recent.find.Goals as goal

pub returns : goal.returns
returns g c =
    let same : c.args.name.now ≡ c.in_ok-known.known.now = sym (same_bytes c.as_bytes.result.now c.args.name.now c.if-ne.ensures) ∙ c.as_bytes.ensures.value in
    (named_text c.args.decl.now.declaration (record { 0 = _ }) [] c.args.name.now (Some c.in_ok-known.known.now) c.in_ok-known.ensures same, search rules)
