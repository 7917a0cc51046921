-- The facts so far.
use Rattle.std.proofs.Common.{◌≡◌, ◌++◌, [], take}
use Rattle.std.specs.String.{string_bytes}
use Rattle.path_head.specs.HeadTexts.{facts_before}
use Rattle.path_head.proofs.writer.push_facts.Given as goal

abbrev pub invariant-loop-fact : goal.invariant-loop-fact
invariant-loop-fact g l = string_bytes l.out ≡ string_bytes l.fn.out ++ facts_before l.decl.declaration (take l.fact-index l.facts) []
