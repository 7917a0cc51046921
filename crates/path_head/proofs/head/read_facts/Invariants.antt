-- Some facts were read.
use Rattle.std.proofs.Common.{◌≡◌, length}
use Rattle.path_head.specs.HeadTexts.{facts_before, FactsFit}
use Rattle.path_head.proofs.head.read_facts.Given as goal

abbrev pub invariant-loop-rest : goal.invariant-loop-rest
invariant-loop-rest g l = record {
  read : l.text ≡ facts_before l.decl.declaration l.facts.items l.rest;
  fits : FactsFit l.decl.declaration l.facts.items;
}

abbrev pub decreases-loop-rest : goal.decreases-loop-rest
decreases-loop-rest g l = length l.rest
