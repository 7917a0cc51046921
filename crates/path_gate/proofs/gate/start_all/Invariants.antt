-- The terms that are left do what is still to be done.
use Rattle.std.proofs.Common.{◌≡◌, drop}
use Rattle.path_gate.specs.Levels.{levels_in}
use Rattle.path_gate.specs.Inner.Terms.{all_started, CanStartAll}
use Rattle.path_gate.proofs.Places.{SamePlaces}
use Rattle.path_gate.proofs.gate.start_all.Given as goal

abbrev pub invariant-loop-term : goal.invariant-loop-term
invariant-loop-term g l = record {
  started : all_started (drop l.term-index l.terms) (levels_in l.levels) ≡ all_started l.terms (levels_in l.initial.levels);
  can : CanStartAll (drop l.term-index l.terms) (levels_in l.levels);
  places : SamePlaces (levels_in l.levels) (levels_in l.initial.levels);
}
