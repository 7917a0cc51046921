-- The terms that are left do what is still to be done.
use Rattle.std.proofs.Common.{◌≡◌, drop}
use Rattle.path_gate.specs.Levels.{levels_in}
use Rattle.path_gate.specs.Inner.Terms.{all_finished, CanFinishAll}
use Rattle.path_gate.proofs.Places.{SamePlaces}
use Rattle.path_gate.proofs.gate.finish_all.Given as goal

abbrev pub invariant-loop-term : goal.invariant-loop-term
invariant-loop-term g l = record {
  finished : all_finished (drop l.term-index l.terms) (levels_in l.levels) ≡ all_finished l.terms (levels_in l.initial.levels);
  can : CanFinishAll (drop l.term-index l.terms) (levels_in l.levels);
  places : SamePlaces (levels_in l.levels) (levels_in l.initial.levels);
}
