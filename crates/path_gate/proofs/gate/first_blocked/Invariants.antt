-- The terms that are left block as all do.
use Rattle.std.proofs.Common.{◌≡◌, drop}
use Rattle.path_gate.specs.Levels.{levels_in}
use Rattle.path_gate.specs.Inner.Terms.{blocking}
use Rattle.path_gate.proofs.gate.first_blocked.Given as goal

abbrev pub invariant-loop-term : goal.invariant-loop-term
invariant-loop-term g l = blocking (drop l.term-index l.terms) (levels_in l.levels) ≡ blocking l.terms (levels_in l.levels)
