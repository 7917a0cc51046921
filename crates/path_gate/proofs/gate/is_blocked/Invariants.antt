-- The terms that are left block the path as all do.
use Rattle.std.proofs.Common.{◌≡◌, drop}
use Rattle.path_gate.specs.Levels.{levels_in}
use Rattle.path_gate.specs.Inner.Terms.{is_blocked_at}
use Rattle.path_gate.proofs.gate.is_blocked.Given as goal

abbrev pub invariant-loop-term : goal.invariant-loop-term
invariant-loop-term g l = is_blocked_at l.path.0 (drop l.term-index l.terms) (levels_in l.levels) ≡ is_blocked_at l.path.0 l.terms (levels_in l.levels)
