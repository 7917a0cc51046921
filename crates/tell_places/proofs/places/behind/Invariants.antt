-- So many lines were passed.
use Rattle.std.proofs.Common.{◌-◌, ◌≤◌}
use Rattle.tell_places.specs.Places.{IsBehind}
use Rattle.tell_places.proofs.places.behind.Given as goal

abbrev pub invariant-loop-count : goal.invariant-loop-count
invariant-loop-count l = record {
  behind : IsBehind l.text l.count l.rest;
  few : l.count ≤ l.lines;
}

abbrev pub decreases-loop-count : goal.decreases-loop-count
decreases-loop-count l = l.lines - l.count
