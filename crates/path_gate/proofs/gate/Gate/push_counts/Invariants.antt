-- The counts so far, and room for the others.
use Rattle.std.proofs.Common.{◌≡◌, ◌+◌, ◌-◌, ◌≤◌, ◌++◌, List, ℕ, vec_len, vec_capacity}
use Rattle.path_gate.specs.Standings.{AreCounts}
use Rattle.path_gate.proofs.gate.Gate.push_counts.Given as goal

abbrev pub invariant-loop-number : goal.invariant-loop-number
invariant-loop-number g l = record {
  counted : (counts : List ℕ) × (l.row.items ≡ l.initial.row.items ++ counts) × AreCounts l.self l.number counts;
  room : vec_len l.row + (l.operations - l.number) ≤ vec_capacity l.row;
}
