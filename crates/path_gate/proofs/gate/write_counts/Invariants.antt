-- What is written so far.
use Rattle.std.proofs.Common.{◌≡◌, ℕ, ◌<◌, ◌≤◌, length, get_or}
use Rattle.path_gate.proofs.gate.write_counts.Given as goal

abbrev pub invariant-loop-i : goal.invariant-loop-i
invariant-loop-i l = record {
  length : length l.places ≡ length l.initial.places;
  written : (k : ℕ) → k < l.i → get_or l.places k 0 ≡ get_or l.counts k 0;
  others : (k : ℕ) → l.i ≤ k → get_or l.places k 0 ≡ get_or l.initial.places k 0;
}
