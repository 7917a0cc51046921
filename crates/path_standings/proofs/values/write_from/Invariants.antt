-- The numbers so far are written.
use Rattle.std.proofs.Common.{◌≡◌, ◌⊎◌, ◌+◌, ◌<◌, ◌≤◌, ℕ, length, get_or}
use Rattle.path_standings.proofs.values.write_from.Given as goal

abbrev pub invariant-loop-k : goal.invariant-loop-k
invariant-loop-k l = record {
  long : length l.values ≡ length l.fn.values;
  written : (k : ℕ) → k < l.k → l.first + k < length l.fn.values → get_or l.values (l.first + k) 0 ≡ get_or l.numbers k 0;
  others : (i : ℕ) → (i < l.first) ⊎ (l.first + length l.numbers ≤ i) → get_or l.values i 0 ≡ get_or l.fn.values i 0;
}
