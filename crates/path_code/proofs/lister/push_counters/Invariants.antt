-- The lines so far, and those that are left.
use Rattle.std.proofs.Common.{◌≡◌, ◌++◌, drop, map}
use Rattle.std.specs.String.{string_bytes}
use Rattle.path_code.specs.Listing.{counter_line, lines_text}
use Rattle.path_code.proofs.lister.push_counters.Given as goal

abbrev pub invariant-loop-number : goal.invariant-loop-number
invariant-loop-number g l =
    string_bytes l.out ++ lines_text (map counter_line (drop l.number-index l.counters)) ≡ string_bytes l.fn.out ++ lines_text (map counter_line l.counters)
