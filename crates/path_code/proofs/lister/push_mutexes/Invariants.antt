-- The lines so far, and those that are left.
use Rattle.std.proofs.Common.{◌≡◌, ◌++◌, drop, map}
use Rattle.std.specs.String.{string_bytes}
use Rattle.path_code.specs.Listing.{mutex_line, lines_text}
use Rattle.path_code.proofs.lister.push_mutexes.Given as goal

abbrev pub invariant-loop-number : goal.invariant-loop-number
invariant-loop-number g l =
    string_bytes l.out ++ lines_text (map mutex_line (drop l.number-index l.mutexes)) ≡ string_bytes l.fn.out ++ lines_text (map mutex_line l.mutexes)
