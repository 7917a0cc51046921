-- The lines so far, and those that are left.
use Rattle.std.proofs.Common.{◌≡◌, ◌++◌, drop, map}
use Rattle.std.specs.String.{string_bytes}
use Rattle.path_code.specs.Listing.{semaphore_line, lines_text}
use Rattle.path_code.proofs.lister.push_semaphores.Given as goal

abbrev pub invariant-loop-number : goal.invariant-loop-number
invariant-loop-number g l =
    string_bytes l.out ++ lines_text (map semaphore_line (drop l.number-index l.semaphores)) ≡ string_bytes l.fn.out ++ lines_text (map semaphore_line l.semaphores)
