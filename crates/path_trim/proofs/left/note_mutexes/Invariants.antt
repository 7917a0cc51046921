-- The mutexes so far are noted.
use Rattle.std.proofs.Common.{◌≡◌, ◌++◌, map, take}
use Rattle.path_trim.specs.declared.table.Removed.TheVariants.{Mutex}
use Rattle.path_trim.proofs.left.note_mutexes.Given as goal

abbrev pub invariant-loop-pair : goal.invariant-loop-pair
invariant-loop-pair g l = l.removed.items ≡ l.fn.removed.items ++ map (λ m. Mutex m) (take l.pair-index l.braces)
