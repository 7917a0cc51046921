-- The semaphores that are left are still to be written.
use Rattle.std.proofs.Common.{◌≡◌, drop}
use Rattle.path_gate.specs.Inner.Initial.{put_all}
use Rattle.path_gate.proofs.gate.table.put_semaphores.Given as goal

abbrev pub invariant-loop-semaphore : goal.invariant-loop-semaphore
invariant-loop-semaphore g l = put_all (drop l.semaphore-index l.semaphores) l.values.items ≡ put_all l.semaphores l.initial.values.items
