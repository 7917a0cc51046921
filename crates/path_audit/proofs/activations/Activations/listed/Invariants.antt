-- The live ones among the first.
use Rattle.std.proofs.Common.{◌≡◌, take}
use Rattle.path_audit.specs.Inner.Owners.{live_from}
use Rattle.path_audit.proofs.activations.Activations.listed.Given as goal

abbrev pub invariant-loop-n : goal.invariant-loop-n
invariant-loop-n g l = l.list.items ≡ live_from 0 (take l.n l.owner-items)
