-- There are as many numbers as were looked at.
use Rattle.std.proofs.Common.{◌≤◌, length}
use Rattle.path_shelf.specs.States.{state_at}
use Rattle.path_system.proofs.foretold.count_of.Given as goal

abbrev pub invariant-loop-place : goal.invariant-loop-place
invariant-loop-place g l = l.place ≤ length (state_at l.shelf l.resource.0).contents
