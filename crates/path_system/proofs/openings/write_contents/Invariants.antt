-- The row has the numbers so far, and its places.
use Rattle.std.proofs.Common.{◌≡◌, ◌≤◌, length, take, vec_capacity}
use Rattle.path_shelf.specs.States.{state_at}
use Rattle.path_system.proofs.openings.write_contents.Given as goal

abbrev pub invariant-loop-place : goal.invariant-loop-place
invariant-loop-place g l = record {
  numbers : l.row.items ≡ take l.place (state_at l.shelf l.resource.0).contents;
  within : l.place ≤ length (state_at l.shelf l.resource.0).contents;
  places : vec_capacity l.row ≡ vec_capacity l.fn.row;
}
