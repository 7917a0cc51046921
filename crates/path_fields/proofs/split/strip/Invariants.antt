-- The bytes that were compared are the same.
use Rattle.std.proofs.Common.{◌≡◌, take}
use Rattle.path_fields.proofs.split.strip.Given as goal

abbrev pub invariant-loop-at : goal.invariant-loop-at
invariant-loop-at l = take l.at l.text ≡ take l.at l.front
