-- The lines so far.
use Rattle.std.proofs.Common.{◌≡◌, ◌++◌, take, flat_map}
use Rattle.std.specs.String.{string_bytes}
use Rattle.path_trim.specs.LeanListing.{value_text}
use Rattle.path_trim.proofs.listing.put_values.Given as goal

abbrev pub invariant-loop-value : goal.invariant-loop-value
invariant-loop-value g l = string_bytes l.out ≡ string_bytes l.fn.out ++ flat_map value_text (take l.value-index l.removed)
