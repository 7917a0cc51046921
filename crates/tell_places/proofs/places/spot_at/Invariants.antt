-- So many lines were passed, and the place is behind them.
use Rattle.std.proofs.Common.{length, min}
use Rattle.tell_places.proofs.Spots.{Passed}
use Rattle.tell_places.proofs.places.spot_at.Given as goal

abbrev pub invariant-loop-line : goal.invariant-loop-line
invariant-loop-line l = Passed l.text (min l.offset (length l.text)) l.lines l.rest l.left

abbrev pub decreases-loop-line : goal.decreases-loop-line
decreases-loop-line l = length l.rest
