-- The fault has a number, and the place is on the line with it.
use Rattle.std.proofs.Common.{ap}
use Rattle.tell_places.specs.Places.{number_of}
use Rattle.tell_places.proofs.Spots.{line_spot_beside}
use Rattle.tell_places.proofs.texts.text_finding.Goals.{in-BadLine, in-Undeclared}
use Rattle.tell_places.proofs.texts.text_finding.Goals as goal

pub returns-clause-spot : goal.returns-clause-spot
returns-clause-spot g c =
    elim c.match-fault.branch [
      | in-BadLine w ↦ line_spot_beside c.args.text.now _ _ _ _ c.in_ok-found.field-0.spot (ap number_of w.in-BadLine.is) w.number-is c.in_ok-found.ensures
      | in-Undeclared w ↦ line_spot_beside c.args.text.now _ _ _ _ c.in_ok-found.field-0.spot (ap number_of w.in-Undeclared.is) w.number-is c.in_ok-found.ensures
    ]
