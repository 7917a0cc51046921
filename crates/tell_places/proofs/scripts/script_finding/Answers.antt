-- The fault has a number, and the place is on the line with it.
use Rattle.tell_places.proofs.Spots.{script_spot}
use Rattle.tell_places.proofs.scripts.script_finding.Goals.{in-BadLine, in-BadLine-2, in-BadLine-3, in-BadLine-4, in-BadLine-5}
use Rattle.tell_places.proofs.scripts.script_finding.Goals as goal

pub returns-clause-spot : goal.returns-clause-spot
returns-clause-spot g c =
    elim c.match-fault.branch [
      | in-BadLine w ↦ script_spot c.args.text.now c.args.fault _ _ c.in_ok-line_finding.field-0.spot w.in-BadLine.is w.number-is c.in_ok-line_finding.ensures
      | in-BadLine-2 w ↦ script_spot c.args.text.now c.args.fault _ _ c.in_ok-line_finding.field-0.spot w.in-BadLine.is w.number-is c.in_ok-line_finding.ensures
      | in-BadLine-3 w ↦ script_spot c.args.text.now c.args.fault _ _ c.in_ok-line_finding.field-0.spot w.in-BadLine.is w.number-is c.in_ok-line_finding.ensures
      | in-BadLine-4 w ↦ script_spot c.args.text.now c.args.fault _ _ c.in_ok-line_finding.field-0.spot w.in-BadLine.is w.number-is c.in_ok-line_finding.ensures
      | in-BadLine-5 w ↦ script_spot c.args.text.now c.args.fault _ _ c.in_ok-line_finding.field-0.spot w.in-BadLine.is w.number-is c.in_ok-line_finding.ensures
    ]
