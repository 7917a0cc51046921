-- The lines that are left.
use Rattle.std.proofs.Common.{◌≡◌, drop}
use Rattle.cmd_explore.specs.Standings as standings
use Rattle.cmd_explore.proofs.standings.standing_of.Given as goal

abbrev pub invariant-loop-line : goal.invariant-loop-line
invariant-loop-line l = standings.standing_of l.lines l.worker l.steps ≡ standings.standing_of (drop l.line-index l.lines) l.worker l.left
