-- The lines so far.
use Rattle.std.proofs.Common.{◌≡◌, take}
use Rattle.std.specs.String.{string_bytes}
use Rattle.cmd_explore.specs.Standings.{standings_text}
use Rattle.cmd_explore.proofs.standings.standings_text.Given as goal

abbrev pub invariant-loop-number : goal.invariant-loop-number
invariant-loop-number g l = string_bytes l.text ≡ standings_text l.decl.declaration l.lines 0 (take l.number l.processes)
