-- The lines so far, and those of the marks that are left.
use Rattle.std.proofs.Common.{◌≡◌, ◌++◌, drop}
use Rattle.std.specs.String.{string_bytes}
use Rattle.cmd_explore.specs.Reaches.{never_lines}
use Rattle.cmd_explore.proofs.words.never_text.Given as goal

abbrev pub invariant-loop-number : goal.invariant-loop-number
invariant-loop-number g l = string_bytes l.text ++ never_lines l.decl.declaration l.number (drop l.number l.begins) ≡ never_lines l.decl.declaration 0 l.begins
