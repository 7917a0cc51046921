-- The lines so far.
use Rattle.std.proofs.Common.{◌≡◌, take}
use Rattle.std.specs.String.{string_bytes}
use Rattle.cmd_run.specs.Ends.{ends_text}
use Rattle.cmd_run.proofs.ends.ends_text.Given as goal

abbrev pub invariant-loop-number : goal.invariant-loop-number
invariant-loop-number g l = string_bytes l.text ≡ ends_text l.decl.declaration (take l.number l.processes) (take l.number l.ends)
