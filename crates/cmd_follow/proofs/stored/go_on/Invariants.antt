-- The lines so far were taken.
use Rattle.std.proofs.Common.{◌≡◌, ◌++◌, take}
use Rattle.cmd_follow.specs.Inner.Taken.{GoesOn}
use Rattle.cmd_follow.proofs.stored.go_on.Given as goal

abbrev pub invariant-loop-n : goal.invariant-loop-n
invariant-loop-n g l = record {
  goes : GoesOn l.initial.system l.system;
  journal : l.system.journal ≡ l.initial.system.journal ++ take l.n l.lines;
}
