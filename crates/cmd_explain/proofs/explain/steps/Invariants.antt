-- The first attempts are explained.
use Rattle.std.proofs.Common.{take}
use Rattle.std.specs.String.{string_bytes}
use Rattle.path_shelf.specs.States.{MayFail}
use Rattle.cmd_explain.proofs.Explaining.{SoFar}
use Rattle.cmd_explain.proofs.explain.steps.Given as goal

abbrev pub invariant-loop-i : goal.invariant-loop-i
invariant-loop-i g l = SoFar (MayFail g.D.Device.state) l.initial.system l.system (take l.i l.entries) (string_bytes l.told.text)
