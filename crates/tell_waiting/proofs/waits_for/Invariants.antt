-- What the worker waits for behind the first lines.
use Rattle.std.proofs.Common.{take}
use Rattle.std.specs.Prelude.{IfNone, IfSome}
use Rattle.path_model.specs.declared.ids.OpId.{OpId}
use Rattle.tell_waiting.specs.Waiting.{WaitsFor}
use Rattle.tell_waiting.proofs.waits_for.Given as goal

abbrev pub invariant-loop-line : goal.invariant-loop-line
invariant-loop-line l =
    IfSome l.waits (λ a. WaitsFor l.worker a (take l.line-index l.lines))
    × IfNone l.waits ((a : OpId) → WaitsFor l.worker a (take l.line-index l.lines) → ⊥)
