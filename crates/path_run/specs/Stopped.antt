-- Who stops a process.
use Rattle.std.specs.Prelude.{ℕ, ◌<◌}
use Rattle.path_run.specs.declared.outcome.End.{End}
use Rattle.path_run.specs.declared.outcome.End.TheVariants as ends

-- a process of this number with so many steps that ended as stopped has a step that this turnstile may refuse it
abbrev pub IsStoppedBy : (ℕ → ℕ → Type 0) → ℕ → ℕ → End → Type 0
IsStoppedBy may_stop worker steps ends.Stopped = (step : ℕ) × (step < steps) × may_stop worker step
IsStoppedBy may_stop worker steps end = Unit {0}

-- a step alone stops no process
abbrev pub IsUnstopped : End → Type 0
IsUnstopped ends.Stopped = ⊥
IsUnstopped end = Unit {0}
