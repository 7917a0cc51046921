-- Why a follow stops before the end of its input, and how it ends.
use Rattle.tell_base.specs.declared.status.Status.{Status}
use Rattle.tell_base.specs.declared.status.Status.TheVariants as statuses
use Rattle.cmd_follow.specs.declared.stop.Stop.{Stop}
use Rattle.cmd_follow.specs.declared.stop.Stop.TheVariants as stops

-- a block can't be read
abbrev pub IsReading : Stop → Type 0
IsReading stops.Unreadable = Unit {0}
IsReading stops.OutOfMemory = Unit {0}
IsReading stop = ⊥

-- an answer can't be written, or a refused line can't be told
abbrev pub IsWriting : Stop → Type 0
IsWriting stops.Quiet = Unit {0}
IsWriting stops.Output = Unit {0}
IsWriting stop = ⊥

-- what holds of all that was written, unless a write failed
abbrev pub UnlessWriting : Stop → Type 0 → Type 0
UnlessWriting stops.Quiet P = Unit {0}
UnlessWriting stops.Output P = Unit {0}
UnlessWriting stop P = P

-- the status of a follow that stopped
abbrev pub stop_status : Stop → Status
stop_status stops.OutOfMemory = statuses.NoMemory
stop_status stop = statuses.StreamFailed

-- how a follow ends whose system was opened
abbrev pub IsEnding : Status → Type 0
IsEnding statuses.Done = Unit {0}
IsEnding statuses.TextRefused = Unit {0}
IsEnding statuses.StreamFailed = Unit {0}
IsEnding statuses.NoMemory = Unit {0}
IsEnding status = ⊥
