-- What holds when a follow stops.
use Rattle.std.proofs.Common.{◌≡◌, sym, subst}
use Rattle.std.specs.Prelude.{IfErr}
use Rattle.std.specs.declared.result.Result.{Result}
use Rattle.std.specs.declared.result.Result.TheVariants.{Ok, Err}
use Rattle.std.specs.Result.{IsErrAnd}
use Rattle.cmd_follow.specs.declared.stop.Stop.{Stop}
use Rattle.cmd_follow.specs.declared.stop.Stop.TheVariants as stops
use Rattle.cmd_follow.specs.Stops.{IsWriting, UnlessWriting}

-- what holds anyway holds of each stop
pub unless : (stop : Stop) (P : Type 0) → P → UnlessWriting stop P
unless stops.Quiet P p = tt
unless stops.Output P p = tt
unless stops.Unreadable P p = p
unless stops.TooLong P p = p
unless stops.Unkept P p = p
unless stops.OutOfMemory P p = p

pub unless_so : (P Q : Type 0) (stop : Stop) → (P → Q) → UnlessWriting stop P → UnlessWriting stop Q
unless_so P Q stops.Quiet f p = tt
unless_so P Q stops.Output f p = tt
unless_so P Q stops.Unreadable f p = f p
unless_so P Q stops.TooLong f p = f p
unless_so P Q stops.Unkept f p = f p
unless_so P Q stops.OutOfMemory f p = f p

pub stops_with : {T : Type 0} (r : Result T Stop) (P : Stop → Type 0) → ((stop : Stop) → P stop) → IfErr r P
stops_with (Ok x) P p = tt
stops_with (Err stop) P p = p stop

-- a stop that a call ended with is returned
pub stops_as : {T : Type 0} (r : Result T Stop) (stop : Stop) (P : Stop → Type 0) → IsErrAnd r (λ s. s ≡ stop) → P stop → IfErr r P
stops_as (Ok x) stop P is p = absurd is
stops_as (Err s) stop P is p = subst P (sym is) p

-- where a write failed, nothing is said of what was written
pub unless_written : (stop : Stop) (P : Type 0) → IsWriting stop → UnlessWriting stop P
unless_written stops.Quiet P w = tt
unless_written stops.Output P w = tt
unless_written stops.Unreadable P w = absurd w
unless_written stops.TooLong P w = absurd w
unless_written stops.Unkept P w = absurd w
unless_written stops.OutOfMemory P w = absurd w
