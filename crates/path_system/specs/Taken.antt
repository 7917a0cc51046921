-- What a system, or a controller, does with a line that another answered.
use Rattle.std.specs.Prelude.{◌≡◌, ◌≢◌, ℕ, List, [], ◌∷◌, ◌++◌}
use Rattle.path_model.specs.declared.journal.Line.{Line}
use Rattle.path_model.specs.declared.journal.Reply.{Reply}
use Rattle.path_model.specs.declared.journal.Reply.TheVariants as replies
use Rattle.path_model.specs.Asked.{resource_asked}
use Rattle.path_model.specs.Segments.{OwedBehind}
use Rattle.path_system.specs.Accounts.{Account, StayBut}
use Rattle.path_system.specs.Before.{BehindEach, earlier_behind, lines_behind}
use Rattle.path_system.specs.declared.fault.TakeFault.{TakeFault}
use Rattle.path_system.specs.declared.fault.TakeFault.TheVariants.{NotOwed, DeviceFailed}

-- the account with one line more, and other counts of failures
abbrev pub with_taken : Account → Line → List ℕ → Account
with_taken account line failures = record account { journal = account.journal ++ line ∷ []; failures = failures }

-- behind these lines and opening contents
module _ (openings : List (List ℕ)) (before : List Line) where
  -- the reply of the line is owed to its attempt by all lines so far, and it isn't NoRoom
  pub record IsNextAt (account : Account) (line : Line) : Type 0 where
    pub owed :
        OwedBehind account.declaration account.room openings (earlier_behind before account) account.journal line.worker line.attempt
        line.reply
    pub roomy : line.reply ≢ replies.NoRoom

  -- no count of failures changes, except perhaps that of the device that the line asks
  abbrev pub StayButAskedAt : Account → Line → Account → Type 0
  StayButAskedAt old line new =
      StayBut (resource_asked old.declaration (lines_behind before old) line.attempt line.reply) old.failures new.failures

  -- the line is the next, and the journal gains it
  pub record IsTakenAt (old : Account) (line : Line) (new : Account) : Type 0 where
    pub next : IsNextAt old line
    pub written : new ≡ with_taken old line new.failures
    pub failures : StayButAskedAt old line new

  -- another reply is owed, unless a device failed, and nothing changes
  pub record IsNotOwedAt (old : Account) (line : Line) (reply : Reply) (new : Account) : Type 0 where
    pub other : IsNextAt old line → ⊥
    pub owed :
        OwedBehind old.declaration old.room openings (earlier_behind before old) old.journal line.worker line.attempt reply
    pub served : reply ≢ replies.DeviceFailed
    pub kept : new ≡ old

  -- the line is the next, but its device failed now, and nothing changes but its count of failures
  pub record HasFailedAt (may_fail : Type 0) (old : Account) (line : Line) (new : Account) : Type 0 where
    pub next : IsNextAt old line
    pub may : may_fail
    pub kept : new ≡ record old { failures = new.failures }
    pub failures : StayButAskedAt old line new

  -- why the line isn't taken, and what is left
  abbrev pub IsTakeFaultAt : Type 0 → Account → Line → TakeFault → Account → Type 0
  IsTakeFaultAt may_fail old line (NotOwed reply) new = IsNotOwedAt old line reply new
  IsTakeFaultAt may_fail old line DeviceFailed new = HasFailedAt may_fail old line new

-- where there are no lines before: so a system takes a line, or doesn't
abbrev pub IsNext : Account → Line → Type 0
IsNext account line = IsNextAt account.openings [] account line

abbrev pub IsTaken : Account → Line → Account → Type 0
IsTaken old line new = IsTakenAt old.openings [] old line new

abbrev pub IsNotOwed : Account → Line → Reply → Account → Type 0
IsNotOwed old line reply new = IsNotOwedAt old.openings [] old line reply new

abbrev pub IsTakeFault : Type 0 → Account → Line → TakeFault → Account → Type 0
IsTakeFault may_fail old line fault new = IsTakeFaultAt old.openings [] may_fail old line fault new

-- a controller takes the line, and only its journal and counts of failures change
pub record IsTakenBehind (old : Account) (line : Line) (new : Account) : Type 0 where
  pub kept : new ≡ record old { journal = new.journal; failures = new.failures }
  pub each : BehindEach old (λ openings before. IsTakenAt openings before old line new)

-- what a fault leaves: nothing changes, except for a device that failed the counts of failures
abbrev pub IsKeptAt : Type 0 → Account → TakeFault → Account → Type 0
IsKeptAt may_fail old (NotOwed reply) new = (reply ≢ replies.DeviceFailed) × (new ≡ old)
IsKeptAt may_fail old DeviceFailed new = may_fail × (new ≡ record old { failures = new.failures })

-- a controller doesn't
pub record IsTakeFaultBehind (may_fail : Type 0) (old : Account) (line : Line) (fault : TakeFault) (new : Account) : Type 0 where
  pub kept : IsKeptAt may_fail old fault new
  pub each : BehindEach old (λ openings before. IsTakeFaultAt openings before may_fail old line fault new)
