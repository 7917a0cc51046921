-- A system that goes on behind a journal.
use Rattle.std.specs.Prelude.{◌≡◌, ◌<◌, ℕ, List, [], length, take, slice_get, slice_index_or, Some}
use Rattle.path_model.specs.declared.journal.Line.{Line}
use Rattle.path_model.specs.Declarations.{Declaration}
use Rattle.path_model.specs.Contents.{contents_after}
use Rattle.path_shelf.specs.States.{State, laws_of}
use Rattle.path_shelf.specs.Shelves.{declared_laws}
use Rattle.path_system.specs.Accounts.{Account, account_of, all_lines, contents_of, IsSystem}
use Rattle.path_system.specs.Faults.{IsOpenFault}
use Rattle.path_system.specs.Taken.{IsTakeFault}
use Rattle.path_system.specs.declared.fault.TakeFault.{TakeFault}
use Rattle.path_system.specs.declared.fault.ResumeFault.{ResumeFault}
use Rattle.path_system.specs.declared.fault.ResumeFault.TheVariants.{Open, Line as At}

-- the account of a system that was opened over devices in these states, after these lines
abbrev pub after_lines : Declaration → ℕ → List State → List Line → List ℕ → Account
after_lines d room states lines failures = record (account_of d room states) { journal = lines; failures = failures }

-- these are the devices of a system: they have the laws that are declared, and contain what its lines left
pub record AreDevicesOf (account : Account) (states : List State) : Type 0 where
  pub laws : laws_of states ≡ declared_laws account.declaration
  pub held :
      (r : ℕ) → r < length account.declaration.resources
      → slice_index_or (contents_of states) r [] ≡ contents_after account.declaration account.openings (all_lines account) r

-- the lines before line n were taken, line n wasn't for this reason, and these are the devices now
pub record IsStoppedAt (may_fail : Type 0) (d : Declaration) (room : ℕ) (states : List State) (lines : List Line) (n : ℕ)
    (fault : TakeFault) (left : List State) : Type 0 where
  pub line : Line
  pub at : slice_get lines n ≡ Some line
  pub failures : List ℕ
  pub right : IsSystem (after_lines d room states (take n lines) failures)
  pub next : Account
  pub wrong : IsTakeFault may_fail (after_lines d room states (take n lines) failures) line fault next
  pub devices : AreDevicesOf (after_lines d room states (take n lines) failures) left

-- why no system goes on behind these lines, and which devices come back
abbrev pub IsResumeFault : Type 0 → Declaration → ℕ → List State → List Line → ResumeFault → List State → Type 0
IsResumeFault may_fail d room states lines (Open fault) left = IsOpenFault room states d fault × (left ≡ states)
IsResumeFault may_fail d room states lines (At n fault) left = IsStoppedAt may_fail d room states lines n fault left
