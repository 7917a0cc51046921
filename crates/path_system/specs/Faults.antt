-- When a system can't be opened, and when a device can't be replaced.
use Rattle.std.specs.Prelude.{◌≡◌, ◌≢◌, ℕ, List, Any}
use Rattle.path_model.specs.declared.journal.Line.{Line}
use Rattle.path_model.specs.declared.resource.Law.{Law}
use Rattle.path_model.specs.Declarations.{Declaration, resource_of, law_of}
use Rattle.path_model.specs.Journals.{live}
use Rattle.path_model.specs.Asked.{IsAsked}
use Rattle.path_model.specs.Rooms.{IsBadRoom}
use Rattle.path_shelf.specs.declared.shelf.ShelfFault.{ShelfFault}
use Rattle.path_shelf.specs.declared.shelf.ShelfFault.TheVariants as shelf
use Rattle.path_shelf.specs.States.{State}
use Rattle.path_shelf.specs.Shelves.{IsShelfFault}
use Rattle.path_system.specs.Accounts.{Account, all_lines}
use Rattle.path_system.specs.Before.{BehindEach, WasAsked, lines_behind}
use Rattle.path_system.specs.declared.fault.OpenFault.{OpenFault}
use Rattle.path_system.specs.declared.fault.OpenFault.TheVariants.{BadRoom, WrongCount, WrongDevice, OutOfMemory}
use Rattle.path_system.specs.declared.fault.ReplaceFault.{ReplaceFault}
use Rattle.path_system.specs.declared.fault.ReplaceFault.TheVariants.{Busy, Used, OtherLaw}

-- the fault of a shelf, as that of a system
abbrev pub as_open_fault : ShelfFault → OpenFault
as_open_fault shelf.WrongCount = WrongCount
as_open_fault (shelf.WrongDevice r) = WrongDevice r

-- why the devices make no shelf; OutOfMemory says nothing about them
abbrev pub IsDevicesFault : List State → Declaration → OpenFault → Type 0
IsDevicesFault states d BadRoom = ⊥
IsDevicesFault states d WrongCount = IsShelfFault states d shelf.WrongCount
IsDevicesFault states d (WrongDevice r) = IsShelfFault states d (shelf.WrongDevice r)
IsDevicesFault states d OutOfMemory = Unit {0}

-- the room is bad; or it is good, and the devices make no shelf or allocation fails
abbrev pub IsOpenFault : ℕ → List State → Declaration → OpenFault → Type 0
IsOpenFault room states d BadRoom = IsBadRoom room
IsOpenFault room states d fault = (IsBadRoom room → ⊥) × IsDevicesFault states d fault

-- an activation of the resource is live
abbrev pub IsBusy : Declaration → List Line → ℕ → Type 0
IsBusy d journal r = Any (λ a. resource_of d a.op.0 ≡ r) (live journal)

-- nothing of the resource is live, and no line asked its device
abbrev pub IsUntouched : Declaration → List Line → ℕ → Type 0
IsUntouched d journal r = (IsBusy d journal r → ⊥) × (IsAsked d journal r → ⊥)

-- the first reason that applies for refusing a device of this law
abbrev pub IsReplaceFault : Declaration → List Line → ℕ → Law → ReplaceFault → Type 0
IsReplaceFault d journal r law Busy = IsBusy d journal r
IsReplaceFault d journal r law Used = (IsBusy d journal r → ⊥) × IsAsked d journal r
IsReplaceFault d journal r law OtherLaw = IsUntouched d journal r × (law ≢ law_of d r)

-- the same of a controller, before whose lines others may have come
abbrev pub IsBusyBehind : Account → ℕ → Type 0
IsBusyBehind account r = BehindEach account (λ openings before. IsBusy account.declaration (lines_behind before account) r)

abbrev pub IsIdleBehind : Account → ℕ → Type 0
IsIdleBehind account r = BehindEach account (λ openings before. IsBusy account.declaration (lines_behind before account) r → ⊥)

-- The first reason that applies for refusing a device of this law. A controller that was opened at a state doesn't know which devices were
-- asked before, and replaces none.
abbrev pub IsReplaceFaultBehind : Account → ℕ → Law → ReplaceFault → Type 0
IsReplaceFaultBehind account r law Busy = IsBusyBehind account r
IsReplaceFaultBehind account r law Used = IsIdleBehind account r × WasAsked account.declaration account.opened (all_lines account) r
IsReplaceFaultBehind account r law OtherLaw =
    IsIdleBehind account r × (WasAsked account.declaration account.opened (all_lines account) r → ⊥)
    × (law ≢ law_of account.declaration r)

-- no reason applies: a device of this law may replace the resource's own
abbrev pub MayReplace : Declaration → List Line → ℕ → Law → Type 0
MayReplace d journal r law = IsUntouched d journal r × (law ≡ law_of d r)
