-- Why a store isn't opened, or doesn't go on.
use Rattle.std.specs.Prelude.{◌≡◌, ◌≢◌, ℕ, ◌+◌, ◌<◌, Bool, true, List, length}
use Rattle.path_model.specs.declared.journal.Line.{Line}
use Rattle.path_model.specs.Declarations.{Declaration}
use Rattle.path_lines.specs.declared.texts.TextFault.TheVariants as text_faults
use Rattle.path_journal.specs.CutTexts.{IsCutFault}
use Rattle.path_store.specs.declared.device.DeviceFault.{DeviceFault}
use Rattle.path_store.specs.declared.fault.StoreFault.{StoreFault}
use Rattle.path_store.specs.declared.fault.StoreFault.TheVariants as faults
use Rattle.path_store.specs.declared.store.Store.{Store}
use Rattle.path_store.specs.Stores.{Finds}

-- no lines are found in the file
abbrev pub IsNoStore : Declaration → ℕ → List ℕ → Type 0
IsNoStore d room file = (ls : List Line) → Finds d room file ls → ⊥

-- what a fault of opening says of the file; a fault of the device is one with which a call of it has ended
abbrev pub IsOpenFault : Declaration → ℕ → List ℕ → (DeviceFault → Type 0) → StoreFault → Type 0
IsOpenFault d room file fails_with (faults.Text fault) = IsCutFault d file fault × (fault ≢ text_faults.OutOfMemory → IsNoStore d room file)
IsOpenFault d room file fails_with faults.OtherHead = IsNoStore d room file
IsOpenFault d room file fails_with (faults.Device fault) = fails_with fault
IsOpenFault d room file fails_with faults.OutOfMemory = Unit {0}
IsOpenFault d room file fails_with other = ⊥

-- nothing of the file was changed, at no moment
abbrev pub IsRefusal : StoreFault → Type 0
IsRefusal (faults.Device fault) = ⊥
IsRefusal other = Unit {0}

-- bytes behind a file of this length make it longer than one that can be opened
abbrev pub IsPastLimit : ℕ → List ℕ → Type 0
IsPastLimit size bytes = 134217728 < size + length bytes

-- what a fault of an open store says: whether it was broken before, whether the file would be too long, and of the device
abbrev pub IsStepFault : Bool → Type 0 → (DeviceFault → Type 0) → StoreFault → Type 0
IsStepFault broken long fails_with (faults.Device fault) = fails_with fault
IsStepFault broken long fails_with faults.Broken = broken ≡ true
IsStepFault broken long fails_with faults.TooLong = long
IsStepFault broken long fails_with faults.OutOfMemory = Unit {0}
IsStepFault broken long fails_with other = ⊥

-- the store is as it was, but for the memory in which it spells lines
abbrev pub IsSame : {D B : Type 0} → Store D B → Store D B → Type 0
IsSame old new = new ≡ record old { text = new.text }

-- what a fault leaves: a fault of the device breaks the store, and any other leaves it as it was
abbrev pub IsLeftAt : {D B : Type 0} → Store D B → Store D B → StoreFault → Type 0
IsLeftAt old new (faults.Device fault) = new.broken ≡ true
IsLeftAt old new other = IsSame old new

-- whether a store is broken after a fault, and before it: a fault of the device breaks it, and any other doesn't
abbrev pub BreaksBy : Bool → Bool → StoreFault → Type 0
BreaksBy old new (faults.Device fault) = new ≡ true
BreaksBy old new other = new ≡ old
