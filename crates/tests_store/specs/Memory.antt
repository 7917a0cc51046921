-- What a crash leaves of a file in memory, and of one that has had other contents.
use Rattle.std.specs.Prelude.{◌≡◌, ◌⊎◌, ℕ, Bool, true, List, [], ◌∷◌, ◌++◌, length, drop}
use mathlib.Core.Logic.{inl, inr}
use Rattle.path_store.specs.Devices.{IsImage}
use Rattle.path_store.specs.declared.device.DeviceFault.{DeviceFault}
use Rattle.path_store.specs.declared.device.DeviceFault.TheVariants.{OutOfMemory, Failed}
use Rattle.tests_store.specs.declared.memory.State.{State}

-- all bytes on the disk, and an image of those that were written since
abbrev pub IsLeftOf : List ℕ → List ℕ → List ℕ → Type 0
IsLeftOf kept fresh c = (left : List ℕ) × (c ≡ kept ++ left) × IsImage fresh left

-- one of these states may have left this
abbrev pub HadBeen : List State → List ℕ → Type 0
HadBeen [] c = ⊥
HadBeen (s ∷ past) c = IsLeftOf s.kept.items s.fresh.items c ⊎ HadBeen past c

none_left : (past : List State) (c : List ℕ) → HadBeen (drop (length past) past) c → ⊥
none_left [] c had = had
none_left (s ∷ past) c had = none_left past c had

-- since the last of them there is the state of now
pub only_left : (past : List State) (kept fresh c : List ℕ) → IsLeftOf kept fresh c ⊎ HadBeen (drop (length past) past) c
    → IsLeftOf kept fresh c
only_left past kept fresh c (inl now) = now
only_left past kept fresh c (inr had) = absurd (none_left past c had)

-- a file in memory may lack memory at any time, and fails where it does so after so many calls; it is never full
abbrev pub FailsWith : Bool → DeviceFault → Type 0
FailsWith failed OutOfMemory = Unit {0}
FailsWith failed Failed = failed ≡ true
FailsWith failed other = ⊥
