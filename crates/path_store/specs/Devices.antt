-- What the calls of a device do to its file, and what a crash leaves of what isn't on the disk yet.
use Rattle.std.specs.Prelude.{◌≡◌, ◌⊎◌, ℕ, zero, suc, ◌-◌, ◌≤◌, List, [], ◌∷◌, ◌++◌, length, take}

-- what a crash leaves of bytes that were written: each is there or is zero, and the end may be missing
abbrev pub IsImage : List ℕ → List ℕ → Type 0
IsImage written [] = Unit {0}
IsImage [] (b ∷ left) = ⊥
IsImage (w ∷ written) (b ∷ left) = ((b ≡ w) ⊎ (b ≡ 0)) × IsImage written left

-- so many zeros, and then the bytes
abbrev pub behind_zeros : ℕ → List ℕ → List ℕ
behind_zeros zero bytes = bytes
behind_zeros (suc n) bytes = 0 ∷ behind_zeros n bytes

-- what a crash leaves where bytes were appended to a file of this size, if before it would have left the old ones: these, zeros in the
-- place of what it would have lost, and an image of the new bytes
abbrev pub Torn : ℕ → List ℕ → List ℕ → List ℕ → Type 0
Torn size bytes old new = (left : List ℕ) × (new ≡ old ++ left) × IsImage (behind_zeros (size - length old) bytes) left

-- what a crash leaves where a file was cut to n bytes, if before it would have left the old ones: these, or a front of them of some length
-- between
abbrev pub Cut : ℕ → List ℕ → List ℕ → Type 0
Cut n old new = (new ≡ old) ⊎ ((n ≤ length new) × (take (length new) old ≡ new))

-- each outcome of a crash is an outcome before, after this step
abbrev pub Follows : (List ℕ → List ℕ → Type 0) → (List ℕ → Type 0) → (List ℕ → Type 0) → Type 0
Follows step before now = (c : List ℕ) → now c → (b : List ℕ) × before b × step b c

-- a crash leaves these bytes and nothing else
abbrev pub Only : List ℕ → (List ℕ → Type 0) → Type 0
Only bytes outcomes = (c : List ℕ) → outcomes c → c ≡ bytes

-- time goes on: a crash since t might have left what it might have left before the call, or what it may leave behind it
pub record Elapses (before now : ℕ) (past since : ℕ → List ℕ → Type 0) (may_leave : List ℕ → Type 0) : Type 0 where
  pub later : before ≤ now
  pub nothing_else : (t : ℕ) (c : List ℕ) → t ≤ before → since t c → past t c ⊎ may_leave c
  pub keeps : (t : ℕ) (c : List ℕ) → t ≤ before → past t c → since t c

-- a crash at any moment from the old state up to the new one leaves a file that has P
pub record LeavesOnly {D : Type 0} (moment : D → ℕ) (left_since : D → ℕ → List ℕ → Type 0) (old new : D) (P : List ℕ → Type 0)
    : Type 0 where
  pub later : moment old ≤ moment new
  pub each : (c : List ℕ) → left_since new (moment old) c → P c
  -- for a run that began earlier
  pub before : (t : ℕ) (c : List ℕ) → t ≤ moment old → left_since new t c → left_since old t c ⊎ P c

-- the file is as it was, at each moment from the old state up to the new one: whatever a read returned it returns, and a crash leaves
-- nothing else
pub record IsUntouched {D : Type 0} (holds may_leave : D → List ℕ → Type 0) (moment : D → ℕ) (left_since : D → ℕ → List ℕ → Type 0)
    (old new : D) : Type 0 where
  pub read : (b : List ℕ) → holds old b → holds new b
  pub left : (c : List ℕ) → may_leave new c → may_leave old c
  pub any_moment : LeavesOnly moment left_since old new (may_leave old)
