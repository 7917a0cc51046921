-- The values of a table, and what prologues and epilogues do to them.
use Rattle.std.specs.Prelude.{◌≡◌, ◌==◌, ◌+◌, ◌-◌, ◌<◌, ◌^◌, ◌||◌, ◌&&◌, nat_lt, if◌then◌else◌, ℕ, Bool, true, List}
use Rattle.std.specs.Prelude.{slice_index, slice_set, Option, Some, None}
use Rattle.path_gate.specs.declared.gate.levels.Levels as held
use Rattle.path_code.specs.declared.terms.Prologue.{Prologue}
use Rattle.path_code.specs.declared.terms.Prologue.TheVariants.{P, PP, PPN}
use Rattle.path_code.specs.declared.terms.Epilogue.{Epilogue}
use Rattle.path_code.specs.declared.terms.Epilogue.TheVariants.{V, VV, VVN}

-- the values of all semaphores and of all counters
pub record Levels : Type 0 where
  pub semaphores : List ℕ
  pub counters : List ℕ

abbrev pub levels : List ℕ → List ℕ → Levels
levels semaphores counters = record { semaphores = semaphores; counters = counters }

-- those that a gate holds
abbrev pub levels_in : {Y : Type 0} → held.Levels Y → Levels
levels_in v = levels v.semaphores.items v.counters.items

-- the values with one less, and with one more, at a number
abbrev pub taken : List ℕ → ℕ → List ℕ
taken values q = slice_set values q (slice_index values q - 1)

abbrev pub given : List ℕ → ℕ → List ℕ
given values q = slice_set values q (slice_index values q + 1)

-- the semaphore is above 0, or an execution of the braces is in progress already
abbrev pub is_open : ℕ → ℕ → Levels → Bool
is_open c q v = nat_lt 0 (slice_index v.counters c) || nat_lt 0 (slice_index v.semaphores q)

-- whether the prologue can pass
abbrev pub can_pass : Option Prologue → Levels → Bool
can_pass None v = true
can_pass (Some (P q)) v = nat_lt 0 (slice_index v.semaphores q)
can_pass (Some (PP c q)) v = is_open c q v
can_pass (Some (PPN c q u)) v = nat_lt 0 (slice_index v.semaphores u) && is_open c q v

-- one more execution of the braces, the first of which takes one from the semaphore
abbrev pub entered : ℕ → ℕ → Levels → Levels
entered c q v =
    record {
      semaphores = if slice_index v.counters c == 0 then taken v.semaphores q else v.semaphores;
      counters = given v.counters c;
    }

-- one execution less, the last of which gives one to the semaphore
abbrev pub left : ℕ → ℕ → Levels → Levels
left c q v =
    record {
      semaphores = if slice_index v.counters c == 1 then given v.semaphores q else v.semaphores;
      counters = taken v.counters c;
    }

abbrev pub started : Option Prologue → Levels → Levels
started None v = v
started (Some (P q)) v = record v { semaphores = taken v.semaphores q }
started (Some (PP c q)) v = entered c q v
started (Some (PPN c q u)) v = entered c q (record v { semaphores = taken v.semaphores u })

abbrev pub finished : Option Epilogue → Levels → Levels
finished None v = v
finished (Some (V q)) v = record v { semaphores = given v.semaphores q }
finished (Some (VV c q)) v = left c q v
finished (Some (VVN c q u)) v = let w = left c q v in record w { semaphores = given w.semaphores u }

-- the numbers are within tables of n semaphores and m counters
abbrev pub PrologueWithin : ℕ → ℕ → Option Prologue → Type 0
PrologueWithin n m None = Unit {0}
PrologueWithin n m (Some (P q)) = q < n
PrologueWithin n m (Some (PP c q)) = (c < m) × (q < n)
PrologueWithin n m (Some (PPN c q u)) = (c < m) × (q < n) × (u < n)

abbrev pub EpilogueWithin : ℕ → ℕ → Option Epilogue → Type 0
EpilogueWithin n m None = Unit {0}
EpilogueWithin n m (Some (V q)) = q < n
EpilogueWithin n m (Some (VV c q)) = (c < m) × (q < n)
EpilogueWithin n m (Some (VVN c q u)) = (c < m) × (q < n) × (u < n)

-- no value falls below 0 or reaches 2 ^ 64
abbrev pub CanEnter : ℕ → ℕ → Levels → Type 0
CanEnter c q v = (slice_index v.counters c ≡ 0 → 0 < slice_index v.semaphores q) × (slice_index v.counters c + 1 < 2 ^ 64)

abbrev pub CanLeave : ℕ → ℕ → Levels → Type 0
CanLeave c q v = (0 < slice_index v.counters c) × (slice_index v.semaphores q + 1 < 2 ^ 64)

abbrev pub CanStart : Option Prologue → Levels → Type 0
CanStart None v = Unit {0}
CanStart (Some (P q)) v = 0 < slice_index v.semaphores q
CanStart (Some (PP c q)) v = CanEnter c q v
CanStart (Some (PPN c q u)) v = (0 < slice_index v.semaphores u) × CanEnter c q (record v { semaphores = taken v.semaphores u })

abbrev pub CanFinish : Option Epilogue → Levels → Type 0
CanFinish None v = Unit {0}
CanFinish (Some (V q)) v = slice_index v.semaphores q + 1 < 2 ^ 64
CanFinish (Some (VV c q)) v = CanLeave c q v
CanFinish (Some (VVN c q u)) v = CanLeave c q v × (slice_index (left c q v).semaphores u + 1 < 2 ^ 64)
