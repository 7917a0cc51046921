-- The values of a gate whose paths stand so.
use Rattle.std.specs.Prelude.{◌≡◌, ◌≤◌, ◌<◌, ◌+◌, ◌⊎◌, ℕ, List, length, slice_index}
use Rattle.path_model.specs.declared.ids.OpId.{OpId}
use Rattle.path_model.specs.Legal as legal
use Rattle.path_model.specs.Machine.{Values}
use Rattle.path_model.specs.Flat.{Sited}
use Rattle.path_model.specs.Declarations.{Declaration, paths_of}
use Rattle.path_gate.specs.Levels.{Levels}
use Rattle.path_gate.specs.Sites.{kept_paths, Shows, HasPlaces, LeavesSemaphore, LeavesCounter}
use Rattle.path_state.specs.Values.{ValuesStand}
use Rattle.path_standings.specs.Told.{site_at, IsFirst, progress_of, row_at}

-- numbers are written over those from a place on, as far as the list goes, and all others are as they were
pub record WritesFrom (old new : List ℕ) (first : ℕ) (numbers : List ℕ) : Type 0 where
  pub long : length new ≡ length old
  pub written : (k : ℕ) → k < length numbers → first + k < length old → slice_index new (first + k) ≡ slice_index numbers k
  pub others : (i : ℕ) → (i < first) ⊎ (first + length numbers ≤ i) → slice_index new i ≡ slice_index old i

-- the table shows the values that the path has where it stands so, if it has places for them
abbrev pub ShowsStanding : Levels → (OpId → ℕ) → List ℕ → Sited → Type 0
ShowsStanding v progress row x =
    (w : Values) → ValuesStand x.tree progress row w → HasPlaces (length v.semaphores) (length v.counters) x → Shows v w x

-- and all other values are as they were
pub record WritesPath (old new : Levels) (progress : OpId → ℕ) (row : List ℕ) (x : Sited) : Type 0 where
  pub semaphores : length new.semaphores ≡ length old.semaphores
  pub counters : length new.counters ≡ length old.counters
  pub shows : ShowsStanding new progress row x
  pub other_semaphores : (i : ℕ) → LeavesSemaphore i x → slice_index new.semaphores i ≡ slice_index old.semaphores i
  pub other_counters : (i : ℕ) → LeavesCounter i x → slice_index new.counters i ≡ slice_index old.counters i

-- the same for the first n paths, of those with one tree for the first
pub record WritesPaths (d : Declaration) (counts : List ℕ) (rows : List (List ℕ)) (n : ℕ) (old new : Levels) : Type 0 where
  pub semaphores : length new.semaphores ≡ length old.semaphores
  pub counters : length new.counters ≡ length old.counters
  pub shows : (i : ℕ) → i < n → IsFirst d i → ShowsStanding new (progress_of counts) (row_at rows i) (site_at d i)
  pub other_semaphores :
      (i : ℕ) → legal.Every (LeavesSemaphore i) (kept_paths (paths_of d))
      → slice_index new.semaphores i ≡ slice_index old.semaphores i
  pub other_counters :
      (i : ℕ) → legal.Every (LeavesCounter i) (kept_paths (paths_of d)) → slice_index new.counters i ≡ slice_index old.counters i
