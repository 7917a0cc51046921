-- The paths that are kept, and what a table shows of them.
use Rattle.std.specs.Prelude.{◌≡◌, ◌≢◌, ◌≤◌, ◌<◌, ◌+◌, ℕ, List, [], ◌∷◌, if◌then◌else◌, slice_index}
use Rattle.path_model.specs.Trees.{Tree}
use Rattle.path_model.specs.Machine.{semicolons, braces, Values}
use Rattle.path_model.specs.Flat.{Sited, sited, HasBound, bound_number}
use Rattle.path_model.specs.Trimmed.{stands_in, KeepsSemaphore, KeepsCounter}
use Rattle.path_gate.specs.Levels.{Levels}

-- the paths whose tree no earlier path has, with the numbers of the file; seen are the earlier trees
abbrev pub unlike : List Tree → List (ℕ × Sited) → List (ℕ × Sited)
unlike seen [] = []
unlike seen (x ∷ xs) = if stands_in x.1.tree seen then unlike seen xs else (x ∷ unlike (x.1.tree ∷ seen) xs)

abbrev pub kept_paths : List (ℕ × Tree) → List (ℕ × Sited)
kept_paths xs = unlike [] (sited 0 0 xs)

-- at the path's numbers the table has what is kept of its values: semaphores, counters and bounds
pub record Shows (v : Levels) (w : Values) (x : Sited) : Type 0 where
  pub semaphores : (q : ℕ) → q ≤ semicolons x.tree → KeepsSemaphore x.tree q → slice_index v.semaphores (x.own + q) ≡ w.semaphore q
  pub counters : (c : ℕ) → c < braces x.tree → KeepsCounter x.tree c → slice_index v.counters (x.first + c) ≡ w.counter c
  pub limits : (c : ℕ) → HasBound x.tree 0 c → slice_index v.semaphores (bound_number x c) ≡ w.bound c

-- each kept value of the path has its place in tables of n semaphores and m counters
pub record HasPlaces (n m : ℕ) (x : Sited) : Type 0 where
  pub semaphores : (q : ℕ) → q ≤ semicolons x.tree → KeepsSemaphore x.tree q → x.own + q < n
  pub counters : (c : ℕ) → c < braces x.tree → KeepsCounter x.tree c → x.first + c < m
  pub limits : (c : ℕ) → HasBound x.tree 0 c → bound_number x c < n

-- no value that is kept of the path is the semaphore of this number, or the counter
pub record LeavesSemaphore (i : ℕ) (x : Sited) : Type 0 where
  pub own : (q : ℕ) → q ≤ semicolons x.tree → KeepsSemaphore x.tree q → i ≢ x.own + q
  pub limits : (c : ℕ) → HasBound x.tree 0 c → i ≢ bound_number x c

pub record LeavesCounter (i : ℕ) (x : Sited) : Type 0 where
  pub own : (c : ℕ) → c < braces x.tree → KeepsCounter x.tree c → i ≢ x.first + c
