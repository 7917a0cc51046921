-- The spare gates beside a gate, in which others' steps are tried out.
use Rattle.std.specs.Prelude.{◌≡◌, ◌<◌, ℕ, List, length}
use Rattle.path_model.specs.declared.ids.OpId.{OpId}
use Rattle.path_model.specs.Trees.{WellFormed}
use Rattle.path_model.specs.Legal.{Every}
use Rattle.path_model.specs.Declarations.{Declaration, paths_of}
use Rattle.path_gate.specs.Standings.{Standing, IsNamed}
use Rattle.path_order.specs.declared.spare.Spares.{Spares}

-- a spare gate of the same paths and as many values; all that they name has a number below n
pub record Fits (g spare : Standing) (n : ℕ) : Type 0 where
  pub paths : spare.paths ≡ g.paths
  pub semaphores : length spare.levels.semaphores ≡ length g.levels.semaphores
  pub counters : length spare.levels.counters ≡ length g.levels.counters
  pub named : (a : OpId) → IsNamed g.paths a → a.0 < n
  pub well_formed : Every WellFormed g.paths

-- both spare gates fit a gate
pub record AreReady {Y : Type 0} (g : Standing) (s : Spares Y) : Type 0 where
  pub clear : Fits g s.clear s.operations
  pub behind : Fits g s.behind s.operations

-- they are gates of a declaration
pub record AreOf {Y : Type 0} (d : Declaration) (s : Spares Y) : Type 0 where
  pub clear : s.clear.paths ≡ paths_of d
  pub behind : s.behind.paths ≡ paths_of d
  pub operations : s.operations ≡ length d.operations
  pub paths : s.paths ≡ length d.paths
