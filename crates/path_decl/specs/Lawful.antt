-- The rules and limits that a declaration keeps, and what always holds of one.
use Rattle.std.specs.Prelude.{◌≡◌, ◌≢◌, ℕ, ◌+◌, ◌<◌, ◌≤◌, List, length, map, All, AllPairs}
use Rattle.path_model.specs.declared.ids.OpId.{OpId}
use Rattle.path_model.specs.declared.resource.Law.{Law}
use Rattle.path_model.specs.declared.resource.Law.TheVariants.{Cell, Tally, Queue}
use Rattle.path_model.specs.Trees.{Tree, op, seq, alt, burst, Names, WellFormed, FewAtOnce}
use Rattle.path_model.specs.Legal.{Every}
use Rattle.path_model.specs.Declarations.{Path, Declaration, paths_of, resource_of}
use Rattle.path_lex.specs.Names.{IsName}

-- a path names only operations of its own resource
abbrev pub NamesOwn : Declaration → Path → Type 0
NamesOwn d p = (a : OpId) → Names p.tree a → (a.0 < length d.operations) × (resource_of d a.0 ≡ p.resource)

-- how many names there are in a tree
abbrev pub names_count : Tree → ℕ
names_count (op a) = 1
names_count (seq s t) = names_count s + names_count t
names_count (alt s t) = names_count s + names_count t
names_count (burst bd s) = names_count s

-- no name occurs twice
abbrev pub IsDistinct : List (List ℕ) → Type 0
IsDistinct ns = AllPairs (λ m n. m ≢ n) ns

-- names, no two of them equal
pub record AreDistinctNames (ns : List (List ℕ)) : Type 0 where
  pub each : All IsName ns
  pub distinct : IsDistinct ns

-- the capacity of a queue is 1 to 1,024
abbrev pub CapacityFits : Law → Type 0
CapacityFits Cell = Unit {0}
CapacityFits Tally = Unit {0}
CapacityFits (Queue n) = (1 ≤ n) × (n ≤ 1024)

-- Resources and operations have names, no two of them equal. A path names, each once, at most 64 operations of its own resource. There
-- are at most 64 resources, 256 operations and 256 paths. No braces are inside braces, and the bound of braces is 1 to 65,535.
-- The capacity of a queue is 1 to 1,024. Operations and paths belong to declared resources.
pub record Lawful (d : Declaration) : Type 0 where
  pub resource_names : AreDistinctNames (map (λ r. r.name) d.resources)
  pub operation_names : AreDistinctNames (map (λ o. o.name) d.operations)
  pub well_formed : Every WellFormed (paths_of d)
  pub named : All (NamesOwn d) d.paths
  pub few_names : All (λ p. names_count p.tree ≤ 64) d.paths
  pub few_resources : length d.resources ≤ 64
  pub few_operations : length d.operations ≤ 256
  pub few_paths : length d.paths ≤ 256
  pub operations : All (λ o. o.resource < length d.resources) d.operations
  pub paths : All (λ p. p.resource < length d.resources) d.paths
  pub capacities : All (λ r. CapacityFits r.law) d.resources
  pub bounded : Every FewAtOnce (paths_of d)
