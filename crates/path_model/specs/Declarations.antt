-- What a declaration contains: resources, operations and paths, in order.
use Rattle.std.specs.Prelude.{ℕ, List, [], map, slice_index_or}
use Rattle.path_model.specs.declared.resource.Law.{Law}
use Rattle.path_model.specs.declared.resource.Law.TheVariants.{Cell}
use Rattle.path_model.specs.Trees.{Tree}
use Rattle.path_model.specs.Legal.{numbered}

pub record Resource : Type 0 where
  pub name : List ℕ
  pub law : Law

-- an operation, with the number of its resource
pub record Operation : Type 0 where
  pub name : List ℕ
  pub resource : ℕ

-- a path, with the number of its resource
pub record Path : Type 0 where
  pub resource : ℕ
  pub tree : Tree

pub record Declaration : Type 0 where
  pub resources : List Resource
  pub operations : List Operation
  pub paths : List Path

abbrev pub trees : Declaration → List Tree
trees d = map (λ p. p.tree) d.paths

-- the trees of all paths, with the numbers of the paths
abbrev pub paths_of : Declaration → List (ℕ × Tree)
paths_of d = numbered 0 (trees d)

-- the number of an operation's resource
abbrev pub resource_of : Declaration → ℕ → ℕ
resource_of d op = (slice_index_or d.operations op (record { name = []; resource = 0 })).resource

-- the law of a resource
abbrev pub law_of : Declaration → ℕ → Law
law_of d r = (slice_index_or d.resources r (record { name = []; law = Cell })).law
