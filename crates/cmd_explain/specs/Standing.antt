-- What is said of a declaration as it stands after a history.
use Rattle.std.specs.Prelude.{◌≡◌, ◌≢◌, ◌+◌, ◌<◌, ℕ, List, [], ◌∷◌, ◌++◌, length, slice_index_or}
use Rattle.path_model.specs.declared.ids.OpId.{OpId}
use Rattle.path_model.specs.declared.ids.PathId.{PathId}
use Rattle.path_model.specs.declared.history.Event.{Event}
use Rattle.path_model.specs.declared.history.Event.TheVariants.{Began}
use Rattle.path_model.specs.Trees.{Tree, op, Names}
use Rattle.path_model.specs.Legal.{Legal, Forbids}
use Rattle.path_model.specs.Declarations.{Declaration, paths_of, resource_of}

-- the tree of a path
abbrev pub tree_at : Declaration → PathId → Tree
tree_at d p = (slice_index_or d.paths p.0 (record { resource = 0; tree = op (record { 0 = 0 }) })).tree

-- q is the first path with the tree of p
pub record IsFirstAlike (d : Declaration) (p q : PathId) : Type 0 where
  pub within : q.0 < length d.paths
  pub same : tree_at d q ≡ tree_at d p
  pub first : (k : ℕ) → k < q.0 → tree_at d (record { 0 = k }) ≢ tree_at d p

-- the path forbids a start of the operation after the history
abbrev pub ForbidsAt : Declaration → List Event → OpId → PathId → Type 0
ForbidsAt d h a p = Forbids h a (tree_at d p)

-- the path names the operation, and doesn't forbid its start after the history
abbrev pub LetsAt : Declaration → List Event → PathId → OpId → Type 0
LetsAt d h p a = Names (tree_at d p) a × (ForbidsAt d h a p → ⊥)

-- the first paths of the file that forbid a start of the operation, in order
pub data AreForbidding (d : Declaration) (h : List Event) (a : OpId) : ℕ → List PathId → Type 0 where
  none : AreForbidding d h a 0 []
  forbids : (p : PathId) (ps : List PathId) → AreForbidding d h a p.0 ps → ForbidsAt d h a p → AreForbidding d h a (p.0 + 1) (ps ++ p ∷ [])
  lets : (p : PathId) (ps : List PathId) → AreForbidding d h a p.0 ps → (ForbidsAt d h a p → ⊥) → AreForbidding d h a (p.0 + 1) ps

-- the first operations of the file that the path names and lets begin, in order
pub data AreNext (d : Declaration) (h : List Event) (p : PathId) : ℕ → List OpId → Type 0 where
  none : AreNext d h p 0 []
  lets : (a : OpId) (ops : List OpId) → AreNext d h p a.0 ops → LetsAt d h p a → AreNext d h p (a.0 + 1) (ops ++ a ∷ [])
  other : (a : OpId) (ops : List OpId) → AreNext d h p a.0 ops → (LetsAt d h p a → ⊥) → AreNext d h p (a.0 + 1) ops

-- a start of the operation of the resource keeps the history legal on all paths
pub record Starts (d : Declaration) (h : List Event) (r : ℕ) (a : OpId) : Type 0 where
  pub declared : a.0 < length d.operations
  pub own : resource_of d a.0 ≡ r
  pub legal : Legal (paths_of d) (h ++ Began a ∷ [])

-- some operation of the resource can be started after the history
abbrev pub CanStart : Declaration → List Event → ℕ → Type 0
CanStart d h r = (a : OpId) × Starts d h r a

-- and none
abbrev pub NoneStarts : Declaration → List Event → ℕ → Type 0
NoneStarts d h r = (a : OpId) → Starts d h r a → ⊥
