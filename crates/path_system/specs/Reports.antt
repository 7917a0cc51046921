-- What a report says.
use Rattle.std.specs.Prelude.{◌≡◌, ◌+◌, ◌↔◌, ℕ, Bool, IsTrue, List, [], ◌∷◌, ◌++◌, length, Option, Some, None}
use Rattle.path_model.specs.declared.ids.OpId.{OpId}
use Rattle.path_model.specs.declared.ids.PathId.{PathId}
use Rattle.path_model.specs.declared.history.Event.{Event}
use Rattle.path_model.specs.declared.history.Event.TheVariants.{Began}
use Rattle.path_model.specs.declared.journal.Line.{Line}
use Rattle.path_model.specs.declared.journal.Activation.{Activation}
use Rattle.path_model.specs.Legal as legal
use Rattle.path_model.specs.Declarations.{Declaration, paths_of}
use Rattle.path_model.specs.Journals as journals
use Rattle.path_model.specs.Stuck.{IsFrozen}
use Rattle.path_gate.specs.Standings.{Standing, IsAt}

-- a start of the operation after the history keeps it legal, or p is the first path that forbids it
abbrev pub Meets : Declaration → List Event → OpId → Option PathId → Type 0
Meets d h a None = legal.Legal (paths_of d) (h ++ Began a ∷ [])
Meets d h a (Some p) = legal.First (legal.Forbids h a) (paths_of d) p.0

-- the first operations of the file, sorted: those whose start no path forbids, and the others, each with its path
pub data IsSorting (P : OpId → Option PathId → Type 0) : ℕ → List OpId → List (OpId × PathId) → Type 0 where
  none : IsSorting P 0 [] []
  free :
      (a : OpId) (startable : List OpId) (blocked : List (OpId × PathId)) → IsSorting P a.0 startable blocked → P a None
      → IsSorting P (a.0 + 1) (startable ++ a ∷ []) blocked
  held :
      (a : OpId) (p : PathId) (startable : List OpId) (blocked : List (OpId × PathId)) → IsSorting P a.0 startable blocked → P a (Some p)
      → IsSorting P (a.0 + 1) startable (blocked ++ (a, p) ∷ [])

-- the declared operations that can be started and those that can't, what is live, and whether nothing can start and nothing is live
pub record IsReport (d : Declaration) (journal : List Line) (startable : List OpId) (blocked : List (OpId × PathId))
    (live : List Activation) (frozen : Bool) : Type 0 where
  pub sorted : IsSorting (Meets d (journals.admitted_history journal)) (length d.operations) startable blocked
  pub live_is : live ≡ journals.live journal
  pub frozen_is : IsTrue frozen ↔ IsFrozen d journal

-- the same, at each legal history at which the gate is
abbrev pub MeetsAt : Standing → OpId → Option PathId → Type 0
MeetsAt g a None = (h : List Event) → legal.Legal g.paths h → IsAt g h → legal.Legal g.paths (h ++ Began a ∷ [])
MeetsAt g a (Some p) = (h : List Event) → legal.Legal g.paths h → IsAt g h → legal.First (legal.Forbids h a) g.paths p.0

-- a report of this number of operations by the gate, and of what is live by the ledger
pub record IsReportAt (g : Standing) (operations : ℕ) (held : List Activation) (startable : List OpId)
    (blocked : List (OpId × PathId)) (live : List Activation) (frozen : Bool) : Type 0 where
  pub sorted : IsSorting (MeetsAt g) operations startable blocked
  pub live_is : live ≡ held
  pub frozen_is : IsTrue frozen ↔ ((startable ≡ []) × (live ≡ []))
