-- Stuck states: what stays blocked, and how long.
use Rattle.std.specs.Prelude.{◌≡◌, ◌≢◌, ◌<◌, ◌≤◌, ◌+◌, ◌⊎◌, ℕ, List, [], ◌∷◌, ◌++◌, length, All, Option, Some}
use Rattle.path_model.specs.declared.ids.OpId.{OpId}
use Rattle.path_model.specs.declared.ids.ActId.{ActId}
use Rattle.path_model.specs.declared.ids.PathId.{PathId}
use Rattle.path_model.specs.declared.history.Event.TheVariants.{Began}
use Rattle.path_model.specs.declared.journal.Attempt.{Attempt}
use Rattle.path_model.specs.declared.journal.Attempt.TheVariants.{Start, Apply, Finish}
use Rattle.path_model.specs.declared.journal.Reply.{Reply}
use Rattle.path_model.specs.declared.journal.Reply.TheVariants.{Started, Blocked, Used, Finished}
use Rattle.path_model.specs.declared.journal.Line.{Line}
use Rattle.path_model.specs.declared.journal.Activation.{Activation}
use Rattle.path_model.specs.Trees.{Names, WellFormed}
use Rattle.path_model.specs.Legal.{Every, Legal}
use Rattle.path_model.specs.Declarations.{Declaration, paths_of, resource_of}
use Rattle.path_model.specs.Journals.{begun_in, live, activation_of, admitted_history}
use Rattle.path_model.specs.Owed.{taken, Owed}
use Rattle.path_model.specs.Honest.{IsHonest}
use Rattle.path_model.specs.Asked.{its_resource}

-- a start of the operation would keep the admitted history legal
pub record IsStartable (d : Declaration) (ls : List Line) (a : OpId) : Type 0 where
  pub declared : a.0 < length d.operations
  pub legal : Legal (paths_of d) (admitted_history ls ++ Began a ∷ [])

-- nothing is live, and nothing can be started
pub record IsFrozen (d : Declaration) (ls : List Line) : Type 0 where
  pub nothing_live : live ls ≡ []
  pub nothing_startable : (a : OpId) → IsStartable d ls a → ⊥

-- the attempt is admitted
abbrev pub IsAdmission : Reply → Type 0
IsAdmission (Started n) = Unit {0}
IsAdmission (Used x) = Unit {0}
IsAdmission Finished = Unit {0}
IsAdmission reply = ⊥

-- after a frozen journal nothing is ever admitted again
abbrev pub FrozenStaysFrozen : Type 0
FrozenStaysFrozen =
    (d : Declaration) (room : ℕ) (openings : List (List ℕ)) → Every WellFormed (paths_of d)
    → (ls more : List Line) → IsHonest d room openings (ls ++ more) → IsFrozen d ls
    → All (λ l. IsAdmission l.reply → ⊥) more

-- each path names only operations of its own resource
abbrev pub PathsKeepApart : Declaration → Type 0
PathsKeepApart d = All (λ p. (a : OpId) → Names p.tree a → resource_of d a.0 ≡ p.resource) d.paths

-- nothing of the resource is live, and nothing of it can be started
pub record IsStuckAt (d : Declaration) (ls : List Line) (r : ℕ) : Type 0 where
  pub nothing_live : All (λ a. resource_of d a.op.0 ≢ r) (live ls)
  pub nothing_startable : (a : OpId) → resource_of d a.0 ≡ r → IsStartable d ls a → ⊥

-- the resource that an attempt is for: that of the operation which it starts, or of the live activation which it uses or finishes
abbrev pub resource_for : Declaration → List Line → Attempt → Option ℕ
resource_for d before (Start a) = Some (resource_of d a.0)
resource_for d before (Apply n verb) = its_resource d (activation_of n (live before))
resource_for d before (Finish n) = its_resource d (activation_of n (live before))

-- behind the lines before them, these lines admit nothing of the resource
abbrev pub AdmitNothingAt : Declaration → ℕ → List Line → List Line → Type 0
AdmitNothingAt d r before [] = Unit {0}
AdmitNothingAt d r before (l ∷ ls) =
    (IsAdmission l.reply → resource_for d before l.attempt ≢ Some r) × AdmitNothingAt d r (before ++ l ∷ []) ls

-- once a resource is stuck, nothing of it is ever admitted again, whatever the others do
abbrev pub StuckStaysStuck : Type 0
StuckStaysStuck =
    (d : Declaration) (room : ℕ) (openings : List (List ℕ)) → Every WellFormed (paths_of d) → PathsKeepApart d
    → (r : ℕ) (ls more : List Line) → IsHonest d room openings (ls ++ more) → IsStuckAt d ls r
    → AdmitNothingAt d r ls more

-- an operation that is startable is owed its start if there is room
abbrev pub StartablesMayStart : Type 0
StartablesMayStart =
    (d : Declaration) (room : ℕ) (openings : List (List ℕ)) → Every WellFormed (paths_of d)
    → (ls : List Line) → IsHonest d room openings ls
    → (w : ℕ) (a : OpId) (n : ActId) → IsStartable d ls a → taken ls + 2 ≤ room → n.0 ≡ begun_in ls
    → Owed d room openings ls w (Start a) (Started n)

-- a live activation is owed its finish by its own worker
abbrev pub LiveActivationsMayFinish : Type 0
LiveActivationsMayFinish =
    (d : Declaration) (room : ℕ) (openings : List (List ℕ)) (ls : List Line) (n : ActId) (a : Activation)
    → activation_of n (live ls) ≡ Some a → Owed d room openings ls a.worker (Finish n) Finished

-- some line is an admitted finish
abbrev pub HasFinishLine : List Line → Type 0
HasFinishLine [] = ⊥
HasFinishLine (l ∷ ls) = (l.reply ≡ Finished) ⊎ HasFinishLine ls

abbrev pub blocked_line : ℕ → OpId → PathId → Line
blocked_line w a p = record { worker = w; attempt = Start a; reply = Blocked p }

abbrev pub started_line : ℕ → OpId → ActId → Line
started_line w a n = record { worker = w; attempt = Start a; reply = Started n }

-- between a blocked start of an operation and a later admitted one there is an admitted finish
abbrev pub FinishesComeBetween : Type 0
FinishesComeBetween =
    (d : Declaration) (room : ℕ) (openings : List (List ℕ)) → Every WellFormed (paths_of d)
    → (x y : List Line) (v w : ℕ) (a : OpId) (p : PathId) (n : ActId)
    → IsHonest d room openings (x ++ blocked_line v a p ∷ (y ++ started_line w a n ∷ []))
    → HasFinishLine y
