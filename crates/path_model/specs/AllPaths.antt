-- The laws of all paths of a declaration, in order.
use Rattle.std.specs.Prelude.{◌≡◌, ◌≤◌, if◌then◌else◌, ℕ, List, [], ◌∷◌, ◌++◌, ◌⊎◌, ◌↔◌}
use Rattle.path_model.specs.declared.ids.OpId.{OpId}
use Rattle.path_model.specs.declared.history.Event.{Event}
use Rattle.path_model.specs.declared.history.Event.TheVariants.{Began, Ended}
use Rattle.path_model.specs.Trees.{Tree, Names, WellFormed, has}
use Rattle.path_model.specs.Histories.{op_of, InProgress, starts_of, HasFinish}
use Rattle.path_model.specs.Projection.{projection}
use Rattle.path_model.specs.Legal.{numbered, Every, First, NoneOf, Legal, Forbids}
use Rattle.path_model.specs.Machine.{prologue, Values, Passes, opening, changed}

-- a path with the values of its semaphores and counters
pub record Running : Type 0 where
  pub tree : Tree
  pub values : Values

abbrev pub opened : List (ℕ × Tree) → List (ℕ × Running)
opened [] = []
opened (x ∷ xs) = (x.0, record { tree = x.1; values = opening x.1 }) ∷ opened xs

-- an event changes each path that names its operation
abbrev pub moved : Event → List (ℕ × Running) → List (ℕ × Running)
moved e [] = []
moved e (x ∷ xs) =
    (x.0, record { tree = x.1.tree; values = if has x.1.tree (op_of e) then changed x.1.tree e x.1.values else x.1.values }) ∷ moved e xs

abbrev pub run : List (ℕ × Running) → List Event → List (ℕ × Running)
run m [] = m
run m (e ∷ h) = run (moved e m) h

-- the paths and their values after the history
abbrev pub after : List (ℕ × Tree) → List Event → List (ℕ × Running)
after xs h = run (opened xs) h

-- the path names the operation, and its prologue can't pass
abbrev pub Blocks : OpId → Running → Type 0
Blocks a r = Names r.tree a × (Passes (prologue r.tree a) r.values → ⊥)

-- what holds after a legal history
pub record Judged (xs : List (ℕ × Tree)) (h : List Event) : Type 0 where
  -- the first path that blocks by its values is the first that forbids by its words
  pub first : (a : OpId) (p : ℕ) → First (Blocks a) (after xs h) p ↔ First (Forbids h a) xs p
  pub none : (a : OpId) → NoneOf (Blocks a) (after xs h) ↔ NoneOf (Forbids h a) xs
  -- the same for each path: it blocks exactly when it forbids
  pub each : (a : OpId) → Every (λ r. Blocks a r ↔ Forbids h a r.tree) (after xs h)
  -- one of the two holds
  pub decided : (a : OpId) → NoneOf (Blocks a) (after xs h) ⊎ ((p : ℕ) × First (Blocks a) (after xs h) p)
  -- an admitted start keeps the history legal, and no other does
  pub starts : (a : OpId) → NoneOf (Blocks a) (after xs h) ↔ Legal xs (h ++ Began a ∷ [])
  -- a finish of an operation in progress keeps the history legal
  pub finishes : (a : OpId) → InProgress a h → Legal xs (h ++ Ended a ∷ [])
  -- an operation that no path names is always admitted, and both its events keep the history legal
  pub unnamed :
      (a : OpId) → NoneOf (λ s. Names s a) xs
      → NoneOf (Blocks a) (after xs h) × Legal xs (h ++ Began a ∷ []) × Legal xs (h ++ Ended a ∷ [])

abbrev pub AllPathsJudge : Type 0
AllPathsJudge = (xs : List (ℕ × Tree)) → Every WellFormed xs → (h : List Event) → Legal xs h → Judged xs h

-- a path sees an operation that it names as in progress exactly when the whole history has it in progress
abbrev pub ProjectionsKeepProgress : Type 0
ProjectionsKeepProgress = (s : Tree) (h : List Event) (a : OpId) → Names s a → InProgress a (projection s h) ↔ InProgress a h

-- what is blocked stays blocked through admitted starts; the first path that blocks it may become an earlier one
abbrev pub StartsOnlyBlock : Type 0
StartsOnlyBlock =
    (ss : List Tree) → Every WellFormed (numbered 0 ss)
    → (h : List Event) (u : List OpId) → Legal (numbered 0 ss) (h ++ starts_of u)
    → (b : OpId) (p : ℕ) → First (Blocks b) (after (numbered 0 ss) h) p
    → (q : ℕ) × First (Blocks b) (after (numbered 0 ss) (h ++ starts_of u)) q × (q ≤ p)

-- each path that forbade a start still forbids it after another start
abbrev pub EachBlockStays : Type 0
EachBlockStays =
    (s : Tree) → WellFormed s → (h : List Event) (a b : OpId) → Forbids h b s → Forbids (h ++ Began a ∷ []) b s

-- the machine goes on event by event
abbrev pub EachEventMoves : Type 0
EachEventMoves = (xs : List (ℕ × Tree)) (h : List Event) (e : Event) → after xs (h ++ e ∷ []) ≡ moved e (after xs h)

-- there is one first path, or none
abbrev pub FirstIsOne : Type 0
FirstIsOne =
    (a : OpId) (m : List (ℕ × Running)) (p q : ℕ) → First (Blocks a) m p
    → (First (Blocks a) m q → p ≡ q) × (NoneOf (Blocks a) m → ⊥)

-- between a blocked start of an operation and the next admitted one something finishes
abbrev pub FinishesUnblock : Type 0
FinishesUnblock =
    (ss : List Tree) → Every WellFormed (numbered 0 ss)
    → (h w : List Event) (b : OpId) (p : ℕ) → First (Blocks b) (after (numbered 0 ss) h) p
    → Legal (numbered 0 ss) ((h ++ w) ++ Began b ∷ []) → HasFinish w
