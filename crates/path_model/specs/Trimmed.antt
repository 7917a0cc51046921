-- The trimmed table: what is left of the semaphores, counters and paths.
use Rattle.std.specs.Prelude.{◌≡◌, ◌==◌, ◌<◌, ◌||◌, ◌&&◌, if◌then◌else◌, Bool, true, false, ℕ, List, [], ◌∷◌, ◌++◌, ◌⊎◌, ◌↔◌}
use Rattle.path_model.specs.declared.ids.OpId.{OpId}
use Rattle.path_model.specs.declared.history.Event.{Event}
use Rattle.path_model.specs.declared.history.Event.TheVariants.{Began, Ended}
use Rattle.path_model.specs.Trees.{Bound, any, most, Tree, op, seq, alt, burst, Names, WellFormed, has}
use Rattle.path_model.specs.Histories.{op_of}
use Rattle.path_model.specs.Legal.{Every, First, NoneOf, Legal, Forbids}
use Rattle.path_model.specs.Machine.{Term, Plain, Braced, Counted, prologue, epilogue}
use Rattle.path_model.specs.Machine.{Values, take_one, add_one, Passes, started, finished, opening}
use Rattle.path_model.specs.AmongOthers.{values_among}
use Rattle.path_model.specs.AllPaths.{Running, after, Blocks}

-- the whole path is one pair of braces
abbrev pub is_burst : Tree → Bool
is_burst (op b) = false
is_burst (seq s t) = false
is_burst (alt s t) = false
is_burst (burst bd s) = true

-- a term of the trimmed table: none, a whole one, or only that of the bound's semaphore
pub data LeanTerm : Type 0 where
  nothing : LeanTerm
  does : Term → LeanTerm
  limits : ℕ → LeanTerm

-- if one pair of braces is the whole path, its counter and the path's own semaphore are gone
abbrev pub lean : Bool → Term → LeanTerm
lean whole (Plain q) = does (Plain q)
lean whole (Braced c q) = if whole then nothing else does (Braced c q)
lean whole (Counted c q) = if whole then limits c else does (Counted c q)

abbrev pub lean_prologue : Tree → OpId → LeanTerm
lean_prologue s a = lean (is_burst s) (prologue s a)

abbrev pub lean_epilogue : Tree → OpId → LeanTerm
lean_epilogue s a = lean (is_burst s) (epilogue s a)

abbrev pub LeanPasses : LeanTerm → Values → Type 0
LeanPasses nothing v = Unit {0}
LeanPasses (does t) v = Passes t v
LeanPasses (limits c) v = 0 < v.bound c

abbrev pub lean_started : LeanTerm → Values → Values
lean_started nothing v = v
lean_started (does t) v = started t v
lean_started (limits c) v = record v { bound = take_one v.bound c }

abbrev pub lean_finished : LeanTerm → Values → Values
lean_finished nothing v = v
lean_finished (does t) v = finished t v
lean_finished (limits c) v = record v { bound = add_one v.bound c }

abbrev pub lean_changed : Tree → Event → Values → Values
lean_changed s (Began a) v = lean_started (lean_prologue s a) v
lean_changed s (Ended a) v = lean_finished (lean_epilogue s a) v

abbrev pub lean_among : Tree → Values → List Event → Values
lean_among s v [] = v
lean_among s v (e ∷ h) = lean_among s (if has s (op_of e) then lean_changed s e v else v) h

-- the semaphores and counters that are kept
abbrev pub KeepsSemaphore : Tree → ℕ → Type 0
KeepsSemaphore s q = is_burst s ≡ true → 0 < q

abbrev pub KeepsCounter : Tree → ℕ → Type 0
KeepsCounter s c = is_burst s ≡ false

-- equal in all that is kept
pub record SameKept (s : Tree) (v w : Values) : Type 0 where
  pub semaphores : (q : ℕ) → KeepsSemaphore s q → v.semaphore q ≡ w.semaphore q
  pub counters : (c : ℕ) → KeepsCounter s c → v.counter c ≡ w.counter c
  pub bounds : (c : ℕ) → v.bound c ≡ w.bound c

abbrev pub same_bound : Bound → Bound → Bool
same_bound any any = true
same_bound (most n) (most m) = n == m
same_bound any (most m) = false
same_bound (most n) any = false

abbrev pub same_tree : Tree → Tree → Bool
same_tree (op a) (op b) = a.0 == b.0
same_tree (seq s t) (seq u v) = same_tree s u && same_tree t v
same_tree (alt s t) (alt u v) = same_tree s u && same_tree t v
same_tree (burst b s) (burst c t) = same_bound b c && same_tree s t
same_tree (op a) t = false
same_tree (seq s t) u = false
same_tree (alt s t) u = false
same_tree (burst bd s) u = false

abbrev pub stands_in : Tree → List Tree → Bool
stands_in s [] = false
stands_in s (t ∷ ts) = same_tree s t || stands_in s ts

-- the paths whose trees no earlier path has; seen are the earlier trees
abbrev pub kept : List Tree → List (ℕ × Tree) → List (ℕ × Tree)
kept seen [] = []
kept seen (x ∷ xs) = if stands_in x.1 seen then kept seen xs else (x ∷ kept (x.1 ∷ seen) xs)

abbrev pub lean_moved : Event → List (ℕ × Running) → List (ℕ × Running)
lean_moved e [] = []
lean_moved e (x ∷ xs) =
    (x.0, record { tree = x.1.tree; values = if has x.1.tree (op_of e) then lean_changed x.1.tree e x.1.values else x.1.values })
    ∷ lean_moved e xs

abbrev pub lean_run : List (ℕ × Running) → List Event → List (ℕ × Running)
lean_run m [] = m
lean_run m (e ∷ h) = lean_run (lean_moved e m) h

abbrev pub lean_opened : List (ℕ × Tree) → List (ℕ × Running)
lean_opened [] = []
lean_opened (x ∷ xs) = (x.0, record { tree = x.1; values = opening x.1 }) ∷ lean_opened xs

-- the kept paths and their values after the history
abbrev pub lean_after : List (ℕ × Tree) → List Event → List (ℕ × Running)
lean_after xs h = lean_run (lean_opened (kept [] xs)) h

abbrev pub LeanBlocks : OpId → Running → Type 0
LeanBlocks a r = Names r.tree a × (LeanPasses (lean_prologue r.tree a) r.values → ⊥)

-- what holds of the trimmed path after every history
pub record Trims (s : Tree) (h : List Event) : Type 0 where
  pub kept_values : SameKept s (lean_among s (opening s) h) (values_among s (opening s) h)
  -- each check that is removed always passes
  pub removed_passes : (a : OpId) → lean_prologue s a ≡ nothing → Passes (prologue s a) (values_among s (opening s) h)
  -- also next to a bound's semaphore
  pub removed_part :
      (a : OpId) (c q : ℕ) → is_burst s ≡ true → prologue s a ≡ Counted c q → Passes (Braced c q) (values_among s (opening s) h)
  -- each check that is kept passes exactly when the whole one does
  pub same_passes :
      (a : OpId) → LeanPasses (lean_prologue s a) (lean_among s (opening s) h) ↔ Passes (prologue s a) (values_among s (opening s) h)

abbrev pub EachPathTrims : Type 0
EachPathTrims = (s : Tree) → WellFormed s → (h : List Event) → Trims s h

pub record SameAnswers (xs : List (ℕ × Tree)) (h : List Event) (a : OpId) : Type 0 where
  pub first : (p : ℕ) → First (LeanBlocks a) (lean_after xs h) p ↔ First (Blocks a) (after xs h) p
  pub none : NoneOf (LeanBlocks a) (lean_after xs h) ↔ NoneOf (Blocks a) (after xs h)

abbrev pub TrimmingKeepsAnswers : Type 0
TrimmingKeepsAnswers = (xs : List (ℕ × Tree)) → Every WellFormed xs → (h : List Event) (a : OpId) → SameAnswers xs h a

-- after a legal history the trimmed semaphores name the first path whose words forbid a start, and admit it if none does
pub record LeanJudged (xs : List (ℕ × Tree)) (h : List Event) (a : OpId) : Type 0 where
  pub first : (p : ℕ) → First (LeanBlocks a) (lean_after xs h) p ↔ First (Forbids h a) xs p
  -- each path that is kept blocks exactly when it forbids
  pub each : Every (λ r. LeanBlocks a r ↔ Forbids h a r.tree) (lean_after xs h)
  pub starts : NoneOf (LeanBlocks a) (lean_after xs h) ↔ Legal xs (h ++ Began a ∷ [])
  pub decided : NoneOf (LeanBlocks a) (lean_after xs h) ⊎ ((p : ℕ) × First (LeanBlocks a) (lean_after xs h) p)
  pub moves : (e : Event) → lean_after xs (h ++ e ∷ []) ≡ lean_moved e (lean_after xs h)

abbrev pub TrimmedAdmitsTheWords : Type 0
TrimmedAdmitsTheWords = (xs : List (ℕ × Tree)) → Every WellFormed xs → (h : List Event) → Legal xs h → (a : OpId) → LeanJudged xs h a
