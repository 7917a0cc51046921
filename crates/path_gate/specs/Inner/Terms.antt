-- The terms of a gate: what an operation does in the paths that name it, in the order of the file.
use Rattle.std.specs.Prelude.{◌==◌, ◌+◌, ◌-◌, ◌&&◌, ◌||◌, not, if◌then◌else◌, ℕ, Bool, false, List, [], ◌∷◌, Option, Some, None}
use Rattle.std.specs.Prelude.{slice_index, slice_set}
use Rattle.path_model.specs.declared.ids.OpId.{OpId}
use Rattle.path_model.specs.declared.ids.PathId.{PathId}
use Rattle.path_model.specs.Trees.{has}
use Rattle.path_model.specs.Flat.{Sited}
use Rattle.path_model.specs.Trimmed.{lean_prologue, lean_epilogue}
use Rattle.path_trim.specs.LeanTable.{prologue_left, epilogue_left}
use Rattle.path_gate.specs.declared.gate.Term.{Term}
use Rattle.path_gate.specs.Levels.{Levels, can_pass, started, finished, PrologueWithin, EpilogueWithin, CanStart, CanFinish}

-- the term of the operation in the path
abbrev pub term_at : ℕ × Sited → OpId → Term
term_at x a =
    record {
      path = record { 0 = x.0 };
      prologue = prologue_left x.1 (lean_prologue x.1.tree a);
      epilogue = epilogue_left x.1 (lean_epilogue x.1.tree a);
    }

-- the terms of the operation, one for each path that names it
abbrev pub terms_at : List (ℕ × Sited) → OpId → List Term
terms_at [] a = []
terms_at (x ∷ xs) a = if has x.1.tree a then (term_at x a ∷ terms_at xs a) else terms_at xs a

-- the path of the first term whose prologue can't pass
abbrev pub blocking : List Term → Levels → Option PathId
blocking [] v = None
blocking (t ∷ terms) v = if can_pass t.prologue v then blocking terms v else Some t.path

-- whether a term of the path numbered p can't pass
abbrev pub is_blocked_at : ℕ → List Term → Levels → Bool
is_blocked_at p [] v = false
is_blocked_at p (t ∷ terms) v = ((t.path.0 == p) && not (can_pass t.prologue v)) || is_blocked_at p terms v

-- the values after each term has done its prologue
abbrev pub all_started : List Term → Levels → Levels
all_started [] v = v
all_started (t ∷ terms) v = all_started terms (started t.prologue v)

-- the values after each term has done its epilogue
abbrev pub all_finished : List Term → Levels → Levels
all_finished [] v = v
all_finished (t ∷ terms) v = all_finished terms (finished t.epilogue v)

-- each term can do its prologue after those before it
abbrev pub CanStartAll : List Term → Levels → Type 0
CanStartAll [] v = Unit {0}
CanStartAll (t ∷ terms) v = CanStart t.prologue v × CanStartAll terms (started t.prologue v)

-- each term can do its epilogue after those before it
abbrev pub CanFinishAll : List Term → Levels → Type 0
CanFinishAll [] v = Unit {0}
CanFinishAll (t ∷ terms) v = CanFinish t.epilogue v × CanFinishAll terms (finished t.epilogue v)

-- the numbers of the term are within tables of n semaphores and m counters
pub record IsWithin (n m : ℕ) (t : Term) : Type 0 where
  pub prologue : PrologueWithin n m t.prologue
  pub epilogue : EpilogueWithin n m t.epilogue

-- the counts with one more, and with one less, for an operation that has terms
abbrev pub one_more : List Term → ℕ → List ℕ → List ℕ
one_more [] op counts = counts
one_more (t ∷ terms) op counts = slice_set counts op (slice_index counts op + 1)

abbrev pub one_less : List Term → ℕ → List ℕ → List ℕ
one_less [] op counts = counts
one_less (t ∷ terms) op counts = slice_set counts op (slice_index counts op - 1)
