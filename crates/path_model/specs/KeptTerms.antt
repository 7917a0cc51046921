-- What the trimmed terms touch, and what a finish finds.
use Rattle.std.specs.Prelude.{◌≤◌, ◌<◌, List, [], ◌∷◌, ◌++◌}
use Rattle.path_model.specs.declared.ids.OpId.{OpId}
use Rattle.path_model.specs.declared.history.Event.{Event}
use Rattle.path_model.specs.declared.history.Event.TheVariants.{Ended}
use Rattle.path_model.specs.Trees.{Tree, Names, WellFormed}
use Rattle.path_model.specs.Projection.{LegalOn}
use Rattle.path_model.specs.Machine.{semicolons, braces, Term, Plain, Braced, Counted, epilogue, Values, opening}
use Rattle.path_model.specs.AmongOthers.{values_among}
use Rattle.path_model.specs.Trimmed.{LeanTerm, nothing, does, limits, lean_prologue, lean_epilogue, KeepsSemaphore, KeepsCounter}
use Rattle.path_model.specs.Flat.{HasBound}

-- the term touches only semaphores, counters and bounds that the path has and keeps
abbrev pub TouchesKept : Tree → LeanTerm → Type 0
TouchesKept s nothing = Unit {0}
TouchesKept s (does (Plain q)) = (q ≤ semicolons s) × KeepsSemaphore s q
TouchesKept s (does (Braced c q)) = ((c < braces s) × KeepsCounter s c) × (q ≤ semicolons s) × KeepsSemaphore s q
TouchesKept s (does (Counted c q)) = ((c < braces s) × KeepsCounter s c) × ((q ≤ semicolons s) × KeepsSemaphore s q) × HasBound s 0 c
TouchesKept s (limits c) = HasBound s 0 c

abbrev pub TrimmedTermsTouchTheKept : Type 0
TrimmedTermsTouchTheKept =
    (s : Tree) → WellFormed s → (a : OpId) → Names s a
    → TouchesKept s (lean_prologue s a) × TouchesKept s (lean_epilogue s a)

-- each counter that the term lowers is above 0
abbrev pub FindsCounter : Term → Values → Type 0
FindsCounter (Plain q) v = Unit {0}
FindsCounter (Braced c q) v = 0 < v.counter c
FindsCounter (Counted c q) v = 0 < v.counter c

-- a finish that keeps the history legal finds each counter that it lowers above 0
abbrev pub FinishesFindTheirCounters : Type 0
FinishesFindTheirCounters =
    (s : Tree) → WellFormed s → (h : List Event) (a : OpId) → Names s a → LegalOn s (h ++ Ended a ∷ [])
    → FindsCounter (epilogue s a) (values_among s (opening s) h)
