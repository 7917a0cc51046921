-- Who waits for a start: a worker whose last attempt was a start that a path refused, since when nothing finished.
use Rattle.std.specs.Prelude.{◌≢◌, ℕ, List, [], ◌∷◌, ◌++◌}
use Rattle.path_model.specs.declared.ids.OpId.{OpId}
use Rattle.path_model.specs.declared.ids.ActId.{ActId}
use Rattle.path_model.specs.declared.ids.PathId.{PathId}
use Rattle.path_model.specs.declared.journal.Reply.TheVariants.{Finished}
use Rattle.path_model.specs.declared.journal.Line.{Line}
use Rattle.path_model.specs.Trees.{WellFormed}
use Rattle.path_model.specs.Legal.{Every}
use Rattle.path_model.specs.Declarations.{Declaration, paths_of}
use Rattle.path_model.specs.Honest.{IsHonest}
use Rattle.path_model.specs.Stuck.{HasFinishLine, blocked_line, started_line}

-- after these lines the worker waits for a start of the operation: the last line is that start, refused by a path; or the worker waited
-- before the last line, which is another worker's and no finish
pub data WaitsFor (w : ℕ) (a : OpId) : List Line → Type 0 where
  refused : (ls : List Line) (p : PathId) → WaitsFor w a (ls ++ blocked_line w a p ∷ [])
  others : (ls : List Line) (l : Line) → WaitsFor w a ls → l.worker ≢ w → l.reply ≢ Finished → WaitsFor w a (ls ++ l ∷ [])

-- whoever waits for an operation: before anybody starts it, something finishes
abbrev pub WaitsUntilAFinish : Type 0
WaitsUntilAFinish =
    (d : Declaration) (room : ℕ) (openings : List (List ℕ)) → Every WellFormed (paths_of d)
    → (x y : List Line) (v w : ℕ) (a : OpId) (n : ActId)
    → WaitsFor v a x → IsHonest d room openings (x ++ (y ++ started_line w a n ∷ []))
    → HasFinishLine y
