-- The lines of a journal that goes on behind rotations, as contracts see them.
use Rattle.std.specs.Prelude.{List, [], ◌∷◌, ◌++◌, Option, None}
use Rattle.path_model.specs.declared.journal.Line.{Line}
use Rattle.path_state.specs.States.{State}

-- the state behind which they come, if others came before, the lines that each rotation gave away, and those since the last
pub record Lines : Type 0 where
  pub opened : Option State
  pub earlier : List (List Line)
  pub present : List Line

-- no lines, and none before
abbrev pub none : Lines
none = record { opened = None; earlier = []; present = [] }

-- one line more
abbrev pub one_more : Lines → Line → Lines
one_more lines l = record { opened = lines.opened; earlier = lines.earlier; present = lines.present ++ l ∷ [] }

-- the present lines are earlier ones
abbrev pub rotated : Lines → Lines
rotated lines = record { opened = lines.opened; earlier = lines.earlier ++ lines.present ∷ []; present = [] }
