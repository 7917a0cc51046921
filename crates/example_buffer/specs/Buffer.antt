-- A buffer of four places, in its own words.
use Rattle.std.specs.Prelude.{◌≡◌, ◌≤◌, ◌+◌, List, [], ◌∷◌, ◌++◌}
use Rattle.path_model.specs.declared.ids.OpId.{OpId}
use Rattle.path_model.specs.declared.history.Event.{Event}
use Rattle.path_model.specs.declared.journal.Line.{Line}
use Rattle.path_model.specs.Trees.{most, Tree, op, seq, burst}
use Rattle.path_model.specs.Declarations.{Declaration, trees}
use Rattle.path_model.specs.Histories.{begun, ended}
use Rattle.path_model.specs.Journals.{admitted_history}

abbrev pub put : OpId
put = record { 0 = 0 }

abbrev pub get : OpId
get = record { 0 = 1 }

-- { put ; get : 4 }
abbrev pub buffer_tree : Tree
buffer_tree = burst (most 4) (seq (op put) (op get))

-- the declaration has this path alone
abbrev pub IsBuffer : Declaration → Type 0
IsBuffer d = trees d ≡ buffer_tree ∷ []

-- each get that has begun follows a put that is over, and at most four puts that are over have no get yet
pub record IsInOrder (h : List Event) : Type 0 where
  pub after : begun get h ≤ ended put h
  pub places : ended put h ≤ begun get h + 4

-- that is so at each moment of the lines
abbrev pub KeepsOrder : List Line → Type 0
KeepsOrder ls = (x y : List Event) → x ++ y ≡ admitted_history ls → IsInOrder x
