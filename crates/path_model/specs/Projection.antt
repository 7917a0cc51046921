-- The projection of a history on a path: the events whose operations the path names.
use Rattle.std.specs.Prelude.{if◌then◌else◌, List, [], ◌∷◌}
use Rattle.path_model.specs.declared.history.Event.{Event}
use Rattle.path_model.specs.Trees.{Tree, has}
use Rattle.path_model.specs.Histories.{op_of}
use Rattle.path_model.specs.Behaviour.{Behaves}

-- the events whose operations the tree names
abbrev pub projection : Tree → List Event → List Event
projection s [] = []
projection s (e ∷ h) = if has s (op_of e) then (e ∷ projection s h) else projection s h

-- the history is legal on the path
abbrev pub LegalOn : Tree → List Event → Type 0
LegalOn s h = Behaves s (projection s h)
