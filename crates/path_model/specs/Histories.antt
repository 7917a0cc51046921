-- Histories: lists of events, and how often an operation began and ended in one.
use Rattle.std.specs.Prelude.{◌==◌, ◌<◌, ◌+◌, if◌then◌else◌, ℕ, List, [], ◌∷◌}
use Rattle.path_model.specs.declared.ids.OpId.{OpId}
use Rattle.path_model.specs.declared.history.Event.{Event}
use Rattle.path_model.specs.declared.history.Event.TheVariants.{Began, Ended}

-- the operation of an event
abbrev pub op_of : Event → OpId
op_of (Began a) = a
op_of (Ended a) = a

-- how often the operation has begun, and how often it has ended
abbrev pub begun : OpId → List Event → ℕ
begun a [] = 0
begun a (Began b ∷ h) = if b.0 == a.0 then (begun a h + 1) else begun a h
begun a (Ended b ∷ h) = begun a h

abbrev pub ended : OpId → List Event → ℕ
ended a [] = 0
ended a (Ended b ∷ h) = if b.0 == a.0 then (ended a h + 1) else ended a h
ended a (Began b ∷ h) = ended a h

abbrev pub InProgress : OpId → List Event → Type 0
InProgress a h = ended a h < begun a h

-- how many starts there are
abbrev pub starts_in : List Event → ℕ
starts_in [] = 0
starts_in (Began a ∷ h) = starts_in h + 1
starts_in (Ended a ∷ h) = starts_in h

abbrev pub starts_of : List OpId → List Event
starts_of [] = []
starts_of (a ∷ u) = Began a ∷ starts_of u

abbrev pub HasFinish : List Event → Type 0
HasFinish [] = ⊥
HasFinish (Began a ∷ w) = HasFinish w
HasFinish (Ended a ∷ w) = Unit {0}
