-- Executions of a tree: how often a history begins and ends one, and whether one is underway.
use Rattle.std.specs.Prelude.{◌==◌, ◌<◌, ◌+◌, ◌-◌, if◌then◌else◌, ℕ, List, [], ◌∷◌, ◌⊎◌}
use Rattle.path_model.specs.declared.history.Event.{Event}
use Rattle.path_model.specs.declared.history.Event.TheVariants.{Began, Ended}
use Rattle.path_model.specs.Trees.{Tree, op, seq, alt, burst}
use Rattle.path_model.specs.Histories.{begun, ended, InProgress}

-- an event begins the tree, or ends it
abbrev pub entry : Tree → Event → ℕ
entry (op b) (Began a) = if a.0 == b.0 then 1 else 0
entry (op b) (Ended a) = 0
entry (seq s t) e = entry s e
entry (alt s t) e = entry s e + entry t e
entry (burst bd s) e = entry s e

abbrev pub exit : Tree → Event → ℕ
exit (op b) (Began a) = 0
exit (op b) (Ended a) = if a.0 == b.0 then 1 else 0
exit (seq s t) e = exit t e
exit (alt s t) e = exit s e + exit t e
exit (burst bd s) e = exit s e

-- the number of executions of the tree that aren't over, c before the history
abbrev pub count : Tree → ℕ → List Event → ℕ
count s c [] = c
count s c (e ∷ w) = count s (c + entry s e - exit s e) w

-- how often it left 0, and how often it came back
abbrev pub opens : Tree → ℕ → List Event → ℕ
opens s c [] = 0
opens s c (e ∷ w) = (if c == 0 then entry s e else 0) + opens s (c + entry s e - exit s e) w

abbrev pub closes : Tree → ℕ → List Event → ℕ
closes s c [] = 0
closes s c (e ∷ w) = (if c + entry s e - exit s e == 0 then exit s e else 0) + closes s (c + entry s e - exit s e) w

-- how often the tree was entered, and how often it was left; braces are entered and left where they are opened and closed
abbrev pub entered : Tree → List Event → ℕ
entered (op a) h = begun a h
entered (seq s t) h = entered s h
entered (alt s t) h = entered s h + entered t h
entered (burst bd s) h = opens s 0 h

abbrev pub left : Tree → List Event → ℕ
left (op a) h = ended a h
left (seq s t) h = left t h
left (alt s t) h = left s h + left t h
left (burst bd s) h = closes s 0 h

-- how often the operations of the tree began, and how often they ended
abbrev pub begins_within : Tree → List Event → ℕ
begins_within (op a) h = begun a h
begins_within (seq s t) h = begins_within s h + begins_within t h
begins_within (alt s t) h = begins_within s h + begins_within t h
begins_within (burst bd s) h = begins_within s h

abbrev pub ends_within : Tree → List Event → ℕ
ends_within (op a) h = ended a h
ends_within (seq s t) h = ends_within s h + ends_within t h
ends_within (alt s t) h = ends_within s h + ends_within t h
ends_within (burst bd s) h = ends_within s h

-- an operation of the tree is in progress, or the right operand of a semicolon has still to follow the left one
abbrev pub TreeInProgress : Tree → List Event → Type 0
TreeInProgress (op a) h = InProgress a h
TreeInProgress (seq s t) h = TreeInProgress s h ⊎ ((entered t h < left s h) ⊎ TreeInProgress t h)
TreeInProgress (alt s t) h = TreeInProgress s h ⊎ TreeInProgress t h
TreeInProgress (burst bd s) h = TreeInProgress s h
