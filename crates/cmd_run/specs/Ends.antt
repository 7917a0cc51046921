-- How each process of a run ended: in words, and as a status.
use Rattle.std.specs.Prelude.{◌≡◌, ◌≢◌, ℕ, List, [], ◌∷◌, ◌++◌, codes, All}
use Rattle.path_model.specs.Declarations.{Declaration}
use Rattle.path_lines.specs.LineTexts.{operation_text, reply_text}
use Rattle.path_script.specs.Scripts.{Plan}
use Rattle.path_run.specs.declared.outcome.End.{End}
use Rattle.path_run.specs.declared.outcome.End.TheVariants as ends
use Rattle.tell_base.specs.declared.status.Status.{Status}
use Rattle.tell_base.specs.declared.status.Status.TheVariants as statuses

-- how a process ended, in words
abbrev pub end_text : Declaration → End → List ℕ
end_text d ends.Done = codes "done"
end_text d (ends.Stalled op) = codes "stalled " ++ operation_text d op
end_text d ends.NoRoom = codes "no room"
end_text d (ends.Faulted reply) = codes "faulted " ++ reply_text reply
end_text d ends.Stopped = codes "stopped"
end_text d ends.NoMemory = codes "no memory"
end_text d ends.NotStarted = codes "not started"

-- the line of a process: its name, and how it ended
abbrev pub end_line : Declaration → List ℕ → End → List ℕ
end_line d name end = name ++ (codes ": " ++ (end_text d end ++ 10 ∷ []))

-- the lines of all processes, in order
abbrev pub ends_text : Declaration → List Plan → List End → List ℕ
ends_text d [] es = []
ends_text d (p ∷ ps) [] = []
ends_text d (p ∷ ps) (e ∷ es) = end_line d p.name e ++ ends_text d ps es

abbrev pub AllDone : List End → Type 0
AllDone es = All (λ e. e ≡ ends.Done) es

abbrev pub NotAllDone : List End → Type 0
NotAllDone es = AllDone es → ⊥

abbrev pub NoneLackedMemory : List End → Type 0
NoneLackedMemory es = All (λ e. e ≢ ends.NoMemory) es

-- the status of a run whose processes ended so
abbrev pub IsStatusOf : List End → Status → Type 0
IsStatusOf es statuses.Done = AllDone es
IsStatusOf es statuses.NoMemory = NoneLackedMemory es → ⊥
IsStatusOf es statuses.Unsound = NotAllDone es × NoneLackedMemory es
IsStatusOf es status = ⊥

-- the table of what writes these bytes of a run whose processes ended so
abbrev pub WritesRun : List End → List ℕ → Status → List ℕ → Type 0
WritesRun es bytes statuses.Done out = AllDone es × (out ≡ bytes)
WritesRun es bytes statuses.Unsound out = NotAllDone es × (out ≡ bytes)
WritesRun es bytes status out = ⊥
