-- Honest journals: each reply was owed by the lines before it.
use Rattle.std.specs.Prelude.{◌≡◌, ◌≢◌, ◌≤◌, ◌+◌, ◌↔◌, ℕ, List, [], ◌∷◌, ◌++◌, All, Some}
use Rattle.path_model.specs.declared.ids.OpId.{OpId}
use Rattle.path_model.specs.declared.journal.Attempt.{Attempt}
use Rattle.path_model.specs.declared.journal.Reply.{Reply}
use Rattle.path_model.specs.declared.journal.Reply.TheVariants.{NoRoom}
use Rattle.path_model.specs.declared.journal.Line.{Line}
use Rattle.path_model.specs.Trees.{WellFormed}
use Rattle.path_model.specs.Histories.{begun, ended}
use Rattle.path_model.specs.Legal.{Every, Legal}
use Rattle.path_model.specs.Declarations.{Declaration, paths_of}
use Rattle.path_model.specs.Journals.{activation_of, live, live_count, admitted_history}
use Rattle.path_model.specs.Owed.{taken, Judge, by_words, by_machine, OwedBy, Owed, OwedByMachine}

abbrev pub IsHonestFrom : Judge → Declaration → ℕ → List (List ℕ) → List Line → List Line → Type 0
IsHonestFrom judge d room openings before [] = Unit {0}
IsHonestFrom judge d room openings before (l ∷ ls) =
    OwedBy judge d room openings before l.worker l.attempt l.reply
    × (l.reply ≢ NoRoom)
    × IsHonestFrom judge d room openings (before ++ l ∷ []) ls

-- each line's reply is owed by the lines before it, and none is NoRoom
abbrev pub IsHonest : Declaration → ℕ → List (List ℕ) → List Line → Type 0
IsHonest d room openings ls = IsHonestFrom (by_words d) d room openings [] ls

-- the same, with starts judged by the semaphores
abbrev pub IsHonestByMachine : Declaration → ℕ → List (List ℕ) → List Line → Type 0
IsHonestByMachine d room openings ls = IsHonestFrom (by_machine d) d room openings [] ls

-- a front of an honest journal is an honest journal
abbrev pub FrontsAreHonest : Type 0
FrontsAreHonest =
    (d : Declaration) (room : ℕ) (openings : List (List ℕ)) (x y : List Line)
    → IsHonest d room openings (x ++ y) → IsHonest d room openings x

-- after an honest journal words and semaphores owe the same replies
abbrev pub TheMachineOwesTheSame : Type 0
TheMachineOwesTheSame =
    (d : Declaration) (room : ℕ) (openings : List (List ℕ)) → Every WellFormed (paths_of d)
    → (ls : List Line) → IsHonest d room openings ls
    → (w : ℕ) (attempt : Attempt) (r : Reply)
    → OwedByMachine d room openings ls w attempt r ↔ Owed d room openings ls w attempt r

-- so a journal is honest by the semaphores if and only if it is honest
abbrev pub HonestByMachineIsHonest : Type 0
HonestByMachineIsHonest =
    (d : Declaration) (room : ℕ) (openings : List (List ℕ)) → Every WellFormed (paths_of d)
    → (ls : List Line) → IsHonestByMachine d room openings ls ↔ IsHonest d room openings ls

-- the admitted history of an honest journal is legal on every path
abbrev pub EachHonestJournalIsLegal : Type 0
EachHonestJournalIsLegal =
    (d : Declaration) (room : ℕ) (openings : List (List ℕ)) → Every WellFormed (paths_of d)
    → (ls : List Line) → IsHonest d room openings ls → Legal (paths_of d) (admitted_history ls)

-- there is room for the lines and for the finishes still to come
abbrev pub EachHonestJournalHasRoom : Type 0
EachHonestJournalHasRoom =
    (d : Declaration) (room : ℕ) (openings : List (List ℕ)) (ls : List Line) → IsHonest d room openings ls → taken ls ≤ room

-- each live activation is found by its number
abbrev pub EachLiveActivationIsFound : Type 0
EachLiveActivationIsFound =
    (d : Declaration) (room : ℕ) (openings : List (List ℕ)) (ls : List Line)
    → IsHonest d room openings ls → All (λ a. activation_of a.act (live ls) ≡ Some a) (live ls)

-- an operation has as many live activations as it has begun and not ended
abbrev pub LiveActivationsAreInProgress : Type 0
LiveActivationsAreInProgress =
    (d : Declaration) (room : ℕ) (openings : List (List ℕ)) (ls : List Line) → IsHonest d room openings ls
    → (a : OpId) → live_count a (live ls) + ended a (admitted_history ls) ≡ begun a (admitted_history ls)

-- some reply is owed to each attempt
abbrev pub EachAttemptIsOwedAReply : Type 0
EachAttemptIsOwedAReply =
    (d : Declaration) (room : ℕ) (openings : List (List ℕ)) → Every WellFormed (paths_of d)
    → (ls : List Line) → IsHonest d room openings ls
    → (w : ℕ) (attempt : Attempt) → (r : Reply) × Owed d room openings ls w attempt r
