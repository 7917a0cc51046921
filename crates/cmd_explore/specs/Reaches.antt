-- What a search of all histories of a declaration writes.
use Rattle.std.specs.Prelude.{◌≡◌, ◌<◌, ◌≤◌, ◌⊎◌, ◌+◌, ℕ, Bool, true, false, List, [], ◌∷◌, ◌++◌, codes, decimal, length}
use Rattle.std.specs.Prelude.{Some}
use Rattle.path_model.specs.declared.ids.OpId.{OpId}
use Rattle.path_model.specs.declared.journal.Line.{Line}
use Rattle.path_model.specs.Declarations.{Declaration}
use Rattle.path_lines.specs.LineTexts.{operation_text}
use Rattle.path_journal.specs.JournalTexts.{journal_text}
use Rattle.search_histories.specs.declared.reached.Reached.{Reached}
use Rattle.search_histories.specs.declared.reached.Reached.TheVariants.{Goes, Freezes, FreezesLate, Undecided}
use Rattle.search_histories.specs.Histories.{Begins}
use Rattle.search_histories.specs.Apart.{all_of}
use Rattle.search_histories.specs.Outcomes.{ample, EachGoes, OfSomeGroup, IsShortestFreeze, IsLateFreeze}
use Rattle.tell_base.specs.declared.status.Status.{Status}
use Rattle.tell_base.specs.declared.status.Status.TheVariants.{Done, Unsound}
use Rattle.tell_base.specs.Ends.{OfText, Writes as WritesBytes}

abbrev pub states_line : ℕ → List ℕ
states_line states = codes "states " ++ (decimal states ++ 10 ∷ [])

-- what is written if every operation begins and no history freezes a group
abbrev pub fine_text : ℕ → List ℕ
fine_text states = codes "every operation begins, the resources never all freeze" ++ (10 ∷ states_line states)

-- the line of an operation that never begins
abbrev pub never_line : Declaration → ℕ → Bool → List ℕ
never_line d n true = []
never_line d n false = codes "never " ++ (operation_text d (record { 0 = n }) ++ 10 ∷ [])

-- the lines of those that never begin, by the marks of the operations from n on
abbrev pub never_lines : Declaration → ℕ → List Bool → List ℕ
never_lines d n [] = []
never_lines d n (begins ∷ rest) = never_line d n begins ++ never_lines d (n + 1) rest

-- what is written of so many states and these lines, and how it ends
abbrev pub Tells : ℕ → List ℕ → Status → List ℕ → Type 0
Tells states [] = WritesBytes Done (fine_text states)
Tells states (b ∷ bs) = WritesBytes Unsound ((b ∷ bs) ++ states_line states)

-- what is written of what a search came to
abbrev pub Says : {Y : Type 0} → Declaration → Reached Y → Status → List ℕ → Type 0
Says d (Goes states begins) = Tells states (never_lines d 0 begins.items)
Says d (Freezes lines) = WritesBytes Unsound (journal_text d (Some ample) lines.items)
Says d FreezesLate = WritesBytes Unsound []
Says d (Undecided states) = λ status out. ⊥

-- a search came to no answer
abbrev pub IsOpen : {Y : Type 0} → Reached Y → Type 0
IsOpen (Undecided states) = Unit {0}
IsOpen reached = ⊥

-- there are marks of no more operations than a declaration can have
abbrev pub FewMarks : {Y : Type 0} → Reached Y → Type 0
FewMarks (Goes states begins) = length begins.items ≤ 256
FewMarks reached = Unit {0}

-- each operation begins behind some history of n workers, none of which freezes a group, and the groups have so many states
pub record WritesFine (d : Declaration) (n : ℕ) (bytes : List ℕ) : Type 0 where
  pub states : ℕ
  pub begins : List Bool
  pub goes : EachGoes d n states begins
  pub each_begins : (a : OpId) → a.0 < length d.operations → Begins d (all_of d) n a
  pub spelled : bytes ≡ fine_text states

-- no history freezes a group, and the bytes name the operations that none begins, one at least
pub record WritesNever (d : Declaration) (n : ℕ) (bytes : List ℕ) : Type 0 where
  pub states : ℕ
  pub begins : List Bool
  pub goes : EachGoes d n states begins
  pub some : 0 < length (never_lines d 0 begins)
  pub spelled : bytes ≡ never_lines d 0 begins ++ states_line states

-- the bytes are the journal of a shortest history of a group that freezes it, or there are none, since it would be too long
pub record WritesFreeze (d : Declaration) (n : ℕ) (bytes : List ℕ) : Type 0 where
  pub lines : List Line
  pub shortest : OfSomeGroup d (λ g. IsShortestFreeze d g n lines)
  pub spelled : bytes ≡ journal_text d (Some ample) lines

pub record WritesLate (d : Declaration) (n : ℕ) (bytes : List ℕ) : Type 0 where
  pub late : OfSomeGroup d (λ g. IsLateFreeze d g n)
  pub none : bytes ≡ []

-- what a search of the histories of n workers writes at its status
abbrev pub Writes : Declaration → ℕ → Status → List ℕ → Type 0
Writes d n Done bytes = WritesFine d n bytes
Writes d n Unsound bytes = WritesNever d n bytes ⊎ (WritesFreeze d n bytes ⊎ WritesLate d n bytes)
Writes d n status bytes = ⊥

-- how it ends under a declaration; no declaration that was read is refused
abbrev pub OfReach : Declaration → ℕ → Status → List ℕ → Type 0
OfReach d n = OfText (Writes d n) ⊥ ⊥
