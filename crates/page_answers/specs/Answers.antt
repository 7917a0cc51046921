-- What the status and the output of an answer say.
use Rattle.std.specs.Prelude.{◌≡◌, ℕ, List, []}
use Rattle.tell_base.specs.declared.status.Status.{Status}
use Rattle.tell_base.specs.declared.status.Status.TheVariants.{StreamFailed, NoMemory}
use Rattle.tell_base.specs.Writes.{IsFrontOf}
use Rattle.page_answers.specs.declared.answer.SearchAnswer.{SearchAnswer}
use Rattle.page_answers.specs.declared.answer.SearchAnswer.TheVariants.{Ended, Undecided}

-- A command with this table has answered so: with bytes that the table has at the status, or with a front of them if memory ran out. No
-- stream fails.
abbrev pub Answers : (Status → List ℕ → Type 0) → Status → List ℕ → Type 0
Answers table NoMemory out = IsFrontOf (λ all. (s : Status) × table s all) out
Answers table StreamFailed out = ⊥
Answers table status out = table status out

-- how a search with this table has answered: as a command does, or that it came to no answer, for this cause
abbrev pub IsSearchAnswer : {Y : Type 0} → (Status → List ℕ → Type 0) → Type 0 → SearchAnswer Y → Type 0
IsSearchAnswer table cause (Ended answer) = Answers table answer.status answer.out.items
IsSearchAnswer table cause (Undecided answer) = (answer.out.items ≡ []) × cause
