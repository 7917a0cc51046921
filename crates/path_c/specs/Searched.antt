-- What a search of all schedules answers, and what it puts into a buffer.
use Rattle.std.specs.Prelude.{◌≡◌, ◌+◌, ◌*◌, ℕ, List, min}
use Rattle.std.specs.Global.{Global}
use Rattle.std.specs.String.{string_bytes}
use Rattle.path_service.specs.declared.exploring.Found.{Found}
use Rattle.path_service.specs.declared.exploring.Found.TheVariants.{AllDone, Stalls, Refused, Undecided}
use Rattle.path_service.specs.declared.fault.ExploreRefusal.{ExploreRefusal}
use Rattle.path_service.specs.Searches.{FindsIn, IsExploreRefusal}
use Rattle.path_c.specs.declared.answer.CodedAnswer.{CodedAnswer}
use Rattle.path_c.specs.Answers.{numbered, search_answer}
use Rattle.path_c.specs.Calls.{IsGivenAs}

-- a length that no journal of a script with so many bytes passes
abbrev pub enough : ℕ → ℕ
enough n = 8 * min n 262144 + 64

-- the answer and the buffer tell what was found
abbrev pub IsToldOf : {Y : Type 0} → Found Y → List ℕ → CodedAnswer → List ℕ → Type 0
IsToldOf (AllDone states) old answer new = (answer ≡ numbered 47 states) × (new ≡ old)
IsToldOf (Stalls w) old answer new = IsGivenAs 48 (string_bytes w.journal) old answer new
IsToldOf (Refused w) old answer new = IsGivenAs 49 (string_bytes w.journal) old answer new
IsToldOf (Undecided states) old answer new = (answer ≡ numbered 50 states) × (new ≡ old)

-- the schedules of the second text were searched under the first, and what was found is told
pub record IsSearched (declaration script : List ℕ) (most : ℕ) (old : List ℕ) (answer : CodedAnswer) (new : List ℕ) : Type 0 where
  pub found : Found Global
  pub finds : FindsIn declaration script most found
  pub told : IsToldOf found old answer new

-- they weren't, for a reason that the answer tells
abbrev pub IsUnsearched : List ℕ → List ℕ → List ℕ → CodedAnswer → List ℕ → Type 0
IsUnsearched declaration script old answer new =
    (refusal : ExploreRefusal) × (answer ≡ search_answer refusal) × IsExploreRefusal declaration script refusal × (new ≡ old)
