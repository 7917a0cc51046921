-- What a page is told of an answer.
use Rattle.std.specs.Prelude.{◌≡◌, ◌≤◌, ◌⊎◌, ℕ, List, [], length}
use Rattle.tell_base.specs.declared.status.Status.{Status}
use Rattle.tell_base.specs.Statuses.{status_number}
use Rattle.page_answers.specs.Answers.{Answers}
use Rattle.page_answers.specs.Buffers.{IsShort, overlaid}

-- both texts fit: the number is this one, and each buffer has its text over its front
abbrev pub IsGivenAs : ℕ → List ℕ → List ℕ → ℕ → List ℕ → List ℕ → List ℕ → List ℕ → Type 0
IsGivenAs told out err number out_old out_new err_old err_new =
    (length out ≤ length out_old) × (length err ≤ length err_old) × (number ≡ told)
    × (out_new ≡ overlaid out out_old) × (err_new ≡ overlaid err err_old)

-- the number is that of a status
abbrev pub IsGiven : Status → List ℕ → List ℕ → ℕ → List ℕ → List ℕ → List ℕ → List ℕ → Type 0
IsGiven status out err number out_old out_new err_old err_new =
    IsGivenAs (status_number status) out err number out_old out_new err_old err_new

-- a buffer is too short: the number is 7, and both buffers are as before
abbrev pub IsTooShort : List ℕ → List ℕ → ℕ → List ℕ → List ℕ → List ℕ → List ℕ → Type 0
IsTooShort out err number out_old out_new err_old err_new =
    IsShort out err out_old err_old × (number ≡ 7) × (out_new ≡ out_old) × (err_new ≡ err_old)

-- a command ended with a status and an output of which P holds; the page is told the lengths of both its texts, and gets them, or that
-- a buffer is too short
abbrev pub IsTold : (Status → List ℕ → Type 0) → ℕ → ℕ → ℕ → List ℕ → List ℕ → List ℕ → List ℕ → Type 0
IsTold P number out_length err_length out_old out_new err_old err_new =
    (status : Status) × (out : List ℕ) × (err : List ℕ) × P status out × (out_length ≡ length out) × (err_length ≡ length err)
    × (IsGiven status out err number out_old out_new err_old err_new ⊎ IsTooShort out err number out_old out_new err_old err_new)

-- the page is told that a search came to no answer, for this cause: the number is 8, and the output empty
abbrev pub IsToldUndecided : Type 0 → ℕ → ℕ → ℕ → List ℕ → List ℕ → List ℕ → List ℕ → Type 0
IsToldUndecided cause number out_length err_length out_old out_new err_old err_new =
    cause × (out_length ≡ 0)
    × ((err : List ℕ) × (err_length ≡ length err)
    × (IsGivenAs 8 [] err number out_old out_new err_old err_new ⊎ IsTooShort [] err number out_old out_new err_old err_new))

-- a search with this table ended as a command does, or came to no answer, for this cause
abbrev pub IsSearchTold : (Status → List ℕ → Type 0) → Type 0 → ℕ → ℕ → ℕ → List ℕ → List ℕ → List ℕ → List ℕ → Type 0
IsSearchTold table cause number out_length err_length out_old out_new err_old err_new =
    IsTold (Answers table) number out_length err_length out_old out_new err_old err_new
    ⊎ IsToldUndecided cause number out_length err_length out_old out_new err_old err_new
