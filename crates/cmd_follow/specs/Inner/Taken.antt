-- How far a follow has come.
use Rattle.std.specs.Prelude.{◌≡◌, ℕ, Bool, true, false, List, [], ◌∷◌, ◌++◌, ◌⊎◌, Option}
use Rattle.std.specs.Io.KnownBytes.{Appends, Consumes, Keeps}
use Rattle.path_model.specs.declared.journal.Attempt.{Attempt}
use Rattle.path_model.specs.declared.journal.Reply.{Reply}
use Rattle.path_model.specs.declared.journal.Reply.TheVariants.{NoRoom}
use Rattle.path_model.specs.declared.journal.Line.{Line}
use Rattle.path_system.specs.Accounts.{Account}
use Rattle.cmd_follow.specs.declared.answer.Answered.{Answered}
use Rattle.cmd_follow.specs.declared.answer.Answered.TheVariants as answered
use Rattle.cmd_follow.specs.declared.stop.Stop.{Stop}
use Rattle.cmd_follow.specs.Follows.{IsAnswer, IsRefusedLine, Follows}
use Rattle.cmd_follow.specs.Stops.{UnlessWriting}

-- the account after some lines: only the journal and the counts of failures have changed
abbrev pub GoesOn : Account → Account → Type 0
GoesOn old new = new ≡ record old { journal = new.journal; failures = new.failures }

-- these bytes answer a line
abbrev pub Answers : Type 0 → Account → Account → List ℕ → List ℕ → Type 0
Answers may_fail old new line bytes =
    GoesOn old new × IsAnswer old.declaration old.room old.openings may_fail old.journal line new.journal bytes

-- what becomes of an attempt with this reply: the journal has its line more, unless there is no room
abbrev pub outcome : ℕ → Attempt → Reply → Answered
outcome w a NoRoom = answered.Told
outcome w a r = answered.Line (record { worker = w; attempt = a; reply = r })

-- what holds of a line that was answered
abbrev pub IfAnswered : Answered → Type 0 → Type 0
IfAnswered (answered.Refused fault) P = Unit {0}
IfAnswered a P = P

-- and of one that was refused
abbrev pub IfRefused : Answered → Type 0 → Type 0
IfRefused (answered.Refused fault) P = P
IfRefused a P = Unit {0}

-- the line that the journal has more then
abbrev pub added : Answered → List Line
added (answered.Line line) = line ∷ []
added a = []

-- one line was answered by these bytes, or it was refused; the bits say whether a line was refused until before it, and with it
abbrev pub TakesBy : Type 0 → Account → Account → List ℕ → Bool → Bool → List ℕ → Type 0
TakesBy may_fail old new line before after bytes =
    (Answers may_fail old new line bytes × (after ≡ before))
    ⊎ ((new ≡ old) × IsRefusedLine old.declaration line × (after ≡ true) × (bytes ≡ []))

-- the same, and the bytes were written
abbrev pub Takes : Type 0 → Account → Account → List ℕ → Bool → Bool → Option (List ℕ) → Option (List ℕ) → Type 0
Takes may_fail old new line before after wrote writes =
    (bytes : List ℕ) × TakesBy may_fail old new line before after bytes × Appends wrote writes bytes

-- the first lines of a text were taken, and this is left of it
pub record Passes (may_fail : Type 0) (start now : Account) (text left : List ℕ) (before after : Bool)
    (wrote writes : Option (List ℕ)) : Type 0 where
  pub done : List ℕ
  pub bytes : List ℕ
  pub parts : text ≡ done ++ left
  pub goes_on : GoesOn start now
  pub appends : Appends wrote writes bytes
  pub forth : (whole : Bool) (rest : List ℕ) (end : List Line) (e : Bool) (more : List ℕ)
      → Follows start.declaration start.room start.openings may_fail whole now.journal after rest end e more
      → Follows start.declaration start.room start.openings may_fail whole start.journal before (done ++ rest) end e (bytes ++ more)

-- the journal has these lines when the first lines of a text were taken, whether they were answered or not
abbrev pub Took : Type 0 → Account → List ℕ → Bool → List Line → Type 0
Took may_fail start text before end =
    (bytes : List ℕ) × (e : Bool) × Follows start.declaration start.room start.openings may_fail false start.journal before text end e bytes

-- answers to the first lines of a text were written, and no more, and the journal had these lines then
abbrev pub Sent : Type 0 → Account → List ℕ → Bool → List Line → Option (List ℕ) → Option (List ℕ) → Type 0
Sent may_fail start text before end wrote writes =
    (bytes : List ℕ) × (e : Bool)
    × Follows start.declaration start.room start.openings may_fail false start.journal before text end e bytes
    × Appends wrote writes bytes

-- a keeper that had kept the lines so far has kept these lines of a journal, or it failed to keep more
abbrev pub Leaves : {K : Type 0} → (K → K → List Line → List Line → Type 0) → (K → K → List Line → List Line → List Line → Type 0)
    → K → K → List Line → List Line → List Line → Type 0
Leaves {K} keeps left old new journal end more = (first : K) (found : List Line) → keeps first old found journal
    → ((more ≡ []) × keeps first new found end) ⊎ left first new found end more

-- Where a follow stopped. The journal has the first of these lines, and each was answered, unless a write failed; the others were taken,
-- and weren't kept or answered.
pub record Stops (may_fail : Type 0) (start : Account) (text : List ℕ) (before : Bool) (wrote writes : Option (List ℕ)) (stop : Stop)
    (end more : List Line) : Type 0 where
  pub taken : Took may_fail start text before (end ++ more)
  pub answered : UnlessWriting stop (Sent may_fail start text before end wrote writes)

-- the same, with what P says of these lines
abbrev pub Stopped : Type 0 → Account → List ℕ → Bool → Option (List ℕ) → Option (List ℕ) → Stop → (List Line → List Line → Type 0) → Type 0
Stopped may_fail start text before wrote writes stop P =
    (end : List Line) × (more : List Line) × Stops may_fail start text before wrote writes stop end more × P end more

-- a follow stopped that began with no line refused, and no write failed
abbrev pub StoppedSent : Type 0 → Account → List ℕ → Option (List ℕ) → Option (List ℕ) → (List Line → List Line → Type 0) → Type 0
StoppedSent may_fail start text wrote writes P =
    (end : List Line) × (more : List Line)
    × Took may_fail start text false (end ++ more) × Sent may_fail start text false end wrote writes × P end more

-- the same, and what was written isn't known
abbrev pub StoppedTook : Type 0 → Account → List ℕ → (List Line → List Line → Type 0) → Type 0
StoppedTook may_fail start text P = (end : List Line) × (more : List Line) × Took may_fail start text false (end ++ more) × P end more

-- the journal has these lines when a line was taken, or without it
abbrev pub TookLine : Type 0 → Account → List ℕ → Bool → List Line → Type 0
TookLine may_fail old line before ls =
    (ls ≡ old.journal)
    ⊎ ((next : Account) × (after : Bool) × (bytes : List ℕ) × TakesBy may_fail old next line before after bytes × (ls ≡ next.journal))

-- a follow stopped in a line, as above: unless a write failed, it isn't answered
abbrev pub StoppedLine : Type 0 → Account → List ℕ → Bool → Option (List ℕ) → Option (List ℕ) → Stop → (List Line → List Line → Type 0)
    → Type 0
StoppedLine may_fail old line before wrote writes stop P =
    (end : List Line) × (more : List Line)
    × TookLine may_fail old line before (end ++ more) × UnlessWriting stop ((end ≡ old.journal) × Keeps wrote writes) × P end more

-- all lines of a text were answered or refused, and the answers written; the journal has these lines then
abbrev pub Through : Type 0 → Account → List ℕ → Bool → Bool → List Line → Option (List ℕ) → Option (List ℕ) → Type 0
Through may_fail start text before after end wrote writes =
    (bytes : List ℕ)
    × Follows start.declaration start.room start.openings may_fail true start.journal before text end after bytes
    × Appends wrote writes bytes

-- a reader gave a text, whose first lines were taken, and this is left of it
abbrev pub PassesRead : Type 0 → Account → Account → Option (List ℕ) → Option (List ℕ) → List ℕ → Bool → Bool
    → Option (List ℕ) → Option (List ℕ) → Type 0
PassesRead may_fail start now had has left before after wrote writes =
    (text : List ℕ) × Consumes had has text × Passes may_fail start now text left before after wrote writes
