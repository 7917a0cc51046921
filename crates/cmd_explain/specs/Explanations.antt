-- What an explanation of attempts is: each with its number and a reply that was owed to it.
use Rattle.std.specs.Prelude.{◌≡◌, ◌+◌, ℕ, List, [], ◌∷◌, ◌++◌, length, codes, decimal}
use Rattle.path_model.specs.declared.journal.Attempt.{Attempt}
use Rattle.path_model.specs.declared.journal.Reply.{Reply}
use Rattle.path_model.specs.declared.journal.Reply.TheVariants.{DeviceFailed}
use Rattle.path_model.specs.declared.journal.Line.{Line}
use Rattle.path_model.specs.Declarations.{Declaration}
use Rattle.path_model.specs.Journals.{with_line}
use Rattle.path_model.specs.Segments.{joined, OwedBehind}
use Rattle.path_model.specs.Rooms.{IsBadRoom}
use Rattle.path_lines.specs.LineTexts.{journal_line_text}
use Rattle.path_lines.specs.AttemptTexts.{Entry, IsAttemptsText}
use Rattle.path_shelf.specs.States.{State}
use Rattle.path_system.specs.Accounts.{Account, account_of}
use Rattle.tell_base.specs.declared.status.Status.{Status}
use Rattle.tell_base.specs.Ends.{AtDone, OfAttempts, UnderText}
use Rattle.tell_base.specs.Own.{own_states}
use Rattle.tell_base.specs.Refusals.{IsBadAttempts}
use Rattle.tell_journals.specs.Behind.{IsBehind, OfBehind}

-- the line of an attempt with its number and its reply, and a line feed
abbrev pub numbered_line : Declaration → ℕ → ℕ → Attempt → Reply → List ℕ
numbered_line d n w a r = decimal n ++ (codes ": " ++ (journal_line_text d (record { worker = w; attempt = a; reply = r }) ++ 10 ∷ []))

-- these attempts, made to a system, leave these lines in its journal, and the text has each with its number from 1 and the reply that all
-- lines before it owed; behind each may stand why. A device fails only if it may.
pub data AreExplained (may_fail : Type 0) (system : Account) : List Entry → List Line → List ℕ → Type 0 where
  none : AreExplained may_fail system [] system.journal []
  next : {es : List Entry} {ls : List Line} {text : List ℕ} (w : ℕ) (a : Attempt) (r : Reply) (why : List ℕ)
      → AreExplained may_fail system es ls text
      → OwedBehind system.declaration system.room system.openings (joined system.earlier) ls w a r → (r ≡ DeviceFailed → may_fail)
      → AreExplained may_fail system (es ++ (w, a) ∷ []) (with_line ls w a r)
      (text ++ (numbered_line system.declaration (length es + 1) w a r ++ why))

-- one attempt gets its reply: the system has stepped, and the text has grown by the attempt with its number and its reply, and by why
pub record IsExplainedStep (may_fail : Type 0) (old new : Account) (number w : ℕ) (a : Attempt) (before after : List ℕ) : Type 0 where
  pub reply : Reply
  pub why : List ℕ
  pub owed : OwedBehind old.declaration old.room old.openings (joined old.earlier) old.journal w a reply
  pub failed : reply ≡ DeviceFailed → may_fail
  pub stepped : new ≡ record old { journal = with_line old.journal w a reply; failures = new.failures }
  pub grown : after ≡ before ++ (numbered_line old.declaration number w a reply ++ why)

-- the text explains these attempts, made to a system; behind them may stand how each resource stands
pub record IsExplanation (may_fail : Type 0) (system : Account) (es : List Entry) (text : List ℕ) : Type 0 where
  pub journal : List Line
  pub steps : List ℕ
  pub standing : List ℕ
  pub told : AreExplained may_fail system es journal steps
  pub whole : text ≡ steps ++ standing

-- the text explains the attempts in another, made to a system
abbrev pub IsExplanationBy : Type 0 → Account → List ℕ → List ℕ → Type 0
IsExplanationBy may_fail system attempts text =
    (es : List Entry) × IsAttemptsText system.declaration attempts es × IsExplanation may_fail system es text

-- the same, made to one that was opened over devices in these states
abbrev pub IsExplanationOver : Declaration → List State → Type 0 → ℕ → List ℕ → List ℕ → Type 0
IsExplanationOver d states may_fail room attempts text = IsExplanationBy may_fail (account_of d room states) attempts text

-- the same, made to one that goes on behind the journal in these texts
abbrev pub IsExplanationBehind : Declaration → ℕ → List (List ℕ) → List ℕ → List ℕ → Type 0
IsExplanationBehind d given texts attempts text =
    (system : Account) × IsBehind d given texts system × IsExplanationBy ⊥ system attempts text

-- how an explanation of attempts ends, made over devices that never fail: each cell and tally contains 0 at first, each queue is empty
abbrev pub ExplanationEnd : ℕ → List ℕ → Declaration → Status → List ℕ → Type 0
ExplanationEnd room attempts d = OfAttempts (IsExplanationOver d (own_states d) ⊥ room attempts) (IsBadRoom room) d attempts

-- the same, under the declaration in another text
abbrev pub ExplanationEnds : List ℕ → ℕ → List ℕ → Status → List ℕ → Type 0
ExplanationEnds declaration room attempts = UnderText declaration (ExplanationEnd room attempts)

-- how an explanation of attempts ends that are made behind the journal in these texts
abbrev pub ExplanationBehindEnd : ℕ → List (List ℕ) → List ℕ → Declaration → Status → List ℕ → Type 0
ExplanationBehindEnd given texts attempts d =
    OfBehind (IsExplanationBehind d given texts attempts) (IsBadAttempts d attempts) d given texts

-- the same, under the declaration in another text
abbrev pub ExplanationBehindEnds : List ℕ → ℕ → List (List ℕ) → List ℕ → Status → List ℕ → Type 0
ExplanationBehindEnds declaration given texts attempts = UnderText declaration (ExplanationBehindEnd given texts attempts)

-- how a declaration in words ends; nothing is said of the words
abbrev pub DescriptionEnd : Declaration → Status → List ℕ → Type 0
DescriptionEnd d = AtDone (λ out. Unit {0})

-- the same, of the declaration in a text
abbrev pub DescriptionEnds : List ℕ → Status → List ℕ → Type 0
DescriptionEnds declaration = UnderText declaration DescriptionEnd
