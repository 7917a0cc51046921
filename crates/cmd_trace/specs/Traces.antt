-- What a trace is: each attempt with a reply that was owed to it, and then the report if asked for.
use Rattle.std.specs.Prelude.{◌≡◌, ℕ, Bool, true, false, List, [], ◌∷◌, ◌++◌, codes}
use Rattle.path_model.specs.declared.journal.Attempt.{Attempt}
use Rattle.path_model.specs.declared.journal.Reply.{Reply}
use Rattle.path_model.specs.declared.journal.Reply.TheVariants.{DeviceFailed}
use Rattle.path_model.specs.declared.journal.Line.{Line}
use Rattle.path_model.specs.Declarations.{Declaration}
use Rattle.path_model.specs.Rooms.{IsBadRoom}
use Rattle.path_model.specs.Journals.{with_line}
use Rattle.path_model.specs.Segments.{joined, OwedBehind}
use Rattle.path_lines.specs.LineTexts.{journal_line_text, reply_text}
use Rattle.path_lines.specs.AttemptTexts.{Entry, IsAttemptsText}
use Rattle.path_shelf.specs.States.{State}
use Rattle.path_system.specs.Accounts.{Account, account_of}
use Rattle.tell_base.specs.declared.status.Status.{Status}
use Rattle.tell_base.specs.Ends.{OfAttempts, UnderText}
use Rattle.tell_base.specs.Own.{own_states}
use Rattle.tell_base.specs.Refusals.{IsBadAttempts}
use Rattle.tell_base.specs.ReportTexts.{IsReportText}
use Rattle.tell_journals.specs.Behind.{IsBehind, OfBehind}

-- the line of an attempt with its reply, and a line feed
abbrev pub reply_line : Declaration → ℕ → Attempt → Reply → List ℕ
reply_line d w a r = journal_line_text d (record { worker = w; attempt = a; reply = r }) ++ 10 ∷ []

-- behind earlier segments, and after the first lines of the journal, these attempts get replies as in this text, and the journal has the
-- second lines then; a device fails only if it may
pub data Traced (d : Declaration) (room : ℕ) (openings : List (List ℕ)) (earlier : List Line) (may_fail : Type 0)
    : List Line → List Entry → List Line → List ℕ → Type 0 where
  at_end : {ls : List Line} → Traced d room openings earlier may_fail ls [] ls []
  -- the next attempt has a reply that the lines so far owe; if there is room, its line follows them
  answers : {ls end : List Line} {w : ℕ} {a : Attempt} {r : Reply} {es : List Entry} {bytes : List ℕ}
      → OwedBehind d room openings earlier ls w a r → (r ≡ DeviceFailed → may_fail)
      → Traced d room openings earlier may_fail (with_line ls w a r) es end bytes
      → Traced d room openings earlier may_fail ls ((w, a) ∷ es) end (reply_line d w a r ++ bytes)

-- one attempt gets its reply: the system has stepped, and the text has grown by the attempt's own line with the reply
pub record IsAnswered (may_fail : Type 0) (old new : Account) (w : ℕ) (a : Attempt) (line before after : List ℕ) : Type 0 where
  pub reply : Reply
  pub owed : OwedBehind old.declaration old.room old.openings (joined old.earlier) old.journal w a reply
  pub failed : reply ≡ DeviceFailed → may_fail
  pub stepped : new ≡ record old { journal = with_line old.journal w a reply; failures = new.failures }
  pub grown : after ≡ before ++ ((line ++ (codes ": " ++ reply_text reply)) ++ 10 ∷ [])

-- the bytes are a system's replies to the attempts of a text, and its journal has these lines then
pub record IsTraceBy (may_fail : Type 0) (system : Account) (text : List ℕ) (journal : List Line) (bytes : List ℕ) : Type 0 where
  pub entries : List Entry
  pub attempts : IsAttemptsText system.declaration text entries
  pub traced :
      Traced system.declaration system.room system.openings (joined system.earlier) may_fail system.journal entries journal bytes

-- what follows a trace that leaves these lines in all: nothing, or the report if asked for
abbrev pub IsReportIf : Declaration → List Line → Bool → List ℕ → Type 0
IsReportIf d lines false bytes = bytes ≡ []
IsReportIf d lines true bytes = IsReportText d lines bytes

-- a text has grown by what follows a trace
abbrev pub GrowsByReport : Declaration → List Line → Bool → List ℕ → List ℕ → Type 0
GrowsByReport d lines report before after = (bytes : List ℕ) × IsReportIf d lines report bytes × (after ≡ before ++ bytes)

-- the bytes are a system's replies to the attempts of a text, and then its report if asked for
pub record IsToldBy (may_fail : Type 0) (system : Account) (asked : Bool) (text bytes : List ℕ) : Type 0 where
  pub journal : List Line
  pub trace : List ℕ
  pub traced : IsTraceBy may_fail system text journal trace
  pub report : GrowsByReport system.declaration (joined system.earlier ++ journal) asked trace bytes

-- the bytes are the replies to the attempts of a text, from an empty journal on, over devices in these states, and then the report
-- of the system if asked for
abbrev pub IsTraceOf : Declaration → List State → Type 0 → ℕ → Bool → List ℕ → List ℕ → Type 0
IsTraceOf d states may_fail room report text bytes = IsToldBy may_fail (account_of d room states) report text bytes

-- how a trace of a text of attempts ends, over devices that never fail
abbrev pub OwnTraceEnds : ℕ → Bool → List ℕ → Declaration → Status → List ℕ → Type 0
OwnTraceEnds room report attempts d = OfAttempts (IsTraceOf d (own_states d) ⊥ room report attempts) (IsBadRoom room) d attempts

-- the same, under the declaration in another text
abbrev pub TraceEnds : List ℕ → ℕ → Bool → List ℕ → Status → List ℕ → Type 0
TraceEnds declaration room report attempts = UnderText declaration (OwnTraceEnds room report attempts)

-- the bytes are the replies to the attempts of a text, behind the journal in these texts, and then the report of the system if asked for
abbrev pub IsTraceBehind : Declaration → ℕ → List (List ℕ) → Bool → List ℕ → List ℕ → Type 0
IsTraceBehind d given texts report text bytes = (system : Account) × IsBehind d given texts system × IsToldBy ⊥ system report text bytes

-- how a trace behind the journal in these texts ends
abbrev pub TraceBehindEnd : ℕ → List (List ℕ) → Bool → List ℕ → Declaration → Status → List ℕ → Type 0
TraceBehindEnd given texts report attempts d =
    OfBehind (IsTraceBehind d given texts report attempts) (IsBadAttempts d attempts) d given texts

-- the same, under the declaration in another text
abbrev pub TraceBehindEnds : List ℕ → ℕ → List (List ℕ) → Bool → List ℕ → Status → List ℕ → Type 0
TraceBehindEnds declaration given texts report attempts = UnderText declaration (TraceBehindEnd given texts report attempts)
