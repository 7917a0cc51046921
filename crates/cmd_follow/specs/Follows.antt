-- What a follow writes: for each line of its input the reply that was owed, the report, or nothing.
use Rattle.std.specs.Prelude.{◌≡◌, ◌≢◌, ℕ, Bool, true, false, List, [], ◌∷◌, ◌++◌, ◌⊎◌, Option, IfSome}
use Rattle.std.specs.Io.KnownBytes.{Keeps}
use Rattle.path_model.specs.declared.journal.Attempt.{Attempt}
use Rattle.path_model.specs.declared.journal.Reply.{Reply}
use Rattle.path_model.specs.declared.journal.Reply.TheVariants.{DeviceFailed}
use Rattle.path_model.specs.declared.journal.Line.{Line}
use Rattle.path_model.specs.Declarations.{Declaration}
use Rattle.path_model.specs.Journals.{with_line}
use Rattle.path_model.specs.Owed.{Owed}
use Rattle.path_model.specs.Rooms.{IsBadRoom}
use Rattle.path_decl.specs.Text.{IsDeclarationText}
use Rattle.path_fields.specs.Splits.{HasNone}
use Rattle.path_lines.specs.LineTexts.{line_text}
use Rattle.path_lines.specs.AttemptTexts.{EntryFits, IsNoEntry}
use Rattle.path_shelf.specs.States.{State}
use Rattle.path_system.specs.Accounts.{account_of}
use Rattle.tell_base.specs.Writes.{AppendsSome}
use Rattle.tell_base.specs.Own.{own_states}
use Rattle.tell_base.specs.ReportTexts.{IsReportText}
use Rattle.cmd_trace.specs.Traces.{reply_line}

-- the text begins with this line, and goes on behind its line feed; the last line may lack it, but isn't empty then
abbrev pub IsLine : List ℕ → List ℕ → List ℕ → Type 0
IsLine line text rest =
    HasNone 10 line × ((text ≡ line ++ 10 ∷ rest) ⊎ ((line ≢ []) × (rest ≡ []) × (text ≡ line)))

-- these bytes answer a line, after the first lines of a journal, which has the second lines then: an attempt with the reply that is owed
-- to it, or a question mark (63) with the report
pub data IsAnswer (d : Declaration) (room : ℕ) (openings : List (List ℕ)) (may_fail : Type 0)
    : List Line → List ℕ → List Line → List ℕ → Type 0 where
  replies : {ls : List Line} {line : List ℕ} (w : ℕ) (a : Attempt) (r : Reply)
      → line ≡ line_text d w a → EntryFits (w, a) → Owed d room openings ls w a r → (r ≡ DeviceFailed → may_fail)
      → IsAnswer d room openings may_fail ls line (with_line ls w a r) (reply_line d w a r)
  reports : {ls : List Line} {line bytes : List ℕ}
      → line ≡ 63 ∷ [] → IsReportText d ls bytes → IsAnswer d room openings may_fail ls line ls bytes

-- the line is no attempt, and doesn't ask for the report
abbrev pub IsRefusedLine : Declaration → List ℕ → Type 0
IsRefusedLine d line = (line ≢ 63 ∷ []) × IsNoEntry d line

-- where a follow ends: at the end of the text if it goes through the whole of it, else anywhere
abbrev pub Ends : Bool → List ℕ → Type 0
Ends true text = text ≡ []
Ends false text = Unit {0}

-- After the first lines of a journal, a follow of the text writes these bytes, and the journal has the second lines then. The two
-- bits say whether a line was refused before the text, and up to its end. Refused lines change nothing else.
pub data Follows (d : Declaration) (room : ℕ) (openings : List (List ℕ)) (may_fail : Type 0) (whole : Bool)
    : List Line → Bool → List ℕ → List Line → Bool → List ℕ → Type 0 where
  at_end : {ls : List Line} {b : Bool} {text : List ℕ} → Ends whole text
      → Follows d room openings may_fail whole ls b text ls b []
  answers : {ls now end : List Line} {b e : Bool} {line text rest bytes more : List ℕ}
      → IsLine line text rest → IsAnswer d room openings may_fail ls line now bytes
      → Follows d room openings may_fail whole now b rest end e more
      → Follows d room openings may_fail whole ls b text end e (bytes ++ more)
  refuses : {ls end : List Line} {b e : Bool} {line text rest more : List ℕ}
      → IsLine line text rest → IsRefusedLine d line
      → Follows d room openings may_fail whole ls true rest end e more
      → Follows d room openings may_fail whole ls b text end e more

-- the bytes answer the lines of a text over devices in these states, from an empty journal on; the bit says whether a line was refused
abbrev pub IsFollowOf : Declaration → List State → Type 0 → ℕ → Bool → List ℕ → List ℕ → Type 0
IsFollowOf d states may_fail room refused text bytes =
    (end : List Line) × Follows d room (account_of d room states).openings may_fail true [] false text end refused bytes

-- the bytes answer the first lines of a text
abbrev pub AnswersFirst : Declaration → List State → Type 0 → ℕ → List ℕ → List ℕ → Type 0
AnswersFirst d states may_fail room text bytes =
    (end : List Line) × (refused : Bool) × Follows d room (account_of d room states).openings may_fail false [] false text end refused bytes

-- the same, under the declaration in another text, over devices that never fail
abbrev pub IsFollowUnder : List ℕ → ℕ → Bool → List ℕ → List ℕ → Type 0
IsFollowUnder declaration room refused text bytes =
    (d : Declaration) × IsDeclarationText declaration d × IsFollowOf d (own_states d) ⊥ room refused text bytes

abbrev pub AnswersFirstUnder : List ℕ → ℕ → List ℕ → List ℕ → Type 0
AnswersFirstUnder declaration room text bytes =
    (d : Declaration) × IsDeclarationText declaration d × AnswersFirst d (own_states d) ⊥ room text bytes

-- a reader gave all of a text, of which P holds; if its bytes are known, these are they
abbrev pub GaveAll : Option (List ℕ) → (List ℕ → Type 0) → Type 0
GaveAll known P = (text : List ℕ) × IfSome known (λ bytes. bytes ≡ text) × P text

-- a reader gave a text, of which P holds, and may have more; if its bytes are known, they begin with these
abbrev pub GaveFirst : Option (List ℕ) → (List ℕ → Type 0) → Type 0
GaveFirst known P = (text : List ℕ) × IfSome known (λ bytes. (left : List ℕ) × (bytes ≡ text ++ left)) × P text

-- the text is a declaration, and no system can have the room
abbrev pub LacksRoom : List ℕ → ℕ → Type 0
LacksRoom declaration room = (d : Declaration) × IsDeclarationText declaration d × IsBadRoom room

-- the answers to all lines that a reader gave were written; the bit says whether one was refused
abbrev pub WroteAll : Option (List ℕ) → Option (List ℕ) → Option (List ℕ) → List ℕ → ℕ → Bool → Type 0
WroteAll known old new declaration room refused = GaveAll known (λ text. AppendsSome old new (IsFollowUnder declaration room refused text))

-- the answers to the first lines that a reader gave were written, if the text is a declaration
abbrev pub WroteFirst : Option (List ℕ) → Option (List ℕ) → Option (List ℕ) → List ℕ → ℕ → Type 0
WroteFirst known old new declaration room =
    Keeps old new ⊎ GaveFirst known (λ text. AppendsSome old new (AnswersFirstUnder declaration room text))
