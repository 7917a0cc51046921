-- What goes on behind the journal in texts, one for each of its segments, and how a command ends that does so.
use Rattle.std.specs.Prelude.{◌≡◌, ◌++◌, ◌∷◌, [], ◌⊎◌, ℕ, List}
use Rattle.path_model.specs.declared.journal.Line.{Line}
use Rattle.path_model.specs.Declarations.{Declaration}
use Rattle.path_audit.specs.declared.journals.SegmentsVerdict.TheVariants.{WrongLine}
use Rattle.path_system.specs.Accounts.{Account, account_of, IsSystem}
use Rattle.tell_base.specs.declared.status.Status.{Status}
use Rattle.tell_base.specs.declared.status.Status.TheVariants as statuses
use Rattle.tell_base.specs.Ends.{OfText, Refused, UnderText}
use Rattle.tell_base.specs.Own.{own_states}
use Rattle.tell_base.specs.Refusals.{Under}
use Rattle.tell_base.specs.Statuses.{status_of}
use Rattle.cmd_audit.specs.Files.{fault_status}
use Rattle.cmd_audit.specs.Segments.{AreAuditOf, AreNoSegments, AreSegmentTexts, LackRoom}
use Rattle.tell_journals.specs.declared.behind.BehindFault.{BehindFault}
use Rattle.tell_journals.specs.declared.behind.BehindFault.TheVariants as faults

-- the segments that a system has behind these: one without lines if there are none
abbrev pub segments_of : List (List Line) → List (List Line)
segments_of [] = [] ∷ []
segments_of (s ∷ ss) = s ∷ ss

-- a system over the program's own devices has answered these segments, and the last of them is its journal
pub record HasAnswered (d : Declaration) (room : ℕ) (segments : List (List Line)) (system : Account) : Type 0 where
  pub opened : system
      ≡ record (account_of d room (own_states d)) { earlier = system.earlier; journal = system.journal; failures = system.failures }
  pub whole : system.earlier ++ system.journal ∷ [] ≡ segments_of segments
  pub is_system : IsSystem system

-- the system goes on behind the segments in these texts. The room of each is the one that the first text names, else the one that is given.
pub record IsBehind (d : Declaration) (given : ℕ) (texts : List (List ℕ)) (system : Account) : Type 0 where
  pub room : ℕ
  pub segments : List (List Line)
  pub told : AreSegmentTexts d given texts room segments
  pub answered : HasAnswered d room segments system

-- these are the segments in the texts
abbrev pub AreSegmentsIn : Declaration → ℕ → List (List ℕ) → List (List Line) → Type 0
AreSegmentsIn d given texts segments = (room : ℕ) × AreSegmentTexts d given texts room segments

-- the texts are those of segments, and an audit of them finds a wrong line
abbrev pub HasWrongLine : Declaration → ℕ → List (List ℕ) → Type 0
HasWrongLine d given texts = (s : ℕ) × (n : ℕ) × AreAuditOf d given texts (WrongLine s n)

-- done, with bytes of which P holds; or nothing was written, since a line is wrong
abbrev pub UnlessWrong : (List ℕ → Type 0) → Type 0 → Status → List ℕ → Type 0
UnlessWrong P wrong statuses.Done out = P out
UnlessWrong P wrong statuses.Unsound out = Refused wrong out
UnlessWrong P wrong status out = ⊥

-- the table of a command that goes on behind the journal in these texts, and then reads another text, which may be bad
abbrev pub OfBehind : (List ℕ → Type 0) → Type 0 → Declaration → ℕ → List (List ℕ) → Status → List ℕ → Type 0
OfBehind P bad d given texts =
    OfText (UnlessWrong P (HasWrongLine d given texts)) (LackRoom d given texts) (AreNoSegments d given texts ⊎ bad)

-- how it ends under the declaration in a text if no system goes on
abbrev pub RefusesBehind : List ℕ → ℕ → List (List ℕ) → Status → List ℕ → Type 0
RefusesBehind declaration given texts = UnderText declaration (λ d. OfBehind (λ out. ⊥) ⊥ d given texts)

-- if a line is named as wrong, an audit of the texts names it, too
abbrev pub NamesWrong : Declaration → ℕ → List (List ℕ) → BehindFault → Type 0
NamesWrong d given texts (faults.WrongLine place) = AreAuditOf d given texts (WrongLine place.file place.line)
NamesWrong d given texts fault = Unit {0}

-- the same under the declaration in a text
abbrev pub NamesWrongUnder : List ℕ → ℕ → List (List ℕ) → BehindFault → Type 0
NamesWrongUnder declaration given texts (faults.WrongLine place) =
    Under declaration (λ d. AreAuditOf d given texts (WrongLine place.file place.line))
NamesWrongUnder declaration given texts fault = Unit {0}

-- the status of what keeps a system from going on
abbrev pub behind_status : BehindFault → Status
behind_status (faults.Files fault) = fault_status fault
behind_status (faults.WrongLine place) = statuses.Unsound
behind_status (faults.Other fault) = status_of fault
