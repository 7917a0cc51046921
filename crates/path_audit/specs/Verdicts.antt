-- What an audit finds.
use Rattle.std.specs.Prelude.{◌≡◌, ◌≢◌, ◌+◌, ◌<◌, ℕ, List, [], length, take, slice_index_or}
use Rattle.path_model.specs.declared.journal.Line.{Line}
use Rattle.path_model.specs.Declarations.{Declaration, law_of}
use Rattle.path_model.specs.Devices.{Fits}
use Rattle.path_model.specs.Honest.{IsHonest}
use Rattle.path_model.specs.Rooms.{IsRoom, IsBadRoom}
use Rattle.path_audit.specs.declared.journals.Verdict.{Verdict}
use Rattle.path_audit.specs.declared.journals.Verdict.TheVariants.{Sound, WrongLine}
use Rattle.path_audit.specs.declared.auditor.AuditFault.{AuditFault}
use Rattle.path_audit.specs.declared.auditor.AuditFault.TheVariants.{BadRoom, WrongCount, BadOpening, OutOfMemory}

-- the lines before line n are an honest journal, and with it they aren't
pub record IsFirstWrong (d : Declaration) (room : ℕ) (openings : List (List ℕ)) (lines : List Line) (n : ℕ) : Type 0 where
  pub within : n < length lines
  pub honest : IsHonest d room openings (take n lines)
  pub wrong : IsHonest d room openings (take (n + 1) lines) → ⊥

-- the lines are an honest journal, or this is the first line with which they aren't
abbrev pub IsVerdict : Declaration → ℕ → List (List ℕ) → List Line → Verdict → Type 0
IsVerdict d room openings lines Sound = IsHonest d room openings lines
IsVerdict d room openings lines (WrongLine n) = IsFirstWrong d room openings lines n

-- the list for resource r fits its law
abbrev pub FitsAt : Declaration → List (List ℕ) → ℕ → Type 0
FitsAt d openings r = Fits (law_of d r) (slice_index_or openings r [])

-- r is the first resource whose opening contents don't fit its law
pub record IsFirstMisfit (d : Declaration) (openings : List (List ℕ)) (r : ℕ) : Type 0 where
  pub declared : r < length d.resources
  pub fit_before : (q : ℕ) → q < r → FitsAt d openings q
  pub misfit : FitsAt d openings r → ⊥

-- the opening contents of each resource fit its law
abbrev pub AllFit : Declaration → List (List ℕ) → Type 0
AllFit d openings = (r : ℕ) → r < length d.resources → FitsAt d openings r

-- a journal of this room and with these openings can be audited
pub record IsAuditable (d : Declaration) (room : ℕ) (openings : List (List ℕ)) : Type 0 where
  pub in_range : IsRoom room
  pub counted : length openings ≡ length d.resources
  pub fit : AllFit d openings

-- the first that applies: the room is out of range; the number of openings is wrong; an opening doesn't fit. OutOfMemory comes only
-- if none of these does
abbrev pub IsAuditFault : Declaration → ℕ → List (List ℕ) → AuditFault → Type 0
IsAuditFault d room openings BadRoom = IsBadRoom room
IsAuditFault d room openings WrongCount = IsRoom room × (length openings ≢ length d.resources)
IsAuditFault d room openings (BadOpening r) = IsRoom room × (length openings ≡ length d.resources) × IsFirstMisfit d openings r.0
IsAuditFault d room openings OutOfMemory = IsAuditable d room openings
