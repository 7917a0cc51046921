-- How far the lines of segments have been taken over. What a public call promises is in the file beside this one.
use Rattle.std.specs.Prelude.{◌≡◌, ◌<◌, ℕ, List, [], ◌∷◌, ◌++◌, length, take, slice_index_or}
use Rattle.path_model.specs.declared.journal.Line.{Line}
use Rattle.path_audit.specs.Judged.{IsFirstWrongBehind}
use Rattle.path_system.specs.Accounts.{Account, IsSystem}
use Rattle.tell_journals.specs.declared.taking.Place.{Place}
use Rattle.tell_journals.specs.Behind.{segments_of}

-- nothing was attempted
pub record IsFresh (system : Account) : Type 0 where
  pub is_system : IsSystem system
  pub no_earlier : system.earlier ≡ []
  pub no_lines : system.journal ≡ []

-- the journal was empty, and has these lines
pub record HasTaken (old : Account) (lines : List Line) (new : Account) : Type 0 where
  pub taken : new ≡ record old { journal = lines; failures = new.failures }
  pub is_system : IsSystem new

-- nothing was attempted, and these segments were taken over
pub record HasTakenAll (old : Account) (segments : List (List Line)) (new : Account) : Type 0 where
  pub taken : new ≡ record old { earlier = new.earlier; journal = new.journal; failures = new.failures }
  pub whole : new.earlier ++ new.journal ∷ [] ≡ segments_of segments
  pub is_system : IsSystem new

-- this is the first line with which the segments aren't honest
abbrev pub IsFirstWrongOf : Account → List (List Line) → Place → Type 0
IsFirstWrongOf old segments place =
    (place.file < length segments)
    × IsFirstWrongBehind old.declaration old.room old.openings (take place.file segments) (slice_index_or segments place.file []) place.line
