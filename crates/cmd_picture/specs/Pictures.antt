-- Which texts are drawn.
use Rattle.std.specs.Prelude.{◌≡◌, ℕ, List, ◌++◌, codes, Option}
use Rattle.path_model.specs.declared.journal.Line.{Line}
use Rattle.path_model.specs.Declarations.{Declaration}
use Rattle.path_model.specs.Rooms.{IsBadRoom}
use Rattle.path_journal.specs.JournalTexts.{IsJournalText}
use Rattle.tell_base.specs.declared.status.Status.{Status}
use Rattle.tell_base.specs.Ends.{AtDone, OfAttempts, OfText, UnderText}
use Rattle.tell_base.specs.Refusals.{HasAttempts, IsBadJournal}

-- an SVG: from its first mark to its last
abbrev pub IsPicture : List ℕ → Type 0
IsPicture bytes =
    (inside : List ℕ) × (bytes ≡ codes "<svg xmlns=\"http://www.w3.org/2000/svg\" " ++ (inside ++ codes "</svg>\n"))

-- a picture of the attempts in a text, in a room that a system can have
abbrev pub IsPictureOf : ℕ → List ℕ → Declaration → List ℕ → Type 0
IsPictureOf room attempts d bytes = HasAttempts d attempts × (IsBadRoom room → ⊥) × IsPicture bytes

-- a picture of the journal in a text
abbrev pub IsPictureOfJournal : List ℕ → Declaration → List ℕ → Type 0
IsPictureOfJournal journal d bytes =
    (room : Option ℕ) × (lines : List Line) × IsJournalText d journal room lines × IsPicture bytes

-- how drawing attempts ends
abbrev pub PictureEnd : ℕ → List ℕ → Declaration → Status → List ℕ → Type 0
PictureEnd room attempts d = OfAttempts (IsPictureOf room attempts d) (IsBadRoom room) d attempts

-- the same, under the declaration in another text
abbrev pub PictureEnds : List ℕ → ℕ → List ℕ → Status → List ℕ → Type 0
PictureEnds declaration room attempts = UnderText declaration (PictureEnd room attempts)

-- how drawing a journal ends
abbrev pub JournalPictureEnd : List ℕ → Declaration → Status → List ℕ → Type 0
JournalPictureEnd journal d = OfText (AtDone (IsPictureOfJournal journal d)) ⊥ (IsBadJournal d journal)

-- the same, under the declaration in another text
abbrev pub JournalPictureEnds : List ℕ → List ℕ → Status → List ℕ → Type 0
JournalPictureEnds declaration journal = UnderText declaration (JournalPictureEnd journal)
