-- What callers cite: a line is read back from the text that is written for it; what a text of marked lines begins with.
use Rattle.std.proofs.Common.{[], ◌∷◌, None, inl, inr, sym}
use Rattle.std.proofs.lemmas.List.{append-nil}
use Rattle.std.proofs.lemmas.List.Elements.{All-cons, All-nil}
use Rattle.path_model.specs.declared.journal.Line.{Line}
use Rattle.path_model.specs.Declarations.{Declaration}
use Rattle.path_lines.specs.LineTexts.{journal_line_text}
use Rattle.path_journal.specs.JournalTexts.{LineFits, journal_line, IsJournalText}
pub use Rattle.path_journal.proofs.RecordLemmas.{record_is_line}
pub use Rattle.path_journal.proofs.CutLemmas.{cut_before, undeclared_apart, undeclared_is_line, undeclared_no_plus, no_plus, one_whole}

-- a line that was written is a journal's text, of this line alone
pub written_line : (d : Declaration) (l : Line) → LineFits l → IsJournalText d (journal_line_text d l) None (l ∷ [])
written_line d l fits = record {
  room_fits = tt;
  told = inl (record {
    room_fits = tt;
    fits = All-cons LineFits l [] fits (All-nil LineFits);
    spelled = inr (sym (append-nil (journal_line d l)));
  });
}
