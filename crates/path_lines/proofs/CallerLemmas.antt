-- What callers cite: texts of lines of any kind; that a line is a line, and of one attempt; names, verbs and operations; a text that is appended piece by piece.
pub use Rattle.path_lines.proofs.NameLemmas.{name_is_ascii, name_without, line_feed_outside}
pub use Rattle.path_lines.proofs.EntryLemmas.{named, first_line, is_first, ends_first}
pub use Rattle.path_lines.proofs.WholeTexts.{text_of, Spells, ReadLines, lines_none, whole_parts, lines_more, all_read, first_of_text, ends_in_feed, refuted, nothing_spelled, spells_once}
pub use Rattle.path_lines.proofs.AttemptLemmas.{IsBreak, verb_clean, line_clean, undeclared_clean}
pub use Rattle.path_lines.proofs.OneReading.{number_is_some, verb_once, operation_once, entry_once}
pub use Rattle.path_lines.proofs.Pieces.{piece_more, piece_all}
