-- What the crates above use of the proofs on tokens.
pub use Rattle.path_lex.proofs.Cut.{end_only, space_only, mark_only, word_only, number_only}
pub use Rattle.path_lex.proofs.Lengths.{parted}
