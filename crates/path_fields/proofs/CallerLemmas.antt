-- What callers cite: that texts are cut in one way, and what a comparison of two texts says.
pub use Rattle.path_fields.proofs.SplitLemmas.{cut_once, cut_none, none_joined, until_once, is_text, is_other}
pub use Rattle.path_fields.proofs.Numbers.{none_in_number, number_once, same_number, ends_number, feed_ends}
