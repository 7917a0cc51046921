-- What the crates above cite of the proofs on shelves: the shelf after a verb, and after a replacement.
pub use Rattle.path_shelf.proofs.Laws.{laws_acted, laws_replaced, count_acted, others_acted, others_replaced, contents_refused, law_at, would_serve}
