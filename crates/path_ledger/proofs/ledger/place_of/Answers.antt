-- The search is over the numbers, and these ascend.
use Rattle.std.proofs.Common.{rules}
use Rattle.std.proofs.lemmas.List.Sorted.{answers_always}
use Rattle.path_ledger.proofs.Numbered.{searched}
use Rattle.path_ledger.proofs.ledger.place_of.Goals as goal

pub returns : goal.returns
returns c =
    let facts = c.binary_search_by_key.ensures in
    let by_key = facts.position (λ a. a.act.0) (answers_always _ _ _ (λ f a r g called. search rules)) in
    rw c.ok.ensures.value (searched c.args.act c.args.live.now c.requires.0 c.requires.1 _ facts.bound by_key)
