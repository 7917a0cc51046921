-- The search is over the places, and these rise.
use Rattle.std.proofs.Common.{rules, arith}
use Rattle.std.proofs.lemmas.List.Sorted.{answers_always}
use Rattle.path_workers.proofs.Rising.{as_far_as_two, none_copied, one_copied, search_finds, search_misses, nothing}
use Rattle.path_workers.proofs.copy.copies_found.Goals as goal

pub returns-in-Ok : goal.returns-in-Ok
returns-in-Ok c =
    let by_key = c.in-Ok.ensures.position (λ r. r.place) (answers_always _ _ _ (λ f a r g called. search rules)) in
    let rs = c.args.receipts.now in
    let end = c.requires.0 in
    let has = search_finds c.args.place rs end c.in-Ok.found _ c.requires.1 by_key in
    as_far_as_two _ _ _ c.copy_at.ensures (one_copied c.args.place c.args.line.now 0 rs end c.in-Ok.found _ c.requires.1 c.in-Ok.ensures.bound has)

pub returns-in-Err : goal.returns-in-Err
returns-in-Err c =
    let by_key = c.in-Err.ensures.position (λ r. r.place) (answers_always _ _ _ (λ f a r g called. search rules)) in
    let rs = c.args.receipts.now in
    let missed = search_misses c.args.place rs c.requires.0 c.in-Err.field-0 nothing c.requires.1 by_key in
    omega (arith, none_copied c.args.place c.args.line.now rs nothing missed)
