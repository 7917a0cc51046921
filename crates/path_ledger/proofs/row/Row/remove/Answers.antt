-- Those before it move up, or those behind it move down.
use Rattle.std.proofs.Common.{◌∙◌, ap, drop, refl, ◌+◌, arith}
use Rattle.path_ledger.proofs.Gaps.{left_in_front, left_behind}
use Rattle.path_ledger.proofs.row.Row.remove.Goals as goal

pub returns-then-index-len-clause-others : goal.returns-then-index-len-clause-others
returns-then-index-len-clause-others g c = rw (← c.self.view_is) (
    ap (drop (c.self.inside.gap + 1)) c.copy_within.ensures.items ∙ left_in_front c.self.inside.gap c.args.index _ c.self.inside.places.items refl (omega arith)
    )

pub returns-else-index-len-clause-others : goal.returns-else-index-len-clause-others
returns-else-index-len-clause-others g c = rw (← c.self.view_is) (
    ap (drop c.self.inside.gap) c.remove.ensures.items ∙ left_behind c.self.inside.gap c.args.index _ c.self.inside.places.items refl
    )
