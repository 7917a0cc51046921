-- The first semaphore is the path's own, and the first braces are the path.
use Rattle.std.proofs.Common.{sym, ap, ◌∙◌}
use Rattle.path_model.specs.Trimmed.{is_burst}
use Rattle.path_trim.proofs.LeftOver.{whole_removed_first}
use Rattle.path_trim.proofs.left.note_whole.Goals as goal

pub returns : goal.returns
returns g c = λ x h.
    whole_removed_first x _ _ _ c.args.code.now.semaphores.items c.args.code.now.braces.items c.index.result.now c.index-2.result.now
    (ap is_burst (sym h.tree) ∙ c.requires.whole) h.semaphores h.braces c.index.ensures c.index-2.ensures c.in_ok-push.ensures.items c.in_ok-push-2.ensures.items
