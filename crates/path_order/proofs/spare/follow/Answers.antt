-- The counts behind no row are those of the gate.
use Rattle.std.proofs.Common.{◌≡◌, ◌∙◌, ◌++◌, ap}
use Rattle.path_order.proofs.Follows.{can_stand, stands_at, fits_still}
use Rattle.path_order.proofs.spare.follow.Goals as goal

pub restore-requires : goal.restore-requires
restore-requires g c =
    let pushed = c.in_ok-push_counts.ensures in
    let counts : c.deref.result.now ≡ pushed.0 = c.deref.ensures.value ∙ pushed.1 ∙ ap (λ r. r ++ pushed.0) c.clear.ensures.items in
    rw (c.semaphores.ensures.value, c.counters.ensures, counts, c.admitted.ensures.value)
    (can_stand c.args.gate.now c.args.spare.now c.args.operations c.requires.fits pushed.0 pushed.2 c.admitted.ensures.pasts)

pub returns-clause-at : goal.returns-clause-at
returns-clause-at g c =
    let pushed = c.in_ok-push_counts.ensures in
    let counts : c.deref.result.now ≡ pushed.0 = c.deref.ensures.value ∙ pushed.1 ∙ ap (λ r. r ++ pushed.0) c.clear.ensures.items in
    stands_at c.args.gate.now c.args.spare.now c.args.operations c.requires.fits pushed.0 pushed.2 c.admitted.result c.restore.new.self
    (rw (c.semaphores.ensures.value, c.counters.ensures, counts) at c.restore.ensures)

pub returns-clause-fits : goal.returns-clause-fits
returns-clause-fits g c =
    let pushed = c.in_ok-push_counts.ensures in
    let counts : c.deref.result.now ≡ pushed.0 = c.deref.ensures.value ∙ pushed.1 ∙ ap (λ r. r ++ pushed.0) c.clear.ensures.items in
    fits_still c.args.gate.now c.args.spare.now c.args.operations c.requires.fits pushed.0 pushed.2 c.admitted.result c.restore.new.self
    (rw (c.semaphores.ensures.value, c.counters.ensures, counts) at c.restore.ensures)
