-- What the spare gates tell.
use Rattle.std.proofs.Common.{◌++◌, ◌∷◌, [], ◌∙◌, List}
use Rattle.path_model.specs.declared.history.Event.TheVariants.{Began}
use Rattle.path_model.specs.declared.ids.OpId.{OpId}
use Rattle.path_order.specs.Waiting.{asked, ops_of}
use Rattle.path_order.specs.Inner.Spares.{AreAt, AreOver, AreAlike}
use Rattle.path_order.proofs.Judging.{admits, first_that_forbids}
use Rattle.path_order.proofs.Ruled.{taken_is, shut_is, goes_is, over_there}
use Rattle.path_order.proofs.ruling.rule_behind.Goals as goal

pub returns-in-Err-clause-ruled : goal.returns-in-Err-clause-ruled
returns-in-Err-clause-ruled g c = λ h is at.
    first_that_forbids c.args.gate.now c.follow.new.spare c.in_ok-follow.ensures.fits.paths (asked c.args.asking) h is (c.in_ok-follow.ensures.at h at) c.admit.result c.in-Err.path c.in-Err.is c.admit.ensures.judges

pub returns-in-Some-clause-ruled : goal.returns-in-Some-clause-ruled
returns-in-Some-clause-ruled g c = λ h is at.
    let run : List OpId = ops_of c.args.running.now in
    let there = c.in_ok-follow.ensures.at h at in
    let starts = admits c.args.gate.now c.follow.new.spare c.in_ok-follow.ensures.fits.paths (asked c.args.asking) h is there c.admit.result c.in_default.field-0 c.in_default.is c.admit.ensures.judges in
    let are : AreAt c.args.gate.now c.args.spares.now.clear c.admit.new.self run h (asked c.args.asking) = record { legal = is; starts = starts; now = at; over = c.requires.over h at; started = c.in_default.ensures.ok.moved h there } in
    taken_is c.args.gate.now.paths c.args.spares.now.paths run h c.args.asking c.args.ahead.now starts c.in-Some.place (c.in-Some.ensures run h (asked c.args.asking) are)

pub returns-in-Some-first_shut-clause-ruled : goal.returns-in-Some-first_shut-clause-ruled
returns-in-Some-first_shut-clause-ruled g c = λ h is at.
    let run : List OpId = ops_of c.args.running.now in
    let fits = c.in_ok-follow.ensures.fits in
    let there = c.in_ok-follow.ensures.at h at in
    let starts = admits c.args.gate.now c.follow.new.spare fits.paths (asked c.args.asking) h is there c.admit.result c.in_default.field-0 c.in_default.is c.admit.ensures.judges in
    let started = c.in_default.ensures.ok in
    let alike : AreAlike c.args.gate.now c.args.spares.now.clear c.end_all.new.spare = record { of_clear = c.requires.ready.clear.paths; of_behind = c.end_all.ensures.paths ∙ started.paths ∙ fits.paths; well_formed = fits.well_formed } in
    let are : AreOver c.args.gate.now c.args.spares.now.clear c.end_all.new.spare run h (asked c.args.asking) = record { legal = is; starts = starts; over = c.requires.over h at; both_over = over_there c.args.gate.now c.admit.new.self c.end_all.new.spare run (started.paths ∙ fits.paths) c.end_all.ensures.at (h ++ Began (asked c.args.asking) ∷ []) (started.moved h there) } in
    shut_is c.args.gate.now.paths c.args.spares.now.paths run h c.args.asking c.args.ahead.now starts c.in-Some-first_shut.place (c.in-Some-first_shut.ensures c.args.gate.now run h (asked c.args.asking) alike are)

pub returns-in-None-clause-ruled : goal.returns-in-None-clause-ruled
returns-in-None-clause-ruled g c = λ h is at.
    let run : List OpId = ops_of c.args.running.now in
    let fits = c.in_ok-follow.ensures.fits in
    let there = c.in_ok-follow.ensures.at h at in
    let starts = admits c.args.gate.now c.follow.new.spare fits.paths (asked c.args.asking) h is there c.admit.result c.in_default.field-0 c.in_default.is c.admit.ensures.judges in
    let started = c.in_default.ensures.ok in
    let at_first : AreAt c.args.gate.now c.args.spares.now.clear c.admit.new.self run h (asked c.args.asking) = record { legal = is; starts = starts; now = at; over = c.requires.over h at; started = started.moved h there } in
    let alike : AreAlike c.args.gate.now c.args.spares.now.clear c.end_all.new.spare = record { of_clear = c.requires.ready.clear.paths; of_behind = c.end_all.ensures.paths ∙ started.paths ∙ fits.paths; well_formed = fits.well_formed } in
    let are : AreOver c.args.gate.now c.args.spares.now.clear c.end_all.new.spare run h (asked c.args.asking) = record { legal = is; starts = starts; over = c.requires.over h at; both_over = over_there c.args.gate.now c.admit.new.self c.end_all.new.spare run (started.paths ∙ fits.paths) c.end_all.ensures.at (h ++ Began (asked c.args.asking) ∷ []) (started.moved h there) } in
    goes_is c.args.gate.now.paths c.args.spares.now.paths run h c.args.asking c.args.ahead.now starts (c.in_default-first_taken.ensures run h (asked c.args.asking) at_first) (c.in-None.ensures c.args.gate.now run h (asked c.args.asking) alike are)
