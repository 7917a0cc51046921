-- Each line in turn gets its reply, and a line that isn't an attempt refutes the text.
use Rattle.std.proofs.Common.{refl, ap, ◌∙◌, arith}
use Rattle.std.proofs.lemmas.Grind.{common_steps}
use Rattle.std.proofs.lemmas.List.{nil_from_length, length-take}
use Rattle.std.proofs.lemmas.Result.{err_from_is_err_and}
use Rattle.cmd_trace.proofs.FaultLemmas.{refuses_line}
use Rattle.cmd_trace.proofs.TraceLemmas.{answers_none, answers_more, answers_all, answers_refuted, first_fits}
use Rattle.path_system.specs.Accounts.{Account}
use Rattle.cmd_trace.proofs.trace.answers.Goals as goal

pub loop-rest-init : goal.loop-rest-init
loop-rest-init g c = answers_none _ c.args.system.now c.args.attempts.now _ c.in_ok-trace.ensures.items

pub returns-in-Err-clause-err : goal.returns-in-Err-clause-err
returns-in-Err-clause-err g c =
    rw c.fault_at.ensures (refuses_line c.args.system.now.declaration c.args.attempts.now c.loop-rest.number c.in-Err.stop.fault
    (answers_refuted _ c.args.system.now c.loop-rest.system c.decl.result.now.declaration c.args.attempts.now c.loop-rest.rest.now _ c.loop-rest.number c.decl.ensures (grind (arith, common_steps)) c.in-Err.ensures.none c.loop-rest.invariant))

pub slice_bounds-line-end : goal.slice_bounds-line-end
slice_bounds-line-end g c =
    let fits = first_fits _ _ c.in-Ok.ensures.line in
    omega (arith, c.in-Ok.ensures.length, length-take c.in-Ok.first.length c.loop-rest.rest.now)

pub returns-in_err-answer-clause-err : goal.returns-in_err-answer-clause-err
returns-in_err-answer-clause-err g c =
    let p = err_from_is_err_and c.from_residual-in_err-answer.result c.from_residual-in_err-answer.ensures.1 in
    rw (p.1, p.2, c.in_err-answer.ensures.memory) (record { may = tt })

pub loop-rest-preserved : goal.loop-rest-preserved
loop-rest-preserved g c =
    answers_more _ c.args.system.now c.loop-rest.system _ c.decl.result.now.declaration c.args.attempts.now c.loop-rest.rest.now _ _ _ _ c.loop-rest.number c.in-Ok.first.length c.in-Ok.first.worker c.in-Ok.first.attempt c.decl.ensures (grind (arith, common_steps))
    c.in-Ok.ensures.line c.in-Ok.ensures.fits c.in-Ok.ensures.length refl c.after_line-rest.ensures c.in_ok-answer.ensures.ok c.loop-rest.invariant

pub returns-clause-ok : goal.returns-clause-ok
returns-clause-ok g c = answers_all _ c.args.system.now c.loop-rest.system c.args.attempts.now c.loop-rest.rest.now _ c.loop-rest.number (nil_from_length c.loop-rest.rest.now (grind (arith, common_steps))) c.loop-rest.invariant

pub answer-requires : goal.answer-requires
answer-requires g c = ap (λ (a : Account). a.opened) c.loop-rest.invariant.rest_stays ∙ c.requires.first
