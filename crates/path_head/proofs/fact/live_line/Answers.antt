-- A line has one number, one worker and one name.
use Rattle.std.proofs.Common.{codes, sym, ◌∙◌, rules, arith}
use Rattle.path_head.proofs.Numbers.{number_once_before}
use Rattle.path_head.proofs.Facts.{space_ends, small, operation_here, undeclared_here, named_live, live_is}
use Rattle.path_head.proofs.fact.live_line.Goals as goal

pub returns-in_err-worker-clause-none : goal.returns-in_err-worker-clause-none
returns-in_err-worker-clause-none g c =
    let found = c.in_ok-act.ensures.some in
    rw c.from_residual-in_err-worker.ensures (λ a rest fits e.
    let p = number_once_before (codes " ") c.in_ok-act.act a.act.0 c.in_ok-act.rest.now _ space_ends (search rules) fits.0 (sym found.0 ∙ e) in
    c.in_err-worker.ensures.none a.worker _ (omega (arith, fits.1)) p.1)

pub returns-in_err-op-clause-none : goal.returns-in_err-op-clause-none
returns-in_err-op-clause-none g c =
    let found = c.in_ok-act.ensures.some in
    let next = c.in_ok-worker.ensures.some in
    rw c.from_residual-in_err-op.ensures (λ a rest fits e.
    let p = number_once_before (codes " ") c.in_ok-act.act a.act.0 c.in_ok-act.rest.now _ space_ends (search rules) fits.0 (sym found.0 ∙ e) in
    let q = number_once_before (codes " ") c.in_ok-worker.worker a.worker c.in_ok-worker.rest.now _ space_ends (search rules) (small a.worker fits.1) (sym next.0 ∙ p.1) in
    undeclared_here c.args.decl.now.declaration c.args.decl.now.lawful.operation_names c.until.result.0.now c.until.result.1.now c.in_ok-worker.rest.now a.op rest c.until.ensures.first c.until.ensures.end c.until.ensures.parts c.in_err-op.ensures.none fits.2 q.1)

pub returns-in_err-rest-clause-none : goal.returns-in_err-rest-clause-none
returns-in_err-rest-clause-none g c =
    let found = c.in_ok-act.ensures.some in
    let next = c.in_ok-worker.ensures.some in
    rw c.from_residual-in_err-rest.ensures (λ a rest fits e.
    let p = number_once_before (codes " ") c.in_ok-act.act a.act.0 c.in_ok-act.rest.now _ space_ends (search rules) fits.0 (sym found.0 ∙ e) in
    let q = number_once_before (codes " ") c.in_ok-worker.worker a.worker c.in_ok-worker.rest.now _ space_ends (search rules) (small a.worker fits.1) (sym next.0 ∙ p.1) in
    let r = operation_here c.args.decl.now.declaration c.args.decl.now.lawful.operation_names c.until.result.0.now c.until.result.1.now c.in_ok-worker.rest.now a.op rest c.until.ensures.first c.until.ensures.end c.until.ensures.parts fits.2 q.1 in
    c.in_err-rest.ensures rest r.1)

pub returns-clause-some : goal.returns-clause-some
returns-clause-some g c =
    let found = c.in_ok-act.ensures.some in
    let next = c.in_ok-worker.ensures.some in
    let live = named_live c.args.decl.now.declaration c.in_ok-op.op c.until.result.0.now c.in_ok-op.ensures.some in (
      live_is c.args.decl.now.declaration (record { act = record { 0 = c.in_ok-act.act }; worker = c.in_ok-worker.worker; op = c.in_ok-op.op }) c.args.text.now c.in_ok-act.rest.now c.in_ok-worker.rest.now c.until.result.0.now c.until.result.1.now c.in_ok-rest.rest.now
          found.0 next.0 c.until.ensures.parts live.0 c.in_ok-rest.ensures,
      (omega (arith, found.1), omega (arith, next.1), live.1),
    )
