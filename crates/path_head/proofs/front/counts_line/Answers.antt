-- A line has one of each count.
use Rattle.std.proofs.Common.{codes, rules, arith}
use Rattle.path_head.proofs.Facts.{small}
use Rattle.path_head.proofs.Fronts.{step, counts_after, lines_ends, starts_ends, workers_ends}
use Rattle.path_head.proofs.front.counts_line.Goals as goal

pub returns-in_err-starts-clause-none : goal.returns-in_err-starts-clause-none
returns-in_err-starts-clause-none c =
    let lines = c.in_ok-lines.ensures.some in
    rw c.from_residual-in_err-starts.ensures (λ k rest fits e.
    let p = step (codes " lines ") c.in_ok-rest.rest.now c.in_ok-lines.lines k.lines c.in_ok-lines.rest.now _ lines_ends (search rules) fits.0 lines.0 (counts_after c.args.text.now c.in_ok-rest.rest.now k rest c.in_ok-rest.ensures e) in
    c.in_err-starts.ensures.none k.starts _ (omega (arith, fits.1)) p.1)

pub returns-in_err-highest-clause-none : goal.returns-in_err-highest-clause-none
returns-in_err-highest-clause-none c =
    let lines = c.in_ok-lines.ensures.some in
    let starts = c.in_ok-starts.ensures.some in
    rw c.from_residual-in_err-highest.ensures (λ k rest fits e.
    let p = step (codes " lines ") c.in_ok-rest.rest.now c.in_ok-lines.lines k.lines c.in_ok-lines.rest.now _ lines_ends (search rules) fits.0 lines.0 (counts_after c.args.text.now c.in_ok-rest.rest.now k rest c.in_ok-rest.ensures e) in
    let q = step (codes " starts ") c.in_ok-lines.rest.now c.in_ok-starts.starts k.starts c.in_ok-starts.rest.now _ starts_ends (search rules) fits.1 starts.0 p.1 in
    c.in_err-highest.ensures.none k.highest _ (omega (arith, fits.2)) q.1)

pub returns-in_err-files-clause-none : goal.returns-in_err-files-clause-none
returns-in_err-files-clause-none c =
    let lines = c.in_ok-lines.ensures.some in
    let starts = c.in_ok-starts.ensures.some in
    let highest = c.in_ok-highest.ensures.some in
    rw c.from_residual-in_err-files.ensures (λ k rest fits e.
    let p = step (codes " lines ") c.in_ok-rest.rest.now c.in_ok-lines.lines k.lines c.in_ok-lines.rest.now _ lines_ends (search rules) fits.0 lines.0 (counts_after c.args.text.now c.in_ok-rest.rest.now k rest c.in_ok-rest.ensures e) in
    let q = step (codes " starts ") c.in_ok-lines.rest.now c.in_ok-starts.starts k.starts c.in_ok-starts.rest.now _ starts_ends (search rules) fits.1 starts.0 p.1 in
    let r = step (codes " workers ") c.in_ok-starts.rest.now c.in_ok-highest.highest k.highest c.in_ok-highest.rest.now _ workers_ends (search rules) (small k.highest fits.2) highest.0 q.1 in
    c.in_err-files.ensures.none k.files rest (omega (arith, fits.3)) r.1)
