-- A line is a worker's number, a space and an attempt, up to its end.
use Rattle.std.proofs.Common.{subst}
use Rattle.path_fields.specs.Splits.{EndsAt}
use Rattle.path_lines.specs.LineTexts.{line_text}
use Rattle.path_lines.proofs.EntryLemmas.{is_first}
use Rattle.path_lines.proofs.AttemptLemmas.{line_is_line}
use Rattle.path_lines.proofs.quick.usual_entry.Goals as goal

pub returns-clause-line : goal.returns-clause-line
returns-clause-line g c =
    let d = c.args.decl.now.declaration in
    let front = c.in_ok-worker.ensures in
    let end : EndsAt 10 c.in_ok-worker.rest.now = subst (EndsAt 10) c.in_ok-rest.ensures.0 c.in_ok-rest.ensures.1 in
    is_first (line_text d c.in_ok-worker.worker c.in_ok-worker.attempt) c.in_ok-worker.rest.now c.args.text.now (line_is_line d (c.in_ok-worker.worker, c.in_ok-worker.attempt) c.args.decl.now.lawful.operation_names.each front.fits) end front.text
