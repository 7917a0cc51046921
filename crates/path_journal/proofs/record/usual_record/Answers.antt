-- A line is an attempt and its reply, up to its end.
use Rattle.std.proofs.Common.{◌≡◌, ◌++◌, refl, subst}
use Rattle.path_model.specs.declared.journal.Line.{Line}
use Rattle.path_fields.specs.Splits.{EndsAt}
use Rattle.path_lines.specs.LineTexts.{line_text, journal_line_text}
use Rattle.path_journal.proofs.RecordLemmas.{spelled_whole, record_first}
use Rattle.path_journal.proofs.record.usual_record.Goals as goal

pub returns-clause-line : goal.returns-clause-line
returns-clause-line g c =
    let d = c.args.decl.now.declaration in
    let each = c.args.decl.now.lawful.operation_names.each in
    let front = c.in_ok-worker.ensures in
    let told = c.in_ok-reply.ensures in
    let line : Line = record { worker = c.in_ok-worker.worker; attempt = c.in_ok-worker.attempt; reply = c.in_ok-reply.reply } in
    let whole : c.args.text.now ≡ journal_line_text d line ++ c.in_ok-reply.rest.now = spelled_whole d each c.args.text.now (line_text d c.in_ok-worker.worker c.in_ok-worker.attempt) c.in_ok-worker.told.now c.in_ok-reply.rest.now line front.text refl told.text in
    let end : EndsAt 10 c.in_ok-reply.rest.now = subst (EndsAt 10) c.in_ok-rest.ensures.0 c.in_ok-rest.ensures.1 in
    record_first d each c.args.text.now c.in_ok-reply.rest.now line whole (record { worker = front.fits.0; attempt = front.fits.1; reply = told.fits }) end
