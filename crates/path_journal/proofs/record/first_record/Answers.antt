-- A line is cut at its colon, between the attempt and the reply.
use Rattle.std.proofs.lemmas.Result.{err_from_is_err_and}
use Rattle.path_model.specs.declared.journal.Line.{Line}
use Rattle.path_journal.proofs.RecordLemmas.{untold, no_attempt, spelled_whole, record_first}
use Rattle.path_journal.proofs.record.first_record.Goals as goal

pub returns-in-Err-clause-err : goal.returns-in-Err-clause-err
returns-in-Err-clause-err g c = untold c.args.decl.now.declaration c.args.decl.now.lawful.operation_names.each c.args.text.now c.until.result.0.now c.until.result.1.now c.until.ensures.parts c.until.ensures.first c.until.ensures.end c.in-Err.ensures.err

pub returns-in_err-worker-clause-err : goal.returns-in_err-worker-clause-err
returns-in_err-worker-clause-err g c =
    let p = err_from_is_err_and c.from_residual.result c.from_residual.ensures.1 in
    rw (p.1, p.2) (no_attempt c.args.decl.now.declaration c.args.decl.now.lawful.operation_names.each c.args.text.now c.until.result.0.now c.until.result.1.now c.in-Ok.read.1.now c.in-Ok.read.0 c.in_err-worker.field-0.0.fault c.until.ensures.parts c.until.ensures.first c.until.ensures.end c.in-Ok.ensures.ok.0 c.in-Ok.ensures.ok.1 c.in-Ok.ensures.ok.2 c.in_err-worker.ensures.err c.in_err-worker.ensures.fault)

pub returns-clause-line : goal.returns-clause-line
returns-clause-line g c =
    let line : Line = record { worker = c.in_ok-worker.worker; attempt = c.in_ok-worker.attempt; reply = c.in-Ok.read.0 } in
    let whole = spelled_whole c.args.decl.now.declaration c.args.decl.now.lawful.operation_names.each c.args.text.now c.until.result.0.now c.until.result.1.now c.in-Ok.read.1.now line c.until.ensures.parts c.in_ok-worker.ensures.ok.0 c.in-Ok.ensures.ok.0 in
    record_first c.args.decl.now.declaration c.args.decl.now.lawful.operation_names.each c.args.text.now c.in-Ok.read.1.now line whole (record { worker = c.in_ok-worker.ensures.ok.1.0; attempt = c.in_ok-worker.ensures.ok.1.1; reply = c.in-Ok.ensures.ok.1 }) c.in-Ok.ensures.ok.2
