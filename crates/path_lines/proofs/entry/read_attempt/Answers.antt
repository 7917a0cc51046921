-- A start names its operation up to the line's end.
use Rattle.std.proofs.Common.{◌≡◌, ◌++◌, codes}
use Rattle.path_lines.proofs.AttemptLemmas.{no_start, start_fault}
use Rattle.path_lines.proofs.entry.read_attempt.Goals as goal

pub returns-in-Err-clause-err : goal.returns-in-Err-clause-err
returns-in-Err-clause-err g c =
    let whole : c.args.text.now ≡ codes "start " ++ c.in_ok-named.named.now = let e = c.in-Some-keyword-2.ensures in let f = c.in_ok-named.ensures.ok in cc in
    no_start c.args.decl.now.declaration c.args.text.now c.in_ok-named.named.now c.until.result.0.now c.until.result.1.now whole c.until.ensures.parts c.until.ensures.first c.until.ensures.end c.args.decl.now.lawful.operation_names.each c.in-Err.ensures.err

pub returns-in-Err-clause-fault : goal.returns-in-Err-clause-fault
returns-in-Err-clause-fault g c =
    let whole : c.args.text.now ≡ codes "start " ++ c.in_ok-named.named.now = let e = c.in-Some-keyword-2.ensures in let f = c.in_ok-named.ensures.ok in cc in
    rw c.no_operation.ensures (start_fault c.args.decl.now.declaration c.args.text.now c.in_ok-named.named.now c.until.result.0.now c.until.result.1.now c.in-Err.fault whole c.until.ensures.parts c.until.ensures.first c.until.ensures.end c.in-Err.ensures.unnamed c.in-Err.ensures.fault)
