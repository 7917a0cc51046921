-- The first line is alone before its line feed.
use Rattle.path_journal.proofs.CutLemmas.{other_fault, undeclared_bad, undeclared_right, undeclared_never}
use Rattle.path_journal.proofs.cut.plain_undeclared.Goals as goal

pub returns-in_default-clause-no : goal.returns-in_default-clause-no
returns-in_default-clause-no g c = undeclared_never c.args.decl.now.declaration c.args.decl.now.lawful.operation_names c.args.text.now c.in_default.ensures.none

pub returns-in-Err-clause-no : goal.returns-in-Err-clause-no
returns-in-Err-clause-no g c =
    other_fault c.in-Err.stop.fault c.eq.result _ c.eq.ensures (λ bad. undeclared_bad c.args.decl.now.declaration c.args.decl.now.lawful.operation_names c.args.text.now c.in-Some.line.now c.in-Some.field-0-1.now c.in-Err.stop.fault c.in-Some.ensures.some c.in-Some.ensures.first c.in-Err.ensures.err bad)

pub returns-in-Ok-clause-no : goal.returns-in-Ok-clause-no
returns-in-Ok-clause-no g c = undeclared_right c.args.decl.now.declaration c.args.decl.now.lawful.operation_names c.args.text.now c.in-Some.line.now c.in-Some.field-0-1.now c.in-Ok.field-0.0 c.in-Some.ensures.some c.in-Some.ensures.first c.in-Ok.ensures.line c.in-Ok.ensures.fits
