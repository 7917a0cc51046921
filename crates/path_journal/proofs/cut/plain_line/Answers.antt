-- A text's first line is a line of a journal, or no line stands at its beginning.
use Rattle.path_journal.proofs.CutLemmas.{plain_err, plain_short, plain_parts}
use Rattle.path_journal.proofs.cut.plain_line.Goals as goal

pub returns-in_default-clause-none : goal.returns-in_default-clause-none
returns-in_default-clause-none g c = plain_err c.args.decl.now.declaration c.args.decl.now.lawful.operation_names c.args.text.now c.in_default.field-0.fault c.in_default.ensures.err

pub returns-in_default-strip-clause-none : goal.returns-in_default-strip-clause-none
returns-in_default-strip-clause-none g c = plain_short c.args.decl.now.declaration c.args.decl.now.lawful.operation_names c.args.text.now c.in-Ok.line c.in-Ok.length c.in-Ok.ensures.line c.in-Ok.ensures.length c.in_default-strip.ensures

pub returns-clause-parts : goal.returns-clause-parts
returns-clause-parts g c = plain_parts c.args.decl.now.declaration c.args.decl.now.lawful.operation_names c.args.text.now c.in-Ok.line c.in-Ok.length c.in-Some.after.now c.in-Ok.ensures.line c.in-Ok.ensures.length c.in-Some.ensures
