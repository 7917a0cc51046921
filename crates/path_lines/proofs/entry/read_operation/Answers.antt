-- Without a name and without a number there is no operation.
use Rattle.path_lines.proofs.EntryLemmas.{no_operation}
use Rattle.path_lines.proofs.entry.read_operation.Goals as goal

pub returns-in-None-clause-err : goal.returns-in-None-clause-err
returns-in-None-clause-err g c = λ a lt e.
    no_operation c.args.decl.now.declaration c.args.text.now c.counts-operations.result.operations c.counts-operations.ensures.operations c.in_default.ensures.none c.in-None.ensures.none a lt e

pub returns-in-None-2-clause-err : goal.returns-in-None-2-clause-err
returns-in-None-2-clause-err g c = λ a lt e.
    no_operation c.args.decl.now.declaration c.args.text.now c.counts-operations.result.operations c.counts-operations.ensures.operations c.in_default.ensures.none c.in-None-2.ensures.none a lt e
