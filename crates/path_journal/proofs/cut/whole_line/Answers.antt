-- With a mark or without, one line stands at the beginning, or none.
use Rattle.std.proofs.Common.{sym, subst}
use Rattle.path_journal.specs.JournalFaults.{BeginsNoLine}
use Rattle.path_journal.proofs.CutLemmas.{none_to, marked_none}
use Rattle.path_journal.proofs.cut.whole_line.Goals as goal

pub returns-in-Some-clause-none : goal.returns-in-Some-clause-none
returns-in-Some-clause-none g c =
    none_to c.plain_line.result _ _ (λ none. subst (λ m. BeginsNoLine c.args.decl.now.declaration m c.args.text.now) (sym c.if-marks.true) (marked_none c.args.decl.now.declaration c.args.decl.now.lawful.operation_names c.args.text.now c.in-Some.behind.now c.in-Some.ensures none)) c.plain_line.ensures.none
