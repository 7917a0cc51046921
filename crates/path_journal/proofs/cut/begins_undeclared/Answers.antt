-- With a mark or without, one line stands at the beginning.
use Rattle.std.proofs.Common.{false, refl, sym, subst}
use Rattle.path_journal.specs.JournalFaults.{BeginsUndeclared}
use Rattle.path_journal.proofs.CutLemmas.{true_to, false_to, undeclared_marked}
use Rattle.path_journal.proofs.cut.begins_undeclared.Goals as goal

pub returns-in-Some-clause-no : goal.returns-in-Some-clause-no
returns-in-Some-clause-no g c =
    false_to c.plain_undeclared.result _ _ (λ none. subst (λ m. BeginsUndeclared c.args.decl.now.declaration m c.args.text.now → ⊥) (sym c.if-marks.true) (undeclared_marked c.args.decl.now.declaration c.args.decl.now.lawful.operation_names c.args.text.now c.in-Some.behind.now c.in-Some.ensures none)) c.plain_undeclared.ensures.no

pub returns-clause-yes : goal.returns-clause-yes
returns-clause-yes g c =
    true_to c.plain_undeclared-2.result _ _ (λ first. record { marked = false; allowed = λ e. cc; behind = c.args.text.now; first = first; parts = refl }) c.plain_undeclared-2.ensures.yes
