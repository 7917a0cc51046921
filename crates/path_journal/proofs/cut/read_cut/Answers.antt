-- What was read of a text is its only journal, and where a line is damaged it has none.
use Rattle.std.proofs.Common.{◌≤◌, length, refl, subst, arith}
use Rattle.path_journal.specs.JournalFaults.{BeginsNoLine, BeginsUndeclared}
use Rattle.path_journal.specs.CutTexts.{AreLinesRead, IsDamage}
use Rattle.path_journal.proofs.CutJournals.{cut_ok, cut_one, damaged, damaged_none}
use Rattle.path_journal.proofs.cut.read_cut.Goals as goal

pub returns-in-Some-clause-none : goal.returns-in-Some-clause-none
returns-in-Some-clause-none g c = λ long memory.
    let d = c.args.decl.now.declaration in
    let names = c.args.decl.now.lawful.operation_names in
    let head = c.version_of-version.ensures in
    let marks = c.has_marks-marks.ensures in
    let read = subst (λ m. AreLinesRead d m c.version_of-version.result.1.now c.in_ok-lines.lines.items c.in_ok-lines.rest.now) marks c.in_ok-lines.ensures.read in
    let first = subst (λ m. BeginsNoLine d m c.in_ok-lines.rest.now) marks c.in_ok-lines.ensures.end in
    let damage = subst (λ m. IsDamage d m c.in_ok-lines.rest.now c.in-Some.fault) marks c.in-Some.ensures.some in
    damaged_none d names c.args.text.now _ c.in-Some.fault
    (damaged d names c.args.text.now c.version_of-version.result.1.now c.in_ok-lines.rest.now c.version_of-version.result.0 c.in_ok-lines.lines.items c.in-Some.fault _ head.fits head.no_head head.parts read first damage refl)

pub returns-clause-ok : goal.returns-clause-ok
returns-clause-ok g c =
    let d = c.args.decl.now.declaration in
    let names = c.args.decl.now.lawful.operation_names in
    let head = c.version_of-version.ensures in
    let marks = c.has_marks-marks.ensures in
    let read = subst (λ m. AreLinesRead d m c.version_of-version.result.1.now c.in_ok-lines.lines.items c.in_ok-lines.rest.now) marks c.in_ok-lines.ensures.read in
    let first = subst (λ m. BeginsNoLine d m c.in_ok-lines.rest.now) marks c.in_ok-lines.ensures.end in
    let declared = subst (λ m. BeginsUndeclared d m c.in_ok-lines.rest.now → ⊥) marks c.in_default.ensures.undeclared in
    let few = c.in_ok-lines.ensures.few in
    let shorter : length c.in_ok-lines.rest.now ≤ length c.version_of-version.result.1.now = omega (arith, few) in
    cut_ok d names c.args.text.now c.version_of-version.result.1.now c.in_ok-lines.rest.now c.version_of-version.result.0 c.in_ok-lines.lines.items _ head.fits head.no_head head.parts read first declared c.in_default.ensures.behind shorter refl

pub returns-clause-one : goal.returns-clause-one
returns-clause-one g c =
    cut_one c.args.decl.now.declaration c.args.decl.now.lawful.operation_names c.args.text.now c.version_of-version.result.0 c.in_ok-lines.lines.items _ (returns-clause-ok g c)
