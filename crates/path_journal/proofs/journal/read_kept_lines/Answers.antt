-- What was read up to the end is all that the text has.
use Rattle.std.proofs.Common.{◌≡◌, ◌≢◌, [], length, ap, rules, arith}
use Rattle.std.proofs.lemmas.Grind.{common_steps}
use Rattle.std.proofs.lemmas.List.{nil_from_length}
use Rattle.path_journal.specs.JournalTexts.{AreKeptLines}
use Rattle.path_journal.proofs.KeptJournals.{all_kept, kept_fault, one_kept, no_kept}
use Rattle.path_journal.proofs.journal.read_kept_lines.Goals as goal

pub returns-then-is_empty-clause-one : goal.returns-then-is_empty-clause-one
returns-then-is_empty-clause-one g c =
    let none : length c.in_ok-lines.rest.now ≡ 0 = grind (arith, common_steps) in
    let lines : AreKeptLines c.args.decl.now.declaration c.args.text.now c.in_ok-lines.lines.items = all_kept _ _ _ _ (nil_from_length c.in_ok-lines.rest.now none) c.in_ok-lines.ensures.read in
    one_kept c.args.decl.now.declaration c.args.decl.now.lawful.operation_names c.args.text.now c.in_ok-lines.lines.items lines

pub returns-clause-err : goal.returns-clause-err
returns-clause-err g c =
    let more : c.in_ok-lines.rest.now ≢ [] = λ e. let k : length c.in_ok-lines.rest.now ≡ 0 = ap length e in grind (arith, common_steps) in
    rw c.fault_at.ensures
    (kept_fault c.args.decl.now.declaration c.args.text.now c.in_ok-lines.rest.now c.in_ok-lines.lines.items _ c.kept_fault.result (search rules) more c.in_ok-lines.ensures.read c.in_ok-lines.ensures.end c.kept_fault.ensures)

pub returns-clause-none : goal.returns-clause-none
returns-clause-none g c = λ memory.
    let more : c.in_ok-lines.rest.now ≢ [] = λ e. let k : length c.in_ok-lines.rest.now ≡ 0 = ap length e in grind (arith, common_steps) in
    no_kept c.args.decl.now.declaration c.args.decl.now.lawful.operation_names c.args.text.now c.in_ok-lines.rest.now c.in_ok-lines.lines.items more c.in_ok-lines.ensures.read c.in_ok-lines.ensures.end
