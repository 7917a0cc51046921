-- The text of an attempt is one line.
use Rattle.path_journal.proofs.RecordLemmas.{no_entry_short, bad_short, no_entry_broken, bad_broken, no_entry_alone, fault_alone}
use Rattle.path_journal.proofs.record.whole_entry.Goals as goal

pub returns-then-line-text-clause-err : goal.returns-then-line-text-clause-err
returns-then-line-text-clause-err g c = no_entry_short c.args.decl.now.declaration c.args.decl.now.lawful.operation_names.each c.args.text.now _ c.in-Ok.line.length c.in-Ok.ensures.line c.in-Ok.ensures.length c.if-line-text.true

pub returns-then-line-text-clause-fault : goal.returns-then-line-text-clause-fault
returns-then-line-text-clause-fault g c = rw (c.in_attempt.ensures, c.stop_at.ensures) (bad_short c.args.decl.now.declaration c.args.decl.now.lawful.operation_names.each c.args.text.now _ c.in-Ok.line.length c.in-Ok.ensures.line c.in-Ok.ensures.length c.if-line-text.true)

pub returns-in-Some-clause-err : goal.returns-in-Some-clause-err
returns-in-Some-clause-err g c = no_entry_broken c.args.decl.now.declaration c.args.decl.now.lawful.operation_names.each c.args.text.now _ _ c.in-Some.ensures.some

pub returns-in-Some-clause-fault : goal.returns-in-Some-clause-fault
returns-in-Some-clause-fault g c = bad_broken c.args.decl.now.declaration c.args.decl.now.lawful.operation_names.each c.args.text.now _ _ c.in-Some.ensures.some

pub returns-in-None-clause-err : goal.returns-in-None-clause-err
returns-in-None-clause-err g c = no_entry_alone c.args.decl.now.declaration c.args.decl.now.lawful.operation_names.each c.args.text.now c.in-Err.stop.fault c.in-None.ensures.none c.in-Err.ensures.err

pub returns-in-None-clause-fault : goal.returns-in-None-clause-fault
returns-in-None-clause-fault g c = rw c.in_attempt-stop.ensures (fault_alone c.args.decl.now.declaration c.args.decl.now.lawful.operation_names.each c.args.text.now c.in-Err.stop.fault c.in-None.ensures.none c.in-Err.ensures.err)
