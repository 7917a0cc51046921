use Rattle.path_read.proofs.draft.Draft.take.Goals as goal

pub returns-in-Resource-clause-ok : goal.returns-in-Resource-clause-ok
returns-in-Resource-clause-ok g c = rw c.in-Resource.is c.resource.ensures.ok

pub returns-in-Resource-clause-err : goal.returns-in-Resource-clause-err
returns-in-Resource-clause-err g c = rw c.in-Resource.is c.resource.ensures.err

pub returns-in-Law-clause-ok : goal.returns-in-Law-clause-ok
returns-in-Law-clause-ok g c = rw c.in-Law.is c.law.ensures.ok

pub returns-in-Law-clause-err : goal.returns-in-Law-clause-err
returns-in-Law-clause-err g c = rw c.in-Law.is c.law.ensures.err

pub returns-in-Operation-clause-ok : goal.returns-in-Operation-clause-ok
returns-in-Operation-clause-ok g c = rw c.in-Operation.is c.operation.ensures.ok

pub returns-in-Operation-clause-err : goal.returns-in-Operation-clause-err
returns-in-Operation-clause-err g c = rw c.in-Operation.is c.operation.ensures.err

pub returns-in-Path-clause-ok : goal.returns-in-Path-clause-ok
returns-in-Path-clause-ok g c = rw c.in-Path.is c.path.ensures.ok

pub returns-in-Path-clause-err : goal.returns-in-Path-clause-err
returns-in-Path-clause-err g c = rw c.in-Path.is c.path.ensures.err

pub returns-in-Name-clause-ok : goal.returns-in-Name-clause-ok
returns-in-Name-clause-ok g c = rw c.in-Name.is c.name.ensures.ok

pub returns-in-Name-clause-err : goal.returns-in-Name-clause-err
returns-in-Name-clause-err g c = rw c.in-Name.is c.name.ensures.err

pub returns-in-Sequence-clause-ok : goal.returns-in-Sequence-clause-ok
returns-in-Sequence-clause-ok g c = rw c.in-Sequence.is c.sequence.ensures.ok

pub returns-in-Sequence-clause-err : goal.returns-in-Sequence-clause-err
returns-in-Sequence-clause-err g c = rw c.in-Sequence.is c.sequence.ensures.err

pub returns-in-Selection-clause-ok : goal.returns-in-Selection-clause-ok
returns-in-Selection-clause-ok g c = rw c.in-Selection.is c.selection.ensures.ok

pub returns-in-Selection-clause-err : goal.returns-in-Selection-clause-err
returns-in-Selection-clause-err g c = rw c.in-Selection.is c.selection.ensures.err

pub returns-in-Opening-clause-ok : goal.returns-in-Opening-clause-ok
returns-in-Opening-clause-ok g c = rw c.in-Opening.is c.opening.ensures.ok

pub returns-in-Opening-clause-err : goal.returns-in-Opening-clause-err
returns-in-Opening-clause-err g c = rw c.in-Opening.is c.opening.ensures.err

pub returns-in-Closing-clause-ok : goal.returns-in-Closing-clause-ok
returns-in-Closing-clause-ok g c = rw c.in-Closing.is c.closing.ensures.ok

pub returns-in-Closing-clause-err : goal.returns-in-Closing-clause-err
returns-in-Closing-clause-err g c = rw c.in-Closing.is c.closing.ensures.err

pub returns-in-Bound-clause-ok : goal.returns-in-Bound-clause-ok
returns-in-Bound-clause-ok g c = rw c.in-Bound.is c.bound.ensures.ok

pub returns-in-Bound-clause-err : goal.returns-in-Bound-clause-err
returns-in-Bound-clause-err g c = rw c.in-Bound.is c.bound.ensures.err

pub returns-in-End-clause-ok : goal.returns-in-End-clause-ok
returns-in-End-clause-ok g c = rw c.in-End.is c.end.ensures.ok

pub returns-in-End-clause-err : goal.returns-in-End-clause-err
returns-in-End-clause-err g c = rw c.in-End.is c.end.ensures.err
