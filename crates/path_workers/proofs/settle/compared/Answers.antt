-- What the comparison says of the journal and the passes holds of the system and the vector.
use Rattle.std.proofs.Common.{List, subst, refl}
use Rattle.path_model.specs.declared.journal.Line.{Line}
use Rattle.path_workers.specs.Attempts.{Held}
use Rattle.path_workers.specs.Faults.{IsFault}
use Rattle.path_workers.specs.Settled.{IsSettled}
use Rattle.path_workers.proofs.settle.compared.Goals as goal

pub journal-requires : goal.journal-requires
journal-requires g c κs = λ within. within

pub check-requires : goal.check-requires
check-requires g c κs = λ within. within

pub returns-in-Ok-clause-system : goal.returns-in-Ok-clause-system
returns-in-Ok-clause-system g c = refl

pub returns-in-Ok-clause-settled : goal.returns-in-Ok-clause-settled
returns-in-Ok-clause-settled g c =
    subst (λ (lines : List Line). IsSettled c.args.before lines c.args.passes.items) c.journal.ensures.value
    (subst (λ (held : List Held). IsSettled c.args.before c.journal.result.now held) c.as_mut_slice.ensures.value c.in-Ok.ensures.ok)

pub returns-in-Ok-clause-fault : goal.returns-in-Ok-clause-fault
returns-in-Ok-clause-fault g c = tt

pub returns-in-Err-clause-passes : goal.returns-in-Err-clause-passes
returns-in-Err-clause-passes g c = tt

pub returns-in-Err-clause-system : goal.returns-in-Err-clause-system
returns-in-Err-clause-system g c = refl

pub returns-in-Err-clause-settled : goal.returns-in-Err-clause-settled
returns-in-Err-clause-settled g c = tt

pub returns-in-Err-clause-fault : goal.returns-in-Err-clause-fault
returns-in-Err-clause-fault g c =
    subst (λ (lines : List Line). IsFault c.args.before lines c.args.passes.items c.in-Err.fault) c.journal.ensures.value
    (subst (λ (held : List Held). IsFault c.args.before c.journal.result.now held c.in-Err.fault) c.as_mut_slice.ensures.value c.in-Err.ensures.err)
