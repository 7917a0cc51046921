use Rattle.path_read.proofs.Known.{computed_refused, read_as_computed}
use Rattle.path_read.proofs.reader.read_constant.Goals as goal

pub prove-unreachable-requires : goal.prove-unreachable-requires
prove-unreachable-requires g c =
    let e = computed_refused c.args.text.now c.in-Err.fault c.requires c.in-Err.ensures.err in
    let h = rw e at c.if-prove.ensures in
    absurd (cc)

pub returns-in-Ok-clause-computed : goal.returns-in-Ok-clause-computed
returns-in-Ok-clause-computed g c = read_as_computed c.args.text.now _ c.requires c.in-Ok.ensures.ok
