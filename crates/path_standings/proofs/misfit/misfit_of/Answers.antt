-- A lawful tree has few parts.
use Rattle.std.proofs.Common.{arith}
use Rattle.path_standings.proofs.Few.{few_at}
use Rattle.path_standings.proofs.misfit.misfit_of.Goals as goal

pub parts_of-requires : goal.parts_of-requires
parts_of-requires g c =
    let few = few_at c.args.decl.now.declaration c.args.decl.now.lawful c.args.number c.requires.declared in
    rw c.tree_numbered-tree.ensures (omega (arith, few.0, few.1))
