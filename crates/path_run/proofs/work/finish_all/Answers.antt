use Rattle.std.proofs.Common.{List, [], subst}
use Rattle.std.proofs.lemmas.List.{append-nil}
use Rattle.path_workers.specs.declared.answer.Receipt.{Receipt}
use Rattle.path_run.specs.Runs.{Finishes}
use Rattle.path_run.proofs.work.finish_all.Goals as goal

pub returns-clause-run : goal.returns-clause-run
returns-clause-run g c =
    let i = c.loop-act.invariant.1 in
    (i.0, i.1, subst (λ (rs : List Receipt). Finishes c.args.entered rs) (append-nil i.0) (i.2 [] tt))
