use Rattle.std.proofs.Common.{List, [], sym, subst}
use Rattle.path_workers.specs.declared.answer.Receipt.{Receipt}
use Rattle.path_run.specs.declared.outcome.End.TheVariants.{NotStarted}
use Rattle.path_run.specs.Runs.{IsRun}
use Rattle.path_run.specs.Runs.IsRun.{not_started}
use Rattle.path_run.proofs.begun.Begun.join.Goals as goal

pub returns-in-None-clause-run : goal.returns-in-None-clause-run
returns-in-None-clause-run g c = subst (λ (rs : List Receipt). IsRun c.args.self.1 [] rs NotStarted) (sym c.new.ensures.1) (not_started c.args.self.1)
