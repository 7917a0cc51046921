-- What is passed on is the fault of the run's own receipts.
use Rattle.std.proofs.Common.{rules, ◌≡◌, Option, Some, sym, subst, length}
use Rattle.path_system.specs.Accounts.{Account}
use Rattle.path_workers.specs.declared.settle.SettleFault.{SettleFault}
use Rattle.path_run.specs.declared.outcome.RunFault.{RunFault}
use Rattle.path_run.specs.declared.outcome.RunFault.TheVariants.{Unsettled}
use Rattle.path_run.specs.Ended.{HasRun}
use Rattle.path_run.specs.Unsettled.{IsUnsettledRun}
use Rattle.path_run.proofs.running.run.Goals as goal

-- what a fault says is one
module _ {S : Type 0} (f g : SettleFault) (s t : S) where
  same_fault : ◌≡◌ {A = RunFault S} (Unsettled f s) (Unsettled g t) → f ≡ g
  same_fault is = cc

  same_system : ◌≡◌ {A = RunFault S} (Unsettled f s) (Unsettled g t) → s ≡ t
  same_system is = cc

pub returns-in-Some-clause-unsettled : goal.returns-in-Some-clause-unsettled
returns-in-Some-clause-unsettled g c = λ fault left is.
    let before : Account = g.S.Steps.account c.args.system in
    let outcome = c.in-Ok.field-0.outcome in
    let system : c.into_system.result ≡ outcome.system = search rules in
    let plans = c.args.script.now.processes in
    let run = subst (λ (o : Option SettleFault). HasRun plans before (g.S.Steps.account outcome.system) outcome.passes.items outcome.ends.items o) c.in-Some.is c.in-Ok.ensures.ok in
    let told : IsUnsettledRun plans (length before.journal) (g.S.Steps.account outcome.system).journal c.in-Some.fault = (outcome.passes.items, outcome.ends.items, run.passes, run.ends, run.runs, run.judged) in
    let here : IsUnsettledRun plans (length before.journal) (g.S.Steps.account c.into_system.result).journal c.in-Some.fault =
    subst (λ (s : g.row.S.Denot). IsUnsettledRun plans (length before.journal) (g.S.Steps.account s).journal c.in-Some.fault) (sym system) told in
    let moved = subst (λ (s : g.row.S.Denot). IsUnsettledRun plans (length before.journal) (g.S.Steps.account s).journal c.in-Some.fault)
    (same_system c.in-Some.fault fault c.into_system.result left is) here in
    subst (λ (f : SettleFault). IsUnsettledRun plans (length before.journal) (g.S.Steps.account left).journal f) (same_fault c.in-Some.fault fault c.into_system.result left is) moved
