-- Both were compiled from one declaration.
use Rattle.path_order.proofs.CallerLemmas.{runs_opened}
use Rattle.tests_machine.proofs.tests.orders.opened.Goals as goal

pub fits-requires : goal.fits-requires
fits-requires g c = (c.in-Ok.decl.declaration, c.in-Ok.decl.lawful, c.in_ok-order.ensures, c.in_ok-gate.ensures.paths)

pub returns-clause-runs : goal.returns-clause-runs
returns-clause-runs g c = runs_opened c.in_ok-gate.gate c.in_ok-gate.ensures.opened c.in_ok-gate.ensures.admitted
