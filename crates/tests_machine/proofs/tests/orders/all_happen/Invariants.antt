-- The gate runs, and the order is ready.
use Rattle.path_order.specs.Beside.{IsRunning, AreReady}
use Rattle.tests_machine.proofs.tests.orders.all_happen.Given as goal

abbrev pub invariant-loop-happening : goal.invariant-loop-happening
invariant-loop-happening g l = record {
  runs : IsRunning l.door.gate;
  ready : AreReady l.door.gate l.door.order.spares;
}
