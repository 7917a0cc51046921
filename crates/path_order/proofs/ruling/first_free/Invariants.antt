-- Those so far are held back, and the spare gates stay where they are of use.
use Rattle.path_order.specs.Waiting.{ops_of}
use Rattle.path_order.proofs.Behind.{IsTrying}
use Rattle.path_order.proofs.ruling.first_free.Given as goal

abbrev pub invariant-loop-place : goal.invariant-loop-place
invariant-loop-place g l = IsTrying l.gate l.fn.spares (ops_of l.running) l.waiting l.place l.spares
