-- Some bytes were written.
use Rattle.tell_base.proofs.PutLemmas.{PutSoFar}
use Rattle.tell_base.proofs.put.put.Given as goal

abbrev pub invariant-loop : goal.invariant-loop
invariant-loop g l = PutSoFar (g.O.Write.contents l.initial.out) (g.O.Write.contents l.out) l.bytes l.rest
