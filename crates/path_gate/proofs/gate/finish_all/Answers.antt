-- The table keeps its places, so each term is within it.
use Rattle.std.proofs.Common.{None, refl, arith}
use Rattle.path_gate.specs.declared.gate.Term.{Term}
use Rattle.path_gate.specs.Levels.{levels_in, finished}
use Rattle.path_gate.specs.Inner.Terms.{all_finished, CanFinishAll}
use Rattle.path_gate.proofs.Places.{finished_places, passed}
use Rattle.path_gate.proofs.gate.finish_all.Goals as goal

abbrev no_term : Term
no_term = record { path = record { 0 = 0 }; prologue = None; epilogue = None }

pub finish-requires-clause-within : goal.finish-requires-clause-within
finish-requires-clause-within g c = rw (c.loop-term.invariant.places.0, c.loop-term.invariant.places.1) (c.requires.within c.loop-term.term-index no_term (omega arith)).epilogue

pub loop-term-preserved : goal.loop-term-preserved
loop-term-preserved g c =
    let p = passed (λ t. finished t.epilogue) all_finished CanFinishAll (λ t ts v. refl) (λ t ts v can. can.1) (λ t. finished_places t.epilogue) c.args.terms.now c.loop-term.term-index no_term (levels_in c.args.levels.now) (levels_in c.loop-term.levels) (levels_in c.finish.new.self)
    (all_finished c.args.terms.now (levels_in c.args.levels.now)) (omega arith) c.finish.ensures c.loop-term.invariant.finished c.loop-term.invariant.can c.loop-term.invariant.places in
    record { finished = p.0; can = p.1; places = p.2 }
