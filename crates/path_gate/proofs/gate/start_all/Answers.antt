-- The table keeps its places, so each term is within it.
use Rattle.std.proofs.Common.{None, refl, arith}
use Rattle.path_gate.specs.declared.gate.Term.{Term}
use Rattle.path_gate.specs.Levels.{levels_in, started}
use Rattle.path_gate.specs.Inner.Terms.{all_started, CanStartAll}
use Rattle.path_gate.proofs.Places.{started_places, passed}
use Rattle.path_gate.proofs.gate.start_all.Goals as goal

abbrev no_term : Term
no_term = record { path = record { 0 = 0 }; prologue = None; epilogue = None }

pub start-requires-clause-within : goal.start-requires-clause-within
start-requires-clause-within g c = rw (c.loop-term.invariant.places.0, c.loop-term.invariant.places.1) (c.requires.within c.loop-term.term-index no_term (omega arith)).prologue

pub loop-term-preserved : goal.loop-term-preserved
loop-term-preserved g c =
    let p = passed (λ t. started t.prologue) all_started CanStartAll (λ t ts v. refl) (λ t ts v can. can.1) (λ t. started_places t.prologue) c.args.terms.now c.loop-term.term-index no_term (levels_in c.args.levels.now) (levels_in c.loop-term.levels) (levels_in c.start.new.self)
    (all_started c.args.terms.now (levels_in c.args.levels.now)) (omega arith) c.start.ensures c.loop-term.invariant.started c.loop-term.invariant.can c.loop-term.invariant.places in
    record { started = p.0; can = p.1; places = p.2 }
