-- What contracts see of a gate, and what it keeps besides.
use Rattle.path_model.specs.Legal as legal
use Rattle.path_gate.specs.declared.gate.Gate.TheInside.{Inside}
use Rattle.path_gate.specs.Levels.{levels_in}
use Rattle.path_gate.specs.Standings.{Standing}
use Rattle.path_gate.specs.Inner.Soundness.{IsSound, IsLaidOut, runs_of}

abbrev pub standing_in : {Y : Type 0} → Inside Y → Standing
standing_in g =
    record {
      paths = legal.numbered 0 g.lean.value.trees;
      levels = levels_in g.levels;
      in_progress = g.in_progress.items;
      admitted = g.admitted;
    }

pub record IsKeeping {Y : Type 0} (g : Inside Y) : Type 0 where
  pub sound : IsSound (standing_in g) (runs_of g.terms.items g.ranges.items)
  pub laid_out : IsLaidOut g.terms.items g.ranges.items
