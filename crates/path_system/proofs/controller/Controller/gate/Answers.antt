-- The gate is at the history of all lines, which is legal.
use Rattle.std.proofs.Common.{◌∙◌, ap}
use Rattle.path_gate.specs.Standings.{Standing}
use Rattle.path_system.proofs.Telling.{gate_at, legal_all}
use Rattle.path_system.proofs.controller.Controller.gate.Goals as goal

pub returns-clause-paths : goal.returns-clause-paths
returns-clause-paths g c = rw (← c.self.view_is) (ap (λ (s : Standing). s.paths) c.gate.ensures ∙ c.self.invariant.sound.paths)

pub returns-clause-at : goal.returns-clause-at
returns-clause-at g c =
    rw (← c.self.view_is) (λ openings before leads. gate_at _ _ _ _ _ c.self.invariant openings before leads c.gate.result.now c.gate.ensures)

pub returns-clause-legal : goal.returns-clause-legal
returns-clause-legal g c = rw (← c.self.view_is) (λ openings before leads. legal_all _ _ _ _ _ c.self.invariant openings before leads)
