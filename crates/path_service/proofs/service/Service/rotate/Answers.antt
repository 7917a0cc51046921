-- A rotation leaves a system, and the lines are given up.
use Rattle.std.proofs.Common.{rules}
use Rattle.path_system.specs.Accounts.{IsSystem}
use Rattle.path_service.proofs.Served.{turned}
use Rattle.path_service.proofs.service.Service.rotate.Goals as goal
use Rattle.path_service.proofs.service.Service.rotate.Goals.{in-Some, in_default}

pub invariant_of-self : goal.invariant_of-self
invariant_of-self c =
    let system : IsSystem c.rotate.new.self = turned c.self.inside.controller c.rotate.new.self c.self.invariant.system.first c.rotate.ensures.rotated c.rotate.ensures.controlled in
    elim c.match-self.branch [
      | in-Some w ↦ rw w.self-inside-is (record { system = system; logged = search rules; ordered = search rules })
      | in_default w ↦ rw w.self-inside-is (record { system = system; logged = search rules; ordered = search rules })
    ]
