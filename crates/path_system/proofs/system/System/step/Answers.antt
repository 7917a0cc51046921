-- The controller's reply is owed by all lines: none came before them.
use Rattle.std.proofs.Common.{rules, ◌∙◌, ap}
use Rattle.path_system.specs.Accounts.{Account, IsSystem}
use Rattle.path_system.proofs.Behind.{of_system, is_system_of}
use Rattle.path_system.proofs.system.System.step.Goals as goal
use Rattle.path_system.proofs.system.System.step.Goals.{After-is_no_room}
use Rattle.path_system.proofs.system.System.step.Given.{Over}

still_system : (g : Over) (c : After-is_no_room g) → IsSystem c.step-reply.new.self
still_system g c = is_system_of _ (ap (λ (a : Account). a.opened) c.step-reply.ensures.journal ∙ c.self.invariant.system.first) c.step-reply.ensures.controlled

pub invariant_of-self : goal.invariant_of-self
invariant_of-self g c = record { kept = search rules; reserved = search rules; system = still_system g (goal.at.invariant_of-self g c).After-is_no_room }

pub invariant_of-self-else-not-is_no_room : goal.invariant_of-self-else-not-is_no_room
invariant_of-self-else-not-is_no_room g c =
    record { kept = search rules; reserved = search rules; system = still_system g (goal.at.invariant_of-self-else-not-is_no_room g c).After-is_no_room }

pub returns-then-not-is_no_room-clause-owed : goal.returns-then-not-is_no_room-clause-owed
returns-then-not-is_no_room-clause-owed g c = rw (← c.self.view_is) (of_system c.self.inside.controller c.self.invariant.system.first _ c.step-reply.ensures.owed)

pub returns-then-not-is_no_room-clause-failures : goal.returns-then-not-is_no_room-clause-failures
returns-then-not-is_no_room-clause-failures g c = rw (← c.self.view_is) (of_system c.self.inside.controller c.self.invariant.system.first _ c.step-reply.ensures.failures)

pub returns-then-not-is_no_room-clause-failed : goal.returns-then-not-is_no_room-clause-failed
returns-then-not-is_no_room-clause-failed g c = rw (← c.self.view_is) (λ told. of_system c.self.inside.controller c.self.invariant.system.first _ (c.step-reply.ensures.failed told))

pub returns-then-not-is_no_room-clause-system : goal.returns-then-not-is_no_room-clause-system
returns-then-not-is_no_room-clause-system g c = still_system g (goal.at.returns-then-not-is_no_room-clause-system g c).After-is_no_room

pub returns-else-not-is_no_room-clause-owed : goal.returns-else-not-is_no_room-clause-owed
returns-else-not-is_no_room-clause-owed g c = rw (← c.self.view_is) (of_system c.self.inside.controller c.self.invariant.system.first _ c.step-reply.ensures.owed)

pub returns-else-not-is_no_room-clause-failures : goal.returns-else-not-is_no_room-clause-failures
returns-else-not-is_no_room-clause-failures g c = rw (← c.self.view_is) (of_system c.self.inside.controller c.self.invariant.system.first _ c.step-reply.ensures.failures)

pub returns-else-not-is_no_room-clause-failed : goal.returns-else-not-is_no_room-clause-failed
returns-else-not-is_no_room-clause-failed g c = rw (← c.self.view_is) (λ told. of_system c.self.inside.controller c.self.invariant.system.first _ (c.step-reply.ensures.failed told))

pub returns-else-not-is_no_room-clause-system : goal.returns-else-not-is_no_room-clause-system
returns-else-not-is_no_room-clause-system g c = still_system g (goal.at.returns-else-not-is_no_room-clause-system g c).After-is_no_room
