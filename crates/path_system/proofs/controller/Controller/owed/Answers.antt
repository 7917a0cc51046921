-- What is foretold is owed.
use Rattle.path_system.proofs.Controlled.{ready_now}
use Rattle.path_system.proofs.Owing.{owed_foretold, unfailed}
use Rattle.path_system.proofs.controller.Controller.owed.Goals as goal

pub owed-requires : goal.owed-requires
owed-requires g c = ready_now _ _ _ _ _ c.self.invariant

pub returns-clause-owed : goal.returns-clause-owed
returns-clause-owed g c =
    rw (← c.self.view_is) (λ openings before leads. owed_foretold _ _ _ _ _ c.self.invariant openings before leads c.args.worker c.args.attempt c.owed.result c.owed.ensures)

pub returns-clause-served : goal.returns-clause-served
returns-clause-served g c = unfailed _ _ _ c.args.worker _ _ c.args.attempt c.owed.result c.owed.ensures
