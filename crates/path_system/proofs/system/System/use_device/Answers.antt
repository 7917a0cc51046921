-- The reply is one that the call tells.
use Rattle.std.proofs.Common.{◌≡◌, ◌∙◌, sym}
use Rattle.path_model.specs.declared.journal.Attempt.TheVariants.{Apply}
use Rattle.path_model.specs.Journals.{with_line}
use Rattle.path_model.specs.Segments.{joined}
use Rattle.path_system.specs.Calls.{use_reply}
use Rattle.path_system.proofs.Narrow.{is_use_reply, failed_told}
use Rattle.path_system.proofs.system.System.use_device.Goals as goal
use Rattle.path_system.proofs.system.System.use_device.Goals.{After-use_told}
use Rattle.path_system.proofs.system.System.use_device.Given.{Over}

-- it tells the reply of the step
told : (g : Over) (c : After-use_told g) → use_reply c.use_told.result ≡ c.step.result
told g c =
    let s = c.args.self.now in
    c.use_told.ensures (is_use_reply s.declaration s.room s.openings (joined s.earlier) s.journal c.args.worker c.args.act c.args.verb _ c.step.ensures.owed)

pub returns-clause-owed : goal.returns-clause-owed
returns-clause-owed g c = rw (told g c) c.step.ensures.owed

pub returns-clause-journal : goal.returns-clause-journal
returns-clause-journal g c =
    c.step.ensures.journal
    ∙ (λ i. record c.args.self.now { journal = with_line c.args.self.now.journal c.args.worker (Apply c.args.act c.args.verb) (sym (told g c) i); failures = c.step.new.self.failures })

pub returns-clause-failed : goal.returns-clause-failed
returns-clause-failed g c = rw (told g c) (failed_told c.use_told.result c.step.result (told g c) c.step.ensures.failed)

pub returns-clause-may_fail : goal.returns-clause-may_fail
returns-clause-may_fail g c = failed_told c.use_told.result c.step.result (told g c) c.step.ensures.may_fail
