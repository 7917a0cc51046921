-- The reply is one that the call tells.
use Rattle.std.proofs.Common.{◌≡◌, ◌∙◌, sym}
use Rattle.path_model.specs.declared.journal.Attempt.TheVariants.{Finish}
use Rattle.path_model.specs.Journals.{with_line}
use Rattle.path_model.specs.Segments.{joined}
use Rattle.path_system.specs.Calls.{finish_reply}
use Rattle.path_system.proofs.Narrow.{is_finish_reply}
use Rattle.path_system.proofs.system.System.finish.Goals as goal
use Rattle.path_system.proofs.system.System.finish.Goals.{After-finish_told}
use Rattle.path_system.proofs.system.System.finish.Given.{Over}

-- it tells the reply of the step
told : (g : Over) (c : After-finish_told g) → finish_reply c.finish_told.result ≡ c.step.result
told g c =
    let s = c.args.self.now in
    c.finish_told.ensures (is_finish_reply s.declaration s.room s.openings (joined s.earlier) s.journal c.args.worker c.args.act _ c.step.ensures.owed)

pub returns-clause-owed : goal.returns-clause-owed
returns-clause-owed g c = rw (told g c) c.step.ensures.owed

pub returns-clause-journal : goal.returns-clause-journal
returns-clause-journal g c =
    c.step.ensures.journal
    ∙ (λ i. record c.args.self.now { journal = with_line c.args.self.now.journal c.args.worker (Finish c.args.act) (sym (told g c) i); failures = c.step.ensures.failures i })
