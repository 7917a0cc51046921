-- The reply is one that the call tells.
use Rattle.std.proofs.Common.{◌≡◌, ◌∙◌, sym}
use Rattle.path_model.specs.declared.journal.Attempt.TheVariants.{Start}
use Rattle.path_model.specs.Journals.{with_line}
use Rattle.path_model.specs.Segments.{joined}
use Rattle.path_system.specs.Calls.{start_reply}
use Rattle.path_system.proofs.Narrow.{is_start_reply}
use Rattle.path_system.proofs.system.System.start.Goals as goal
use Rattle.path_system.proofs.system.System.start.Goals.{After-start_told}
use Rattle.path_system.proofs.system.System.start.Given.{Over}

-- it tells the reply of the step
told : (g : Over) (c : After-start_told g) → start_reply c.start_told.result ≡ c.step.result
told g c =
    let s = c.args.self.now in
    c.start_told.ensures (is_start_reply s.declaration s.room s.openings (joined s.earlier) s.journal c.args.worker c.args.op _ c.step.ensures.owed)

pub returns-clause-owed : goal.returns-clause-owed
returns-clause-owed g c = rw (told g c) c.step.ensures.owed

pub returns-clause-journal : goal.returns-clause-journal
returns-clause-journal g c =
    c.step.ensures.journal
    ∙ (λ i. record c.args.self.now { journal = with_line c.args.self.now.journal c.args.worker (Start c.args.op) (sym (told g c) i); failures = c.step.ensures.failures i })
