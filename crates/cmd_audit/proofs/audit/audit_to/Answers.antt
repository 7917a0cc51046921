-- The text is refused, or its verdict is written.
use Rattle.std.proofs.Common.{refl}
use Rattle.path_audit.specs.declared.journals.Verdict.TheVariants.{Sound, WrongLine}
use Rattle.tell_base.specs.Statuses.{status_of}
use Rattle.tell_base.proofs.CallerLemmas.{ends_told, ends_written, may_refuse, never_done, never_unsound}
use Rattle.cmd_audit.specs.Audits.{AuditEnd, TellsVerdict}
use Rattle.cmd_audit.proofs.AuditLemmas.{never_sound, never_wrong, tells}
use Rattle.cmd_audit.proofs.audit.audit_to.Goals as goal

pub returns-in-Ok-clause-ends : goal.returns-in-Ok-clause-ends
returns-in-Ok-clause-ends g c =
    ends_written (AuditEnd c.args.room c.args.journal.now c.args.decl.declaration) _ _ _ _ _ _ refl (tells c.args.decl.declaration c.args.room c.args.journal.now c.in-Ok.verdict c.in-Ok.ensures.ok) c.tell_verdict.ensures

pub returns-in-Ok-clause-only_wrong : goal.returns-in-Ok-clause-only_wrong
returns-in-Ok-clause-only_wrong g c = λ is e. never_wrong c.in-Ok.verdict _ _ _ (c.in-Ok.ensures.one Sound is) c.tell_verdict.ensures e

pub returns-in-Ok-clause-only_sound : goal.returns-in-Ok-clause-only_sound
returns-in-Ok-clause-only_sound g c = λ n is e. never_sound c.in-Ok.verdict _ _ _ n (c.in-Ok.ensures.one (WrongLine n) is) c.tell_verdict.ensures e

pub returns-in-Err-clause-ends : goal.returns-in-Err-clause-ends
returns-in-Err-clause-ends g c =
    ends_told _ _ (status_of c.in-Err.fault) _ (may_refuse (TellsVerdict c.args.decl.declaration c.args.room c.args.journal.now) _ _ _ _ (status_of c.in-Err.fault) (λ x. x) (λ x. x) c.in-Err.ensures.err) c.tell.ensures

pub returns-in-Err-clause-only_wrong : goal.returns-in-Err-clause-only_wrong
returns-in-Err-clause-only_wrong g c = λ is e. never_unsound _ _ (status_of c.in-Err.fault) _ c.in-Err.ensures.err c.tell.ensures e

pub returns-in-Err-clause-only_sound : goal.returns-in-Err-clause-only_sound
returns-in-Err-clause-only_sound g c = λ n is e. never_done _ _ (status_of c.in-Err.fault) _ c.in-Err.ensures.err c.tell.ensures e
