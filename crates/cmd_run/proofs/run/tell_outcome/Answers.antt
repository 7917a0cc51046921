-- The journal was written, and what the ends make of it is the status.
use Rattle.std.proofs.Common.{List, ap, ◌∙◌, subst}
use Rattle.std.specs.Prelude.{Some}
use Rattle.path_model.specs.declared.journal.Line.{Line}
use Rattle.path_model.specs.Declarations.{Declaration}
use Rattle.path_journal.specs.JournalTexts.{journal_text}
use Rattle.tell_base.proofs.CallerLemmas.{put_all}
use Rattle.cmd_run.specs.Ends.{IsStatusOf}
use Rattle.cmd_run.proofs.Endings.{ends_run, ends_unwritten}
use Rattle.cmd_run.proofs.run.tell_outcome.Goals as goal

pub returns-in-Done : goal.returns-in-Done
returns-in-Done g c =
    let o = c.args.outcome.now in
    let lines : List Line = o.system.journal in
    let told = c.as_bytes.ensures.value ∙ c.in-Ok.ensures ∙ ap (λ (ls : List Line). journal_text c.decl-decl.result.now.declaration (Some c.args.room) ls) c.journal.ensures.value
    ∙ ap (λ (x : Declaration). journal_text x (Some c.args.room) lines) c.decl-decl.ensures in
    let status : IsStatusOf o.ends.items c.status_of_ends-status.result = subst (λ es. IsStatusOf es c.status_of_ends-status.result) c.deref-2.ensures.value c.status_of_ends-status.ensures in
    ends_run o.ends.items _ _ _ c.status_of_ends-status.result _ status c.tell_ends.ensures (put_all _ _ _ _ _ told c.in-Done.is c.put_text.ensures)

pub returns : goal.returns
returns g c =
    let o = c.args.outcome.now in
    let lines : List Line = o.system.journal in
    let told = c.as_bytes.ensures.value ∙ c.in-Ok.ensures ∙ ap (λ (ls : List Line). journal_text c.decl-decl.result.now.declaration (Some c.args.room) ls) c.journal.ensures.value
    ∙ ap (λ (x : Declaration). journal_text x (Some c.args.room) lines) c.decl-decl.ensures in
    let status : IsStatusOf o.ends.items c.status_of_ends-status.result = subst (λ es. IsStatusOf es c.status_of_ends-status.result) c.deref-2.ensures.value c.status_of_ends-status.ensures in
    ends_unwritten o.ends.items _ _ _ c.status_of_ends-status.result _ _ status told c.in_default-put_text.not-Done c.put_text.ensures
