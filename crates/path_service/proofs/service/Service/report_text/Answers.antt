-- The report is of all lines, before which none came.
use Rattle.std.proofs.Common.{◌≡◌, ◌∙◌, None, ap}
use Rattle.std.proofs.lemmas.Result.{IfOk-weaker}
use Rattle.path_model.specs.Declarations.{Declaration}
use Rattle.path_system.specs.Accounts.{Account}
use Rattle.path_system.proofs.CallerLemmas.{of_system}
use Rattle.tell_base.specs.ReportTexts.{report_text}
use Rattle.path_service.proofs.service.Service.report_text.Goals as goal

pub returns : goal.returns
returns c =
    let first : c.controller.result.now.opened ≡ None = ap (λ (a : Account). a.opened) c.controller.ensures.value ∙ c.controller.ensures.system.first in
    let told = of_system c.controller.result.now first _ c.in_ok-report.ensures in
    let report = c.in_ok-report.report in
    IfOk-weaker c.write_report.result _ _
    (λ text is. record {
      startable = report.startable.items;
      blocked = report.blocked.items;
      live = report.live.items;
      frozen = report.frozen;
      told = rw c.controller.ensures.value at told;
      spelled = is
          ∙ ap (λ (d : Declaration). report_text d report.startable.items report.blocked.items report.live.items report.frozen)
          (c.decl.ensures ∙ ap (λ (a : Account). a.declaration) c.controller-2.ensures.value);
    })
    c.write_report.ensures
