-- The report is of all lines, before which none came.
use Rattle.std.proofs.Common.{◌∙◌, ap}
use Rattle.std.specs.String.{string_bytes}
use Rattle.path_model.specs.Declarations.{Declaration}
use Rattle.path_system.proofs.CallerLemmas.{of_system}
use Rattle.tell_base.specs.ReportTexts.{report_text}
use Rattle.cmd_trace.proofs.trace.push_report_if.Goals as goal

pub returns-in_ok-extend_from_slice : goal.returns-in_ok-extend_from_slice
returns-in_ok-extend_from_slice g c =
    let told = of_system c.args.system.now c.requires _ c.in_ok-present.ensures in
    let present = c.in_ok-present.present in
    rw c.if-report.true (
      string_bytes c.in_ok-text.text,
      record {
        startable = present.startable.items;
        blocked = present.blocked.items;
        live = present.live.items;
        frozen = present.frozen;
        told = told;
        spelled = c.in_ok-text.ensures ∙ ap (λ (d : Declaration). report_text d present.startable.items present.blocked.items present.live.items present.frozen) c.decl.ensures;
      },
      rw c.as_bytes.ensures.value at c.in_ok-extend_from_slice.ensures.items,
    )
