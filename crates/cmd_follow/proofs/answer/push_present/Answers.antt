-- The report is of the lines since the last rotation, since there was none.
use Rattle.std.proofs.Common.{◌∙◌, ap}
use Rattle.path_model.specs.Declarations.{Declaration}
use Rattle.path_system.proofs.CallerLemmas.{of_system}
use Rattle.tell_base.specs.ReportTexts.{report_text}
use Rattle.cmd_follow.proofs.answer.push_present.Goals as goal

pub returns : goal.returns
returns g c =
    let present = c.in_ok-present.present in
    record {
      startable = present.startable.items;
      blocked = present.blocked.items;
      live = present.live.items;
      frozen = present.frozen;
      told = rw c.requires.whole at (of_system c.args.system.now c.requires.first _ c.in_ok-present.ensures);
      spelled = (rw (c.as_bytes.ensures.value, c.requires.empty) at c.in_ok-extend_from_slice.ensures.items) ∙ c.in_ok-text.ensures ∙ ap (λ (d : Declaration). report_text d present.startable.items present.blocked.items present.live.items present.frozen) c.decl.ensures;
    }
