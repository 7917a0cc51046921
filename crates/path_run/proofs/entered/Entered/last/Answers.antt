use Rattle.std.proofs.Common.{rules, drop, ◌+◌, sym, ◌∙◌}
use Rattle.path_run.proofs.Steps.{next_act}
use Rattle.path_run.proofs.entered.Entered.last.Goals as goal

pub returns : goal.returns
returns g =
    let i = g.self.inside in
    (drop (i.top + 1) i.acts, sym g.self.view_is ∙ next_act i.acts i.top (record { 0 = 0 }) (search rules))
