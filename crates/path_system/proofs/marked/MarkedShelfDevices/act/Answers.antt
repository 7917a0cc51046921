-- The device of the resource serves by its law.
use Rattle.std.proofs.Common.{sym, subst}
use Rattle.path_step.specs.Steps.{Serves}
use Rattle.path_system.specs.Accounts.{contents_of}
use Rattle.path_system.specs.Inner.Parts.{Marked, contents, is_law_at}
use Rattle.path_system.proofs.Serving.{serves_by}
use Rattle.path_system.proofs.marked.MarkedShelfDevices.act.Goals as goal

pub returns-clause-serves : goal.returns-clause-serves
returns-clause-serves g c =
    let r = c.args.resource.0 in
    let has = subst (λ (m : Marked). is_law_at m r c.args._law) (sym c.self.view_is) c.requires.law in
    subst (λ (m : Marked). Serves c.args._law r c.args.verb (contents m) c.reply_of.result (contents_of c.act.new.self)) c.self.view_is
    (serves_by c.args._law r c.args.verb c.self.inside.shelf c.act.new.self c.act.result c.reply_of.result has c.act.ensures.acts c.reply_of.ensures)
