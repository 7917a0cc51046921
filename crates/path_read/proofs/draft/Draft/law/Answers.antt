use Rattle.std.proofs.Common.{◌-◌, ◌<◌, List, length, ap, ◌∙◌, arith, refl}
use Rattle.path_model.specs.declared.resource.Law.{Law}
use Rattle.path_model.specs.Declarations.{Resource}
use Rattle.path_decl.specs.Table.{resources_of}
use Rattle.path_read.specs.Inner.Building.{drafted, with_law}
use Rattle.path_read.proofs.TableLemmas.{last_with}
use Rattle.path_read.proofs.draft.Draft.law.Goals as goal

pub returns-in-Some-clause-ok : goal.returns-in-Some-clause-ok
returns-in-Some-clause-ok g c =
    let es = c.args.self.now.resources.entries in
    let some : 0 < length es = c.in-Some.ensures.found.0 refl in
    let given = last_with es (length es - 1) c.in_ok-law.law (omega arith) ∙ ap (λ (l : Law). with_law l (resources_of es)) c.in_ok-law.ensures.ok.1 in
    (c.in_ok-law.ensures.ok.0, ap (λ (rs : List Resource). record (drafted c.args.self.now) { resources = rs }) given)
