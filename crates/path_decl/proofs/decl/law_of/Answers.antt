use Rattle.std.proofs.Common.{◌≡◌, Some, slice_get, option_map, subst}
use Rattle.path_decl.proofs.TableLemmas.{shows_law}
use Rattle.path_decl.proofs.decl.law_of.Goals as goal

pub returns : goal.returns
returns g c = subst (λ d. Some c.in_ok-law.law.now ≡ option_map (λ r. r.law) (slice_get d.declaration.resources c.args.resource.0)) c.decl.view_is
    (shows_law c.decl.inside.resources.entries c.args.resource.0 _ _ c.in_ok-law.ensures.entry)
