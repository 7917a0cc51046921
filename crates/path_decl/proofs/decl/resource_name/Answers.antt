use Rattle.std.proofs.Common.{◌≡◌, Some, slice_get, option_map, subst}
use Rattle.path_decl.proofs.TableLemmas.{shows_resource_name}
use Rattle.path_decl.proofs.decl.resource_name.Goals as goal

pub returns : goal.returns
returns g c = subst (λ d. Some c.as_str.result.now ≡ option_map (λ r. r.name) (slice_get d.declaration.resources c.args.resource.0)) c.decl.view_is
    (rw c.as_str.ensures.value (shows_resource_name c.decl.inside.resources.entries c.args.resource.0 _ _ c.in_ok-name.ensures.entry))
