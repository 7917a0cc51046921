use Rattle.std.proofs.Common.{◌≡◌, Some, slice_get, option_map, subst}
use Rattle.path_decl.proofs.TableLemmas.{shows_owner}
use Rattle.path_decl.proofs.decl.resource_of.Goals as goal

pub returns : goal.returns
returns g c = subst (λ d. Some c.in_ok-resource.resource.now.0 ≡ option_map (λ o. o.resource) (slice_get d.declaration.operations c.args.op.0)) c.decl.view_is
    (shows_owner c.decl.inside.operations.entries c.args.op.0 _ _ c.in_ok-resource.ensures.entry)
