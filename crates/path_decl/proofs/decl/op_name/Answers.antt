use Rattle.std.proofs.Common.{◌≡◌, Some, slice_get, option_map, subst}
use Rattle.path_decl.proofs.TableLemmas.{shows_operation_name}
use Rattle.path_decl.proofs.decl.op_name.Goals as goal

pub returns : goal.returns
returns g c = subst (λ d. Some c.as_str.result.now ≡ option_map (λ o. o.name) (slice_get d.declaration.operations c.args.op.0)) c.decl.view_is
    (rw c.as_str.ensures.value (shows_operation_name c.decl.inside.operations.entries c.args.op.0 _ _ c.in_ok-name.ensures.entry))
