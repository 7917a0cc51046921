use Rattle.std.proofs.Common.{◌≡◌, Some, None, Contains, map, slice_get, subst}
use Rattle.path_decl.proofs.TableLemmas.{is_place, no_place, names_of_operations}
use Rattle.path_decl.proofs.decl.operation.Goals as goal

pub returns-in_err-place-clause-none : goal.returns-in_err-place-clause-none
returns-in_err-place-clause-none g c = rw c.from_residual.ensures (subst (λ d. Contains (map (λ o. o.name) d.declaration.operations) c.args.name.now → ⊥) c.decl.view_is
    (rw names_of_operations (no_place _ _ None c.in_err-place.ensures.found)))

pub returns-clause-some : goal.returns-clause-some
returns-clause-some g c = subst (λ d. slice_get (map (λ o. o.name) d.declaration.operations) c.in_ok-place.place ≡ Some c.args.name.now) c.decl.view_is
    (rw names_of_operations (is_place _ _ (Some c.in_ok-place.place) c.in_ok-place.ensures.index))
