-- The name is that of the resource's number.
use Rattle.std.proofs.Common.{◌≡◌, ◌++◌, OnOk, sym, ◌∙◌, subst}
use Rattle.std.specs.String.{string_bytes}
use Rattle.std.proofs.lemmas.Option.{slice_get-map}
use Rattle.path_code.specs.Listing.{name_or_number}
use Rattle.path_code.proofs.lister.push_resource.Goals as goal

pub returns : goal.returns
returns g c =
    let names = c.resource_name.ensures ∙ sym (slice_get-map (λ r. r.name) c.args.decl.now.declaration.resources c.args.resource.0) in
    subst (λ o. OnOk c.push_name.result (string_bytes c.push_name.new.out ≡ string_bytes c.args.out.now ++ name_or_number o c.args.resource.0)) names c.push_name.ensures
