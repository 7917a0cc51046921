-- The name is that of the operation's number.
use Rattle.std.proofs.Common.{◌≡◌, ◌++◌, OnOk, sym, ◌∙◌, subst}
use Rattle.std.specs.String.{string_bytes}
use Rattle.std.proofs.lemmas.Option.{slice_get-map}
use Rattle.path_code.specs.Listing.{name_or_number}
use Rattle.path_code.proofs.lister.push_operation.Goals as goal

pub returns : goal.returns
returns g c =
    let names = c.op_name.ensures ∙ sym (slice_get-map (λ o. o.name) c.args.decl.now.declaration.operations c.args.op.0) in
    subst (λ o. OnOk c.push_name.result (string_bytes c.push_name.new.out ≡ string_bytes c.args.out.now ++ name_or_number o c.args.op.0)) names c.push_name.ensures
