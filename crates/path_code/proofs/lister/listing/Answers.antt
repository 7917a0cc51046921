-- After the last path the text is that of all paths, of which there are few.
use Rattle.std.proofs.Common.{◌≤◌, ◌++◌, length, ap, sym, ◌∙◌, arith}
use Rattle.std.specs.String.{string_bytes}
use Rattle.std.proofs.lemmas.List.{append-nil, drop_all, length-map}
use Rattle.path_code.specs.PathCodes.{path_shown}
use Rattle.path_code.proofs.Texts.{codes_text, whole_text}
use Rattle.path_code.proofs.lister.listing.Goals as goal

pub returns : goal.returns
returns g c =
    let d = c.args.decl.now.declaration in
    let past : length c.paths-path-items.result.now ≤ c.loop-path.path-index = omega arith in
    sym (append-nil (string_bytes c.loop-path.out))
    ∙ ap (λ cs. string_bytes c.loop-path.out ++ codes_text d c.loop-path.number cs) (sym (drop_all _ _ past))
    ∙ c.loop-path.invariant.text
    ∙ whole_text c.args.code.now.paths c.paths-path-items.result.now c.paths-path-items.ensures.shown c.paths-path-items.ensures.table d

pub overflow_add-number : goal.overflow_add-number
overflow_add-number g c =
    let few = c.args.code.now.lawful.few_paths in
    let same = ap length c.paths-path-items.ensures.shown in
    let all = length-map c.paths-path-items.result.now path_shown in
    omega (arith, few, same, all)
