-- Each path's row is read from the gate, or is that of an earlier path with its tree.
use Rattle.std.proofs.Common.{◌≡◌, ◌+◌, ◌<◌, [], ◌∷◌, length, map, arith, refl, sym, ap, ◌∙◌}
use Rattle.std.proofs.lemmas.List.{map-append, get_or-map, length-append}
use Rattle.std.proofs.Math.Seq.{take-length}
use Rattle.std.proofs.lemmas.List.Sums.{sum_by_more}
use Rattle.path_model.specs.Trees.{Tree, op}
use Rattle.path_model.specs.Machine as machine
use Rattle.path_model.specs.Flat.{counted_braces, semaphores_in}
use Rattle.path_model.specs.Declarations.{Declaration, trees}
use Rattle.path_state.specs.Standings.{stands_after}
use Rattle.path_standings.specs.Told.{tree_at}
use Rattle.path_standings.proofs.Few.{many, formed_at, few_at, few_before}
use Rattle.path_standings.proofs.Read.{told_more, told_before, within, row_is}
use Rattle.path_standings.proofs.standings.stands.Goals as goal
use Rattle.path_standings.proofs.standings.stands.Goals.{in-Some+in_ok-row-in-Some, in-None+in_ok-row-in-None}

pub parts_of-parts-requires : goal.parts_of-parts-requires
parts_of-parts-requires g c =
    let few = few_at c.args.decl.now.declaration c.args.decl.now.lawful c.loop-number.number (omega (arith, c.loop-number-test.true, c.counts-number-end.ensures.paths)) in
    rw c.tree_numbered-tree.ensures (omega (arith, few.0, few.1))

pub overflow_add-own : goal.overflow_add-own
overflow_add-own g c = let few = few_before c.args.decl.now.declaration c.args.decl.now.lawful c.loop-number.number in let own = c.loop-number.invariant.own in omega (arith, few, own)

pub overflow_add-own-in-loop-number-3 : goal.overflow_add-own-in-loop-number-3
overflow_add-own-in-loop-number-3 g c =
    let few = few_before c.args.decl.now.declaration c.args.decl.now.lawful c.loop-number.number in
    let parts = few_at c.args.decl.now.declaration c.args.decl.now.lawful c.loop-number.number (omega (arith, c.loop-number-test.true, c.counts-number-end.ensures.paths)) in
    let semicolons = rw c.tree_numbered-tree.ensures at c.parts_of-parts.ensures.semicolons in
    let bounds = rw c.tree_numbered-tree.ensures at c.parts_of-parts.ensures.bounds in
    omega (arith, few, parts.0, semicolons, bounds, c.loop-number.invariant.own)

pub values_from-requires-in-None : goal.values_from-requires-in-None
values_from-requires-in-None g c =
    let d : Declaration = c.args.decl.now.declaration in
    let l : c.loop-number.number < length (trees d) = omega (arith, c.loop-number-test.true, c.counts-number-end.ensures.paths, many d c.args.decl.now.lawful) in
    rw c.semaphores-semaphores.ensures.value (λ some.
    let semicolons = rw c.tree_numbered-tree.ensures at c.parts_of-parts.ensures.semicolons in
    let w = within c.args.gate.now (trees d) c.requires c.semaphores-semaphores.ensures.places (op (record { 0 = 0 })) c.loop-number.number l (rw c.tree_numbered-tree.ensures at c.in-None.ensures.none)
    c.loop-number.own c.loop-number.invariant.own (omega (arith, some, semicolons)) in
    omega (arith, w, semicolons))

pub loop-number-preserved : goal.loop-number-preserved
loop-number-preserved g c =
    let d : Declaration = c.args.decl.now.declaration in
    let l : c.loop-number.number < length (trees d) = omega (arith, c.loop-number-test.true, c.counts-number-end.ensures.paths, many d c.args.decl.now.lawful) in
    let base : Tree = op (record { 0 = 0 }) in
    let semicolons = rw c.tree_numbered-tree.ensures at c.parts_of-parts.ensures.semicolons in
    let bounds = rw c.tree_numbered-tree.ensures at c.parts_of-parts.ensures.bounds in
    let parts : semaphores_in (tree_at d c.loop-number.number) ≡ 1 + machine.semicolons (tree_at d c.loop-number.number) + counted_braces (tree_at d c.loop-number.number) = refl in
    let longer = ap length c.in_ok-push.ensures.items in
    let by_one = length-append c.loop-number.rows.items (c.match-same_before.row ∷ []) in
    record {
      own = (let sum = sum_by_more semaphores_in (trees d) c.loop-number.number base l in omega (arith, sum, c.loop-number.invariant.own, semicolons, bounds, parts));
      many = (omega (arith, longer, by_one, c.loop-number.invariant.many));
      told = λ h legal at.
          ap (map (λ row. row.items)) c.in_ok-push.ensures.items ∙ map-append (λ row. row.items) c.loop-number.rows.items (c.match-same_before.row ∷ [])
          ∙ told_more (map (λ row. row.items) c.loop-number.rows.items) c.match-same_before.row.items (trees d) c.loop-number.number base h l (c.loop-number.invariant.told h legal at)
          (elim c.match-same_before.branch [
            | in-Some+in_ok-row-in-Some w ↦
                let e = w.in-Some.ensures.some in
                ap (λ r. r.items) w.row-is ∙ w.in_ok-row-in-Some.ensures ∙ take-length w.as_slice-same.result.now ∙ w.as_slice-same.ensures.value ∙ ap (λ r. r.items) w.index.ensures
                ∙ sym (get_or-map (λ row. row.items) c.loop-number.rows.items w.in-Some.earlier w.index.result.now [] (omega (arith, e.0, c.loop-number.invariant.many)))
                ∙ told_before (map (λ row. row.items) c.loop-number.rows.items) (trees d) c.loop-number.number w.in-Some.earlier base h (omega (arith, l)) e.0 (c.loop-number.invariant.told h legal at)
                ∙ ap (λ s. stands_after s h) (e.1 ∙ c.tree_numbered-tree.ensures)
            | in-None+in_ok-row-in-None w ↦
                ap (λ r. r.items) w.row-is ∙ w.in_ok-row-in-None.ensures
                ∙ rw (semicolons, c.semaphores-semaphores.ensures.value)
                (row_is c.args.gate.now (trees d) c.requires c.semaphores-semaphores.ensures.places base c.loop-number.number l (rw c.tree_numbered-tree.ensures at w.in-None.ensures.none)
                (formed_at d c.args.decl.now.lawful c.loop-number.number (omega (arith, c.loop-number-test.true, c.counts-number-end.ensures.paths))) h legal at c.loop-number.own c.loop-number.invariant.own)
          ]);
    }
