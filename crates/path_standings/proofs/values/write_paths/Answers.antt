-- One path more: what is written are its values, or an earlier path has them.
use Rattle.std.proofs.Common.{◌≡◌, ◌+◌, ◌<◌, ℕ, length, arith, refl, ◌∙◌}
use Rattle.std.proofs.lemmas.List.Sums.{sum_by_more}
use Rattle.path_model.specs.Trees.{Tree, op}
use Rattle.path_model.specs.Machine as machine
use Rattle.path_model.specs.Flat.{counted_braces, semaphores_in}
use Rattle.path_model.specs.Declarations.{Declaration, trees}
use Rattle.path_gate.specs.Levels.{Levels, levels}
use Rattle.path_standings.specs.Told.{tree_at, rows_of, IsFirst}
use Rattle.path_standings.proofs.Few.{many, few_names_at, few_at, few_before, few_pairs_before}
use Rattle.path_standings.proofs.Writing.{not_first, writes_same, writes_more}
use Rattle.path_standings.proofs.values.write_paths.Goals as goal
use Rattle.path_standings.proofs.values.write_paths.Goals.{in-Some, in-None+in_ok-write_path-in-None}

pub parts_of-parts-requires : goal.parts_of-parts-requires
parts_of-parts-requires g c =
    let few = few_at c.args.decl.now.declaration c.args.decl.now.lawful c.loop-number.number (omega (arith, c.loop-number-test.true, c.counts-number-end.ensures.paths)) in
    rw c.tree_numbered-tree.ensures (omega (arith, few.0, few.1))

pub write_path-requires-clause-small : goal.write_path-requires-clause-small
write_path-requires-clause-small g c =
    let few = few_before c.args.decl.now.declaration c.args.decl.now.lawful c.loop-number.number in
    let pairs = few_pairs_before c.args.decl.now.declaration c.args.decl.now.lawful c.loop-number.number in
    omega (arith, few, pairs, c.loop-number.invariant.own, c.loop-number.invariant.first)

pub write_path-requires-clause-names : goal.write_path-requires-clause-names
write_path-requires-clause-names g c =
    rw c.tree_numbered-tree.ensures (few_names_at c.args.decl.now.declaration c.args.decl.now.lawful c.loop-number.number (omega (arith, c.loop-number-test.true, c.counts-number-end.ensures.paths)))

pub overflow_add-own-in-loop-number-2 : goal.overflow_add-own-in-loop-number-2
overflow_add-own-in-loop-number-2 g c =
    let few = few_before c.args.decl.now.declaration c.args.decl.now.lawful c.loop-number.number in
    let parts = few_at c.args.decl.now.declaration c.args.decl.now.lawful c.loop-number.number (omega (arith, c.loop-number-test.true, c.counts-number-end.ensures.paths)) in
    let semicolons = rw c.tree_numbered-tree.ensures at c.parts_of-parts.ensures.semicolons in
    let bounds = rw c.tree_numbered-tree.ensures at c.parts_of-parts.ensures.bounds in
    omega (arith, few, parts.0, semicolons, bounds, c.loop-number.invariant.own)

pub overflow_add-first : goal.overflow_add-first
overflow_add-first g c =
    let few = few_pairs_before c.args.decl.now.declaration c.args.decl.now.lawful c.loop-number.number in
    let parts = few_at c.args.decl.now.declaration c.args.decl.now.lawful c.loop-number.number (omega (arith, c.loop-number-test.true, c.counts-number-end.ensures.paths)) in
    let pairs = rw c.tree_numbered-tree.ensures at c.parts_of-parts.ensures.braces in
    omega (arith, few, parts.1, pairs, c.loop-number.invariant.first)

pub loop-number-preserved : goal.loop-number-preserved
loop-number-preserved g c =
    let d : Declaration = c.args.decl.now.declaration in
    let n : ℕ = c.loop-number.number in
    let within : n < length d.paths = omega (arith, c.loop-number-test.true, c.counts-number-end.ensures.paths) in
    let l : n < length (trees d) = omega (arith, within, many d c.args.decl.now.lawful) in
    let base : Tree = op (record { 0 = 0 }) in
    let semicolons = rw c.tree_numbered-tree.ensures at c.parts_of-parts.ensures.semicolons in
    let bounds = rw c.tree_numbered-tree.ensures at c.parts_of-parts.ensures.bounds in
    let pairs = rw c.tree_numbered-tree.ensures at c.parts_of-parts.ensures.braces in
    let parts : semaphores_in (tree_at d c.loop-number.number) ≡ 1 + machine.semicolons (tree_at d c.loop-number.number) + counted_braces (tree_at d c.loop-number.number) = refl in
    let old : Levels = levels c.args.semaphores.now c.args.counters.now in
    let mid : Levels = levels c.loop-number.semaphores c.loop-number.counters in
    record {
      own = (let sum = sum_by_more semaphores_in (trees d) c.loop-number.number base l in omega (arith, sum, c.loop-number.invariant.own, semicolons, bounds, parts));
      first = (let sum = sum_by_more machine.braces (trees d) c.loop-number.number base l in omega (arith, sum, c.loop-number.invariant.first, pairs));
      written = elim c.match-same_before.branch [
        | in-Some w ↦
            let e = w.in-Some.ensures.some in
            rw (w.semaphores-is, w.counters-is)
            (writes_same d c.args.decl.now.lawful c.args.in_progress.now (rows_of c.args.rows.now) n within old mid c.loop-number.invariant.written (not_first d n w.in-Some.field-0 e.0 (e.1 ∙ c.tree_numbered-tree.ensures)))
        | in-None+in_ok-write_path-in-None w ↦
            let first : IsFirst d n = rw c.tree_numbered-tree.ensures at w.in-None.ensures.none in
            rw (w.semaphores-is, w.counters-is)
            (writes_more d c.args.decl.now.lawful c.args.in_progress.now (rows_of c.args.rows.now) n within old mid c.loop-number.invariant.written (levels w.write_path.new.semaphores w.write_path.new.counters) first
            (rw (c.tree_numbered-tree.ensures, w.row_numbered-row.ensures, c.loop-number.invariant.own, c.loop-number.invariant.first) at w.in_ok-write_path-in-None.ensures))
      ];
    }
