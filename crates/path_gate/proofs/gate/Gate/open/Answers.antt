-- Each path is added to the table, and then the gate is at the empty history.
use Rattle.std.proofs.Common.{◌≡◌, ◌∙◌, [], ap, map, length, replicate, get_or, refl, arith}
use Rattle.std.proofs.lemmas.List.{length-map}
use Rattle.path_trim.specs.LeanTable.{lean_table}
use Rattle.path_trim.specs.Rows.{row_of}
use Rattle.path_gate.specs.Inner.Soundness.{runs_of}
use Rattle.path_gate.specs.Inner.Initial.{rows_of, terms_for, semaphores_put, counters_put, rows_terms}
use Rattle.path_gate.proofs.Adding.{first_rows, first_terms, path_low, more_semaphores, more_counters, more_terms, last_semaphores, last_counters, last_terms}
use Rattle.path_gate.proofs.Opened.{opened_at, opened_sound}
use Rattle.path_gate.proofs.gate.Gate.open.Goals as goal

pub loop-path-init : goal.loop-path-init
loop-path-init g c =
    let items = c.kept-path-items.result.now in
    record {
      semaphores = ap (semaphores_put (map row_of items)) c.in_ok-semaphores.ensures.items ∙ ap (λ rs. semaphores_put rs []) c.kept-path-items.ensures;
      counters = ap (counters_put (map row_of items)) c.in_ok-counters.ensures.items ∙ ap (λ rs. counters_put rs []) c.kept-path-items.ensures;
      rows = first_rows c.args.lean.trees items c.kept-path-items.ensures c.in_ok-by_op.by_op.items c.in_ok-by_op.ensures;
      terms = first_terms c.args.lean.trees items c.kept-path-items.ensures c.in_ok-by_op.by_op.items c.in_ok-by_op.ensures;
    }

pub add_path-requires : goal.add_path-requires
add_path-requires g c =
    path_low c.args.lean.trees c.kept-path-items.result.now c.kept-path-items.ensures c.loop-path.path-index (omega arith) c.path-item.result c.path-item.is (length c.loop-path.by_op.items) c.loop-path.invariant.rows c.args.lean.lawful

pub loop-path-preserved : goal.loop-path-preserved
loop-path-preserved g c =
    let ss = c.args.lean.trees in
    let items = c.kept-path-items.result.now in
    let table = c.kept-path-items.ensures in
    let i = c.loop-path.path-index in
    let p = c.path-item.result in
    record {
      semaphores = more_semaphores ss items table i (omega arith) p c.path-item.is c.loop-path.levels.semaphores.items c.add_path.new.levels.semaphores.items (semaphores_put (lean_table ss) []) c.in_ok-add_path.ensures.semaphores c.loop-path.invariant.semaphores;
      counters = more_counters ss items table i (omega arith) p c.path-item.is c.loop-path.levels.counters.items c.add_path.new.levels.counters.items (counters_put (lean_table ss) []) c.in_ok-add_path.ensures.counters c.loop-path.invariant.counters;
      rows = c.in_ok-add_path.ensures.kept ∙ c.loop-path.invariant.rows;
      terms = λ a. more_terms ss items table i (omega arith) p c.path-item.is a (terms_for c.loop-path.by_op.items a) (terms_for c.add_path.new.by_op.items a) (rows_terms (lean_table ss) a) (c.in_ok-add_path.ensures.added a) (c.loop-path.invariant.terms a);
    }

pub invariant_of-result : goal.invariant_of-result
invariant_of-result g c =
    let ss = c.args.lean.trees in
    let items = c.kept-path-items.result.now in
    let table = c.kept-path-items.ensures in
    let i = c.loop-path.path-index in
    let semaphores : c.loop-path.levels.semaphores.items ≡ semaphores_put (lean_table ss) [] = last_semaphores ss items table i (omega arith) c.loop-path.levels.semaphores.items (semaphores_put (lean_table ss) []) c.loop-path.invariant.semaphores in
    let counters : c.loop-path.levels.counters.items ≡ counters_put (lean_table ss) [] = last_counters ss items table i (omega arith) c.loop-path.levels.counters.items (counters_put (lean_table ss) []) c.loop-path.invariant.counters in
    let zeros : c.in_ok-in_progress.in_progress.items ≡ replicate 256 0 = c.in_ok-in_progress.ensures in
    let runs : runs_of c.in_ok-terms.terms.items c.in_ok-terms.ranges.items ≡ rows_of c.loop-path.by_op.items = c.in_ok-terms.ensures.runs ∙ ap rows_of c.deref.ensures.value in
    record {
      sound = rw (c.of-opened.ensures, semaphores, counters, zeros) (opened_sound ss c.args.lean.lawful _ (ap length runs ∙ length-map c.loop-path.by_op.items (λ terms. terms.items) ∙ c.loop-path.invariant.rows)
          (λ a. ap (λ rs. get_or rs a.0 []) runs ∙ last_terms ss items table i (omega arith) a (terms_for c.loop-path.by_op.items a) (rows_terms (lean_table ss) a) (c.loop-path.invariant.terms a)));
      laid_out = c.in_ok-terms.ensures.laid_out;
    }

pub returns-clause-opened : goal.returns-clause-opened
returns-clause-opened g c =
    let ss = c.args.lean.trees in
    let semaphores = last_semaphores ss c.kept-path-items.result.now c.kept-path-items.ensures c.loop-path.path-index (omega arith) c.loop-path.levels.semaphores.items (semaphores_put (lean_table ss) []) c.loop-path.invariant.semaphores in
    let counters = last_counters ss c.kept-path-items.result.now c.kept-path-items.ensures c.loop-path.path-index (omega arith) c.loop-path.levels.counters.items (counters_put (lean_table ss) []) c.loop-path.invariant.counters in
    rw (c.of-opened.ensures, semaphores, counters, c.in_ok-in_progress.ensures) (opened_at ss c.args.lean.lawful)

pub returns-clause-paths : goal.returns-clause-paths
returns-clause-paths g c = rw c.of-opened.ensures

pub returns-clause-admitted : goal.returns-clause-admitted
returns-clause-admitted g c = refl
