-- Each path is compiled with the numbers after those of the paths before it.
use Rattle.std.proofs.Common.{◌≡◌, ◌+◌, ◌++◌, ◌∷◌, ◌<◌, ℕ, [], List, length, take, ap, sym, ◌∙◌, subst, arith, take_all}
use Rattle.std.proofs.lemmas.List.{map-append}
use Rattle.path_model.specs.Trees.{Tree, shape}
use Rattle.path_model.specs.Declarations.{Path}
use Rattle.path_model.specs.Flat.{Sited}
use Rattle.path_code.specs.PathCodes.{paths_shown, path_shown, sites, total_semaphores, total_braces, numbered_trees, ArePathCodes, IsPathCode}
use Rattle.path_code.specs.LawfulPaths.{LawfulPaths}
use Rattle.path_code.proofs.Counts.{lawful_paths}
use Rattle.path_code.proofs.Tables.{path_formed, path_bounded, path_small, taken_semaphores, taken_braces, next_taken, codes_more, totals_more, site_after, has_part, code_semaphores, code_braces, one_shown}
use Rattle.path_code.proofs.translator.translate.Goals as goal

pub unwrap-resource-requires : goal.unwrap-resource-requires
unwrap-resource-requires g c = has_part (λ r. r.0) (λ p. p.resource) c.args.decl.now.declaration.paths c.loop-number.number c.path_resource.result (omega arith) c.path_resource.ensures

pub unwrap-tree-requires : goal.unwrap-tree-requires
unwrap-tree-requires g c = has_part (λ t. shape t.now) (λ p. p.tree) c.args.decl.now.declaration.paths c.loop-number.number c.tree_of.result (omega arith) c.tree_of.ensures

pub path_code-requires-clause-formed : goal.path_code-requires-clause-formed
path_code-requires-clause-formed g c =
    let ps : List Path = c.args.decl.now.declaration.paths in
    path_formed ps (lawful_paths _ c.args.decl.now.lawful) c.loop-number.number (shape c.unwrap-tree.result.now) (rw c.unwrap-tree.ensures at c.tree_of.ensures)

pub path_code-requires-clause-bounded : goal.path_code-requires-clause-bounded
path_code-requires-clause-bounded g c =
    let ps : List Path = c.args.decl.now.declaration.paths in
    path_bounded ps (lawful_paths _ c.args.decl.now.lawful) c.loop-number.number (shape c.unwrap-tree.result.now) (rw c.unwrap-tree.ensures at c.tree_of.ensures)

pub path_code-requires-clause-few : goal.path_code-requires-clause-few
path_code-requires-clause-few g c =
    let ps : List Path = c.args.decl.now.declaration.paths in
    let law : LawfulPaths ps = lawful_paths _ c.args.decl.now.lawful in
    let s = path_small ps law c.loop-number.number (shape c.unwrap-tree.result.now) (rw c.unwrap-tree.ensures at c.tree_of.ensures) in
    let a = s.names in
    let b = s.semicolons in
    let d = s.braces in
    let e = s.bounds in
    let k = taken_semaphores ps law c.loop-number.number in
    let m = taken_braces ps law c.loop-number.number in
    let i = c.loop-number.invariant.semaphore in
    let j = c.loop-number.invariant.brace in
    let few = law.few_paths in
    let n : c.loop-number.number < length ps = omega arith in
    omega (arith, a, b, d, e, k, m, i, j, few, n)

pub overflow_cast-semaphore : goal.overflow_cast-semaphore
overflow_cast-semaphore g c =
    let ps : List Path = c.args.decl.now.declaration.paths in
    let law : LawfulPaths ps = lawful_paths _ c.args.decl.now.lawful in
    let s = path_small ps law c.loop-number.number (shape c.unwrap-tree.result.now) (rw c.unwrap-tree.ensures at c.tree_of.ensures) in
    let a = s.semaphores in
    let n = code_semaphores _ _ c.in_ok-code.ensures.code c.len.result c.len.ensures in
    omega (arith, a, n)

pub overflow_add-semaphore : goal.overflow_add-semaphore
overflow_add-semaphore g c =
    let ps : List Path = c.args.decl.now.declaration.paths in
    let law : LawfulPaths ps = lawful_paths _ c.args.decl.now.lawful in
    let s = path_small ps law c.loop-number.number (shape c.unwrap-tree.result.now) (rw c.unwrap-tree.ensures at c.tree_of.ensures) in
    let a = s.semaphores in
    let n = code_semaphores _ _ c.in_ok-code.ensures.code c.len.result c.len.ensures in
    let k = taken_semaphores ps law c.loop-number.number in
    let i = c.loop-number.invariant.semaphore in
    let few = law.few_paths in
    let l : c.loop-number.number < length ps = omega arith in
    omega (arith, a, n, k, i, few, l)

pub overflow_cast-brace : goal.overflow_cast-brace
overflow_cast-brace g c =
    let ps : List Path = c.args.decl.now.declaration.paths in
    let law : LawfulPaths ps = lawful_paths _ c.args.decl.now.lawful in
    let s = path_small ps law c.loop-number.number (shape c.unwrap-tree.result.now) (rw c.unwrap-tree.ensures at c.tree_of.ensures) in
    let a = s.braces in
    let n = code_braces _ _ c.in_ok-code.ensures.code c.len-in-loop-number.result c.len-in-loop-number.ensures in
    omega (arith, a, n)

pub overflow_add-brace : goal.overflow_add-brace
overflow_add-brace g c =
    let ps : List Path = c.args.decl.now.declaration.paths in
    let law : LawfulPaths ps = lawful_paths _ c.args.decl.now.lawful in
    let s = path_small ps law c.loop-number.number (shape c.unwrap-tree.result.now) (rw c.unwrap-tree.ensures at c.tree_of.ensures) in
    let a = s.braces in
    let n = code_braces _ _ c.in_ok-code.ensures.code c.len-in-loop-number.result c.len-in-loop-number.ensures in
    let k = taken_braces ps law c.loop-number.number in
    let i = c.loop-number.invariant.brace in
    let few = law.few_paths in
    let l : c.loop-number.number < length ps = omega arith in
    omega (arith, a, n, k, i, few, l)

pub loop-number-preserved : goal.loop-number-preserved
loop-number-preserved g c =
    let ps : List Path = c.args.decl.now.declaration.paths in
    let n = c.loop-number.number in
    let i = c.loop-number.invariant in
    let s : Tree = shape c.unwrap-tree.result.now in
    let k = c.unwrap-resource.result.0 in
    let this : Path = record { resource = k; tree = s } in
    let code = c.in_ok-code.ensures.code in
    let next : take (n + 1) ps ≡ take n ps ++ this ∷ [] = next_taken ps n k s (omega arith) (rw c.unwrap-resource.ensures at c.path_resource.ensures) (rw c.unwrap-tree.ensures at c.tree_of.ensures) in
    let totals = totals_more (take n ps) this in
    let semaphores = code_semaphores _ _ code c.len.result c.len.ensures in
    let pairs = code_braces _ _ code c.len-in-loop-number.result c.len-in-loop-number.ensures in
    let site : record { tree = s; own = c.loop-number.semaphore; first = c.loop-number.brace } ≡ site_after (take n ps) s =
    ap (λ (j : ℕ). record { tree = s; own = j; first = c.loop-number.brace }) i.semaphore ∙ ap (λ (j : ℕ). record { tree = s; own = total_semaphores (numbered_trees (take n ps)); first = j }) i.brace in
    record {
      shown = ap paths_shown c.in_ok-push.ensures.items ∙ map-append path_shown _ _ ∙ ap (λ xs. paths_shown c.loop-number.paths.items ++ xs) (one_shown _ _ _ code c.in_ok-code.ensures.resource) ∙ ap (λ xs. xs ++ this ∷ []) i.shown ∙ sym next;
      table = subst (λ xs. ArePathCodes (sites xs) c.push.new.self.items) (sym next) (subst (ArePathCodes (sites (take n ps ++ this ∷ []))) (sym c.in_ok-push.ensures.items) (codes_more (take n ps) this c.loop-number.paths.items c.in_ok-code.code i.table (subst (λ (x : Sited). IsPathCode x c.in_ok-code.code) site code)));
      semaphore = ap (λ j. j + c.len.result) i.semaphore ∙ ap (λ j. total_semaphores (numbered_trees (take n ps)) + j) semaphores ∙ sym totals.0 ∙ ap (λ xs. total_semaphores (numbered_trees xs)) (sym next);
      brace = ap (λ j. j + c.len-in-loop-number.result) i.brace ∙ ap (λ j. total_braces (numbered_trees (take n ps)) + j) pairs ∙ sym totals.1 ∙ ap (λ xs. total_braces (numbered_trees xs)) (sym next);
    }

pub invariant_of-result : goal.invariant_of-result
invariant_of-result g c =
    let ps : List Path = c.args.decl.now.declaration.paths in
    let all : take c.loop-number.number ps ≡ ps = take_all c.loop-number.number ps (omega arith) in
    (subst LawfulPaths (sym (c.loop-number.invariant.shown ∙ all)) (lawful_paths _ c.args.decl.now.lawful), tt)

pub invariant_of-result-2 : goal.invariant_of-result-2
invariant_of-result-2 g c =
    let ps : List Path = c.args.decl.now.declaration.paths in
    let all : take c.loop-number.number ps ≡ ps = take_all c.loop-number.number ps (omega arith) in
    let i = c.loop-number.invariant in
    record {
      declared = i.shown ∙ all;
      table = subst (λ xs. ArePathCodes (sites xs) c.loop-number.paths.items) (sym i.shown) i.table;
    }
