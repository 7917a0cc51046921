-- Each path is compared with those before it, and all of them are the trimmed table.
use Rattle.std.proofs.Common.{◌≡◌, ◌≤◌, List, length, map, take, subst, sym, ap, ◌∙◌, arith}
use Rattle.std.proofs.lemmas.List.{take_all, length-take-le}
use Rattle.path_model.specs.Declarations.{Path, trees}
use Rattle.path_decl.specs.Known.{KnownDeclaration}
use Rattle.path_code.specs.PathCodes.{sites}
use Rattle.path_trim.specs.Trees.{trees_in}
use Rattle.path_trim.specs.LawfulTrees.{LawfulTrees}
use Rattle.path_trim.specs.Compared.{compared}
use Rattle.path_trim.specs.LeanTable.{lean_table}
use Rattle.path_trim.specs.RemovedList.{removed_list}
use Rattle.path_trim.specs.Rows.{fates_of}
use Rattle.path_trim.proofs.Lawful.{lawful_trees, few_codes}
use Rattle.path_trim.proofs.Walk.{Made, codes_length, here, same_step, kept_step}
use Rattle.path_trim.proofs.trimming.trimmed.Goals as goal
use Rattle.path_trim.proofs.trimming.trimmed.Goals.{in-Some+in_ok-remove-in-Some, in-None+in_ok-keep-in-None}

pub keep-requires : goal.keep-requires
keep-requires g c = (_, here (trees_in c.args.code.now) c.paths-paths.result.now c.paths-paths.ensures.table c.loop-number.number c.loop-number-test.true c.index-paths-number.result c.index-paths-number.is)

pub loop-number-preserved : goal.loop-number-preserved
loop-number-preserved g c =
    let ss = trees_in c.args.code.now in
    elim c.match-first_equal.branch [
      | in-Some+in_ok-remove-in-Some w ↦
          rw w.parts-is (same_step ss c.paths-paths.result.now c.paths-paths.ensures.table c.loop-number.number c.loop-number-test.true c.index-paths-number.result c.index-paths-number.is
          c.loop-number.parts w.remove.new.self w.in-Some.first w.in-Some.ensures c.loop-number.invariant w.in_ok-remove-in-Some.ensures)
      | in-None+in_ok-keep-in-None w ↦
          rw w.parts-is (kept_step ss c.paths-paths.result.now c.paths-paths.ensures.table c.loop-number.number c.loop-number-test.true c.index-paths-number.result c.index-paths-number.is
          c.loop-number.parts w.keep.new.self w.in-None.ensures c.loop-number.invariant w.in_ok-keep-in-None.ensures)
    ]

pub invariant_of-result : goal.invariant_of-result
invariant_of-result g c =
    let is : c.of.result.value.declaration.paths ≡ c.args.code.now.paths = ap (λ (k : KnownDeclaration). k.declaration.paths) c.of.ensures ∙ c.decl.ensures in
    (subst (λ (ps : List Path). LawfulTrees (map (λ p. p.tree) ps)) (sym is) (lawful_trees c.args.code.now.paths c.args.code.now.lawful), tt)

pub invariant_of-result-2 : goal.invariant_of-result-2
invariant_of-result-2 g c =
    let xs = sites c.args.code.now.paths in
    let all : length xs ≤ c.loop-number.number = let n = codes_length xs c.paths-paths.result.now c.paths-paths.ensures.table in omega (arith, c.loop-number-test.false) in
    let whole : take c.loop-number.number xs ≡ xs = take_all c.loop-number.number xs all in
    let made : Made c.loop-number.parts xs = subst (Made c.loop-number.parts) whole c.loop-number.invariant in
    let is : trees_in c.args.code.now ≡ trees c.of.result.value.declaration = sym (ap (λ (k : KnownDeclaration). trees k.declaration) c.of.ensures ∙ ap (λ (ps : List Path). map (λ p. p.tree) ps) c.decl.ensures) in
    record {
      table = made.table ∙ ap lean_table is;
      removed = made.removed ∙ ap removed_list is;
      fates = made.fates ∙ ap (λ ss. fates_of (compared ss)) is;
    }

pub overflow_cast-id : goal.overflow_cast-id
overflow_cast-id g c =
    let few = few_codes c.args.code.now.paths c.paths-paths.result.now c.args.code.now.lawful c.paths-paths.ensures.shown in
    let l = c.loop-number-test.true in
    omega (arith, few, l)

pub overflow_cast-first : goal.overflow_cast-first
overflow_cast-first g c =
    let few = few_codes c.args.code.now.paths c.paths-paths.result.now c.args.code.now.lawful c.paths-paths.ensures.shown in
    let l : c.loop-number.number ≤ length c.paths-paths.result.now = omega (arith, c.loop-number-test.true) in
    let before = length-take-le c.loop-number.number c.paths-paths.result.now l in
    let within = c.in-Some.ensures.within in
    omega (arith, few, l, before, within)
