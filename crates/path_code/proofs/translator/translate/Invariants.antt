-- The code of the paths so far.
use Rattle.std.proofs.Common.{◌≡◌, take}
use Rattle.path_code.specs.PathCodes.{ArePathCodes, paths_shown, numbered_trees, sites, total_semaphores, total_braces}
use Rattle.path_code.proofs.translator.translate.Given as goal

abbrev pub invariant-loop-number : goal.invariant-loop-number
invariant-loop-number g l =
    let so_far = take l.number l.decl.declaration.paths in
    record {
      shown : paths_shown l.paths.items ≡ so_far;
      table : ArePathCodes (sites so_far) l.paths.items;
      semaphore : l.semaphore ≡ total_semaphores (numbered_trees so_far);
      brace : l.brace ≡ total_braces (numbered_trees so_far);
    }
