-- The trees that were compiled.
use Rattle.std.specs.Prelude.{List, map}
use Rattle.path_model.specs.Trees.{Tree}
use Rattle.path_code.specs.Known.{KnownCode}

-- the trees of all paths, in the order of the file
abbrev pub trees_in : KnownCode → List Tree
trees_in c = map (λ p. p.tree) c.paths
