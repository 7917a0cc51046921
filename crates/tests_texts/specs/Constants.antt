-- What the constant texts of the tests declare.
use Rattle.std.specs.Prelude.{ℕ, List, [], ◌∷◌, codes}
use Rattle.path_model.specs.declared.resource.Law.TheVariants.{Cell, Tally, Queue}
use Rattle.path_model.specs.Trees.{Tree, op, seq, alt, burst, any, most}
use Rattle.path_model.specs.Declarations.{Operation, Path, Declaration}

-- the operation of that number
abbrev pub named : ℕ → Tree
named n = op (record { 0 = n })

abbrev pub operation : ℕ → List ℕ → Operation
operation r n = record { name = n; resource = r }

abbrev pub path : ℕ → Tree → Path
path r t = record { resource = r; tree = t }

-- { query : 3 } , backup
abbrev pub pool_tree : Tree
pool_tree = alt (burst (most 3) (named 0)) (named 1)

abbrev pub pool : Declaration
pool = record {
  resources = record { name = codes "pool"; law = Tally } ∷ [];
  operations = operation 0 (codes "query") ∷ operation 0 (codes "backup") ∷ [];
  paths = path 0 pool_tree ∷ [];
}

-- deposit ; remove
abbrev pub slot : Declaration
slot = record {
  resources = record { name = codes "slot"; law = Cell } ∷ [];
  operations = operation 0 (codes "deposit") ∷ operation 0 (codes "remove") ∷ [];
  paths = path 0 (seq (named 0) (named 1)) ∷ [];
}

-- ( sell ; refund ) , { audit_1 : 65535 }, then put ; { take }, and take
abbrev pub shop : Declaration
shop = record {
  resources = record { name = codes "till"; law = Tally } ∷ record { name = codes "shelf"; law = Queue 1024 } ∷ [];
  operations = operation 0 (codes "sell") ∷ operation 0 (codes "refund") ∷ operation 0 (codes "audit_1")
      ∷ operation 1 (codes "put") ∷ operation 1 (codes "take") ∷ [];
  paths = path 0 (alt (seq (named 0) (named 1)) (burst (most 65535) (named 2)))
      ∷ path 1 (seq (named 3) (burst any (named 4))) ∷ path 1 (named 4) ∷ [];
}
