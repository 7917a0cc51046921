-- How declarations are compared: by a coding as numbers.
use Rattle.std.specs.Prelude.{◌≡◌, ℕ, zero, suc, List, [], ◌∷◌, refl}
use Rattle.std.specs.Coded.{Coded, code_by, coded×, coded_list, coded_ℕ}
use Rattle.std.proofs.Common.{◌∙◌, ap}
use Rattle.path_model.specs.declared.resource.Law.{Law}
use Rattle.path_model.specs.declared.resource.Law.TheVariants.{Cell, Tally, Queue}
use Rattle.path_model.specs.Trees.{Tree, op, seq, alt, burst, any, most}
use Rattle.path_model.specs.Declarations.{Resource, Operation, Path, Declaration}

-- a tree as marks, operands before their operators, and then the rest
abbrev marks : Tree → List (ℕ × ℕ) → List (ℕ × ℕ)
marks (op a) rest = (0, a.0) ∷ rest
marks (seq s t) rest = marks s (marks t ((1, 0) ∷ rest))
marks (alt s t) rest = marks s (marks t ((2, 0) ∷ rest))
marks (burst any s) rest = marks s ((3, 0) ∷ rest)
marks (burst (most n) s) rest = marks s ((4, n) ∷ rest)

-- the trees so far, after one more mark
abbrev made : ℕ → ℕ → List Tree → List Tree
made zero n ts = op (record { 0 = n }) ∷ ts
made (suc zero) n (t ∷ s ∷ ts) = seq s t ∷ ts
made (suc (suc zero)) n (t ∷ s ∷ ts) = alt s t ∷ ts
made (suc (suc (suc zero))) n (s ∷ ts) = burst any s ∷ ts
made (suc (suc (suc (suc k)))) n (s ∷ ts) = burst (most n) s ∷ ts
made k n ts = ts

abbrev trees_from : List (ℕ × ℕ) → List Tree → List Tree
trees_from [] ts = ts
trees_from (m ∷ ms) ts = trees_from ms (made m.0 m.1 ts)

abbrev first : List Tree → Tree
first [] = op (record { 0 = 0 })
first (t ∷ ts) = t

trees_from-marks : (t : Tree) (rest : List (ℕ × ℕ)) (ts : List Tree) → trees_from (marks t rest) ts ≡ trees_from rest (t ∷ ts)
trees_from-marks (op a) rest ts = refl
trees_from-marks (seq s t) rest ts = trees_from-marks s (marks t ((1, 0) ∷ rest)) ts ∙ trees_from-marks t ((1, 0) ∷ rest) (s ∷ ts)
trees_from-marks (alt s t) rest ts = trees_from-marks s (marks t ((2, 0) ∷ rest)) ts ∙ trees_from-marks t ((2, 0) ∷ rest) (s ∷ ts)
trees_from-marks (burst any s) rest ts = trees_from-marks s ((3, 0) ∷ rest) ts
trees_from-marks (burst (most n) s) rest ts = trees_from-marks s ((4, n) ∷ rest) ts

pub first-marks : (t : Tree) → first (trees_from (marks t []) []) ≡ t
first-marks t = ap first (trees_from-marks t [] [])

abbrev pub tree_code : Coded Tree
tree_code = code_by (List (ℕ × ℕ)) (coded_list (coded× coded_ℕ coded_ℕ)) (λ t. marks t []) (λ ms. first (trees_from ms [])) first-marks

abbrev law_mark : Law → ℕ × ℕ
law_mark Cell = (0, 0)
law_mark Tally = (1, 0)
law_mark (Queue n) = (2, n)

abbrev law_from : ℕ → ℕ → Law
law_from zero n = Cell
law_from (suc zero) n = Tally
law_from (suc (suc k)) n = Queue n

pub law_from-law_mark : (l : Law) → law_from (law_mark l).0 (law_mark l).1 ≡ l
law_from-law_mark Cell = refl
law_from-law_mark Tally = refl
law_from-law_mark (Queue n) = refl

abbrev pub law_code : Coded Law
law_code = code_by (ℕ × ℕ) (coded× coded_ℕ coded_ℕ) law_mark (λ m. law_from m.0 m.1) law_from-law_mark

abbrev pub resource_code : Coded Resource
resource_code =
    code_by (List ℕ × Law) (coded× (coded_list coded_ℕ) law_code)
    (λ r. (r.name, r.law)) (λ p. record { name = p.0; law = p.1 }) (λ _. refl)

abbrev pub operation_code : Coded Operation
operation_code =
    code_by (List ℕ × ℕ) (coded× (coded_list coded_ℕ) coded_ℕ)
    (λ o. (o.name, o.resource)) (λ p. record { name = p.0; resource = p.1 }) (λ _. refl)

abbrev pub path_code : Coded Path
path_code =
    code_by (ℕ × Tree) (coded× coded_ℕ tree_code)
    (λ p. (p.resource, p.tree)) (λ p. record { resource = p.0; tree = p.1 }) (λ _. refl)

-- a declaration is stored as its three lists
abbrev pub declaration_code : Coded Declaration
declaration_code =
    code_by (List Resource × (List Operation × List Path))
    (coded× (coded_list resource_code) (coded× (coded_list operation_code) (coded_list path_code)))
    (λ d. (d.resources, (d.operations, d.paths))) (λ p. record { resources = p.0; operations = p.1.0; paths = p.1.1 }) (λ _. refl)
