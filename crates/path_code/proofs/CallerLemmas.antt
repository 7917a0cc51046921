-- For worked examples: numbers of one digit, and paths of two operations of one resource.
use Rattle.std.proofs.Common.{◌≡◌, List, [], ◌∷◌, codes, arith}
use Rattle.std.specs.Fmt.{decimal}
use Rattle.std.proofs.lemmas.Fmt.{decimal_digit}
use Rattle.path_model.specs.declared.resource.Law.TheVariants.{Cell}
use Rattle.path_model.specs.Trees.{Tree, op}
use Rattle.path_model.specs.Declarations.{Path, Declaration}

pub digit0 : decimal 0 ≡ codes "0"
digit0 = decimal_digit 0 (omega arith)

pub digit1 : decimal 1 ≡ codes "1"
digit1 = decimal_digit 1 (omega arith)

pub digit2 : decimal 2 ≡ codes "2"
digit2 = decimal_digit 2 (omega arith)

pub digit3 : decimal 3 ≡ codes "3"
digit3 = decimal_digit 3 (omega arith)

pub digit4 : decimal 4 ≡ codes "4"
digit4 = decimal_digit 4 (omega arith)

abbrev pub a : Tree
a = op (record { 0 = 0 })

abbrev pub b : Tree
b = op (record { 0 = 1 })

abbrev pub declares : List Path → Declaration
declares ps = record {
  resources = record { name = codes "r"; law = Cell } ∷ [];
  operations = record { name = codes "a"; resource = 0 } ∷ record { name = codes "b"; resource = 0 } ∷ [];
  paths = ps;
}

abbrev pub path_of : Tree → Path
path_of s = record { resource = 0; tree = s }
