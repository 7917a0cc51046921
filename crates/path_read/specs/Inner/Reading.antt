-- How the reader reads the grammar: each list goes on as long as its separator follows.
use Rattle.std.specs.Prelude.{◌≡◌, ℕ, suc, List, [], ◌∷◌, Option}
use Rattle.path_lex.specs.declared.token.Sign.TheVariants as signs
use Rattle.path_lex.specs.declared.token.Reserved.TheVariants as words
use Rattle.path_lex.specs.declared.token.Token.{Token}
use Rattle.path_lex.specs.declared.fault.DeclFault.{DeclFault}
use Rattle.path_lex.specs.declared.fault.DeclFault.TheVariants as faults
use Rattle.path_lex.specs.Spelling.{Piece, sign, reserved, name, views, pieces}
use Rattle.path_decl.specs.Forms.{Form, once, sequence, selection, braced, LawForm, ResourceForm}
use Rattle.path_decl.specs.Grammar.{IsClosing, IsLaw}

-- the tokens without their places
abbrev pub told : List Token → List Piece
told ts = pieces (views ts)

-- the first of the pieces is this one
abbrev pub Begins : Piece → List Piece → Type 0
Begins p ts = (rest : List Piece) × (ts ≡ p ∷ rest)

-- an error but OutOfMemory means P, and isn't an error of cutting
abbrev pub Fails : DeclFault → Type 0 → Type 0
Fails faults.OutOfMemory P = Unit {0}
Fails faults.TooLong P = ⊥
Fails (faults.BadByte at) P = ⊥
Fails (faults.WordTooLong at) P = ⊥
Fails (faults.NumberTooLong at) P = ⊥
Fails _ P = P

mutual
  pub data ReadsUnit : ℕ → List Piece → List Piece → Form → Type 0 where
    by_name : {d : ℕ} {n : List ℕ} {rest : List Piece} → ReadsUnit d (name n ∷ rest) rest (once n)
    by_group : {d : ℕ} {ts rest : List Piece} {t : Form} → ReadsSeq d ts (sign signs.CloseParen ∷ rest) t
        → ReadsUnit (suc d) (sign signs.OpenParen ∷ ts) rest t
    by_braces : {d : ℕ} {ts mid rest : List Piece} {t : Form} {b : Option (List ℕ)} → ReadsSeq d ts mid t → IsClosing mid rest b
        → ReadsUnit (suc d) (sign signs.OpenBrace ∷ ts) rest (braced b t)

  pub data ReadsAlt : ℕ → List Piece → List Piece → Form → Type 0 where
    by_units : {d : ℕ} {ts mid rest : List Piece} {s t : Form} → ReadsUnit d ts mid s → ReadsUnits d s mid rest t → ReadsAlt d ts rest t

  pub data ReadsUnits : ℕ → Form → List Piece → List Piece → Form → Type 0 where
    no_unit : {d : ℕ} {rest : List Piece} {s : Form} → (Begins (sign signs.Comma) rest → ⊥) → ReadsUnits d s rest rest s
    one_unit : {d : ℕ} {ts mid rest : List Piece} {s u t : Form} → ReadsUnit d ts mid u → ReadsUnits d (selection s u) mid rest t
        → ReadsUnits d s (sign signs.Comma ∷ ts) rest t

  pub data ReadsSeq : ℕ → List Piece → List Piece → Form → Type 0 where
    by_alts : {d : ℕ} {ts mid rest : List Piece} {s t : Form} → ReadsAlt d ts mid s → ReadsAlts d s mid rest t → ReadsSeq d ts rest t

  pub data ReadsAlts : ℕ → Form → List Piece → List Piece → Form → Type 0 where
    no_alt : {d : ℕ} {rest : List Piece} {s : Form} → (Begins (sign signs.Semicolon) rest → ⊥) → ReadsAlts d s rest rest s
    one_alt : {d : ℕ} {ts mid rest : List Piece} {s u t : Form} → ReadsAlt d ts mid u → ReadsAlts d (sequence s u) mid rest t
        → ReadsAlts d s (sign signs.Semicolon ∷ ts) rest t

-- a unit of braces after the brace that opens it
abbrev pub ReadsBraces : ℕ → List Piece → List Piece → Form → Type 0
ReadsBraces d ts rest t = ReadsUnit d (sign signs.OpenBrace ∷ ts) rest t

-- a path after its word
pub data ReadsPath : List Piece → List Piece → Form → Type 0 where
  by_path : {ts rest : List Piece} {t : Form} → ReadsSeq 32 ts (reserved words.End ∷ rest) t → ReadsPath ts rest t

pub data ReadsPaths : List Piece → List Piece → List Form → Type 0 where
  no_path : {rest : List Piece} → (Begins (reserved words.Path) rest → ⊥) → ReadsPaths rest rest []
  one_path : {ts mid rest : List Piece} {p : Form} {ps : List Form} → ReadsPath ts mid p → ReadsPaths mid rest ps
      → ReadsPaths (reserved words.Path ∷ ts) rest (p ∷ ps)

-- further names, each after a comma
pub data ReadsMore : List Piece → List Piece → List (List ℕ) → Type 0 where
  no_name : {rest : List Piece} → (Begins (sign signs.Comma) rest → ⊥) → ReadsMore rest rest []
  one_name : {n : List ℕ} {ts rest : List Piece} {ns : List (List ℕ)} → ReadsMore ts rest ns
      → ReadsMore (sign signs.Comma ∷ name n ∷ ts) rest (n ∷ ns)

pub data ReadsNames : List Piece → List Piece → List (List ℕ) → Type 0 where
  by_names : {n : List ℕ} {ts rest : List Piece} {ns : List (List ℕ)} → ReadsMore ts rest ns → ReadsNames (name n ∷ ts) rest (n ∷ ns)

-- names, and then paths
pub data ReadsBody : List Piece → List Piece → List (List ℕ) → List Form → Type 0 where
  by_body : {ts mid rest : List Piece} {os : List (List ℕ)} {ps : List Form} → ReadsNames ts mid os → ReadsPaths mid rest ps
      → ReadsBody ts rest os ps

pub data ReadsResource : List Piece → List Piece → ResourceForm → Type 0 where
  by_resource : {n : List ℕ} {ls ts rest : List Piece} {l : LawForm} {os : List (List ℕ)} {ps : List Form}
      → IsLaw ls (reserved words.Operation ∷ ts) l → ReadsBody ts (reserved words.End ∷ rest) os ps
      → ReadsResource (reserved words.Resource ∷ name n ∷ ls) rest (record { name = n; law = l; operations = os; paths = ps })

-- further resources up to the end
pub data ReadsResources : List Piece → List ResourceForm → Type 0 where
  no_resource : ReadsResources [] []
  one_resource : {ts mid : List Piece} {r : ResourceForm} {rs : List ResourceForm} → ReadsResource ts mid r → ReadsResources mid rs
      → ReadsResources ts (r ∷ rs)

pub data ReadsFile : List Piece → List ResourceForm → Type 0 where
  by_file : {ts mid : List Piece} {r : ResourceForm} {rs : List ResourceForm} → ReadsResource ts mid r → ReadsResources mid rs
      → ReadsFile ts (r ∷ rs)
