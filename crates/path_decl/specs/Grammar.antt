-- The grammar: the pieces, up to those of the rest, are a unit, an alternative, a sequence and so on of this form.
use Rattle.std.specs.Prelude.{ℕ, suc, List, [], ◌∷◌, Option, Some, None}
use Rattle.path_lex.specs.declared.token.Sign.TheVariants as signs
use Rattle.path_lex.specs.declared.token.Reserved.TheVariants as words
use Rattle.path_lex.specs.Spelling.{Piece, sign, reserved, name, number}
use Rattle.path_decl.specs.Forms.{Form, once, sequence, selection, braced, LawForm, a_cell, a_tally, a_queue, ResourceForm}

-- [":" NUMBER] "}", with the digits of the number
pub data IsClosing : List Piece → List Piece → Option (List ℕ) → Type 0 where
  by_brace : {rest : List Piece} → IsClosing (sign signs.CloseBrace ∷ rest) rest None
  by_bound : {n : List ℕ} {rest : List Piece} → IsClosing (sign signs.Colon ∷ number n ∷ sign signs.CloseBrace ∷ rest) rest (Some n)

-- at most d parentheses and braces are open at once
mutual
  -- unit = NAME | "(" seq ")" | "{" seq [":" NUMBER] "}"
  pub data IsUnit : ℕ → List Piece → List Piece → Form → Type 0 where
    by_name : {d : ℕ} {n : List ℕ} {rest : List Piece} → IsUnit d (name n ∷ rest) rest (once n)
    by_group : {d : ℕ} {ts rest : List Piece} {t : Form} → IsSeq d ts (sign signs.CloseParen ∷ rest) t
        → IsUnit (suc d) (sign signs.OpenParen ∷ ts) rest t
    by_braces : {d : ℕ} {ts mid rest : List Piece} {t : Form} {b : Option (List ℕ)} → IsSeq d ts mid t → IsClosing mid rest b
        → IsUnit (suc d) (sign signs.OpenBrace ∷ ts) rest (braced b t)

  -- alt = unit {"," unit}, to the left
  pub data IsAlt : ℕ → List Piece → List Piece → Form → Type 0 where
    by_units : {d : ℕ} {ts mid rest : List Piece} {s t : Form} → IsUnit d ts mid s → MoreUnits d s mid rest t → IsAlt d ts rest t

  pub data MoreUnits : ℕ → Form → List Piece → List Piece → Form → Type 0 where
    no_unit : {d : ℕ} {rest : List Piece} {s : Form} → MoreUnits d s rest rest s
    one_unit : {d : ℕ} {ts mid rest : List Piece} {s u t : Form} → IsUnit d ts mid u → MoreUnits d (selection s u) mid rest t
        → MoreUnits d s (sign signs.Comma ∷ ts) rest t

  -- seq = alt {";" alt}, to the left
  pub data IsSeq : ℕ → List Piece → List Piece → Form → Type 0 where
    by_alts : {d : ℕ} {ts mid rest : List Piece} {s t : Form} → IsAlt d ts mid s → MoreAlts d s mid rest t → IsSeq d ts rest t

  pub data MoreAlts : ℕ → Form → List Piece → List Piece → Form → Type 0 where
    no_alt : {d : ℕ} {rest : List Piece} {s : Form} → MoreAlts d s rest rest s
    one_alt : {d : ℕ} {ts mid rest : List Piece} {s u t : Form} → IsAlt d ts mid u → MoreAlts d (sequence s u) mid rest t
        → MoreAlts d s (sign signs.Semicolon ∷ ts) rest t

-- path = "path" seq "end"
pub data IsPath : List Piece → List Piece → Form → Type 0 where
  by_path : {ts rest : List Piece} {t : Form} → IsSeq 32 ts (reserved words.End ∷ rest) t → IsPath (reserved words.Path ∷ ts) rest t

-- {path}
pub data ArePaths : List Piece → List Piece → List Form → Type 0 where
  no_path : {rest : List Piece} → ArePaths rest rest []
  one_path : {ts mid rest : List Piece} {p : Form} {ps : List Form} → IsPath ts mid p → ArePaths mid rest ps → ArePaths ts rest (p ∷ ps)

-- NAME {"," NAME}
pub data AreNames : List Piece → List Piece → List (List ℕ) → Type 0 where
  last_name : {n : List ℕ} {rest : List Piece} → AreNames (name n ∷ rest) rest (n ∷ [])
  one_name : {n : List ℕ} {ts rest : List Piece} {ns : List (List ℕ)} → AreNames ts rest ns
      → AreNames (name n ∷ sign signs.Comma ∷ ts) rest (n ∷ ns)

-- law = "cell" | "tally" | "queue" NUMBER, with the digits of the number
pub data IsLaw : List Piece → List Piece → LawForm → Type 0 where
  by_cell : {rest : List Piece} → IsLaw (reserved words.Cell ∷ rest) rest a_cell
  by_tally : {rest : List Piece} → IsLaw (reserved words.Tally ∷ rest) rest a_tally
  by_queue : {n : List ℕ} {rest : List Piece} → IsLaw (reserved words.Queue ∷ number n ∷ rest) rest (a_queue n)

-- resource = "resource" NAME law "operation" NAME {"," NAME} {path} "end"
pub data IsResource : List Piece → List Piece → ResourceForm → Type 0 where
  by_resource : {n : List ℕ} {ls ts mid rest : List Piece} {l : LawForm} {os : List (List ℕ)} {ps : List Form}
      → IsLaw ls (reserved words.Operation ∷ ts) l → AreNames ts mid os → ArePaths mid (reserved words.End ∷ rest) ps
      → IsResource (reserved words.Resource ∷ name n ∷ ls) rest (record { name = n; law = l; operations = os; paths = ps })

-- file = resource {resource}
pub data IsFile : List Piece → List ResourceForm → Type 0 where
  last_resource : {ts : List Piece} {r : ResourceForm} → IsResource ts [] r → IsFile ts (r ∷ [])
  one_resource : {ts mid : List Piece} {r : ResourceForm} {rs : List ResourceForm} → IsResource ts mid r → IsFile mid rs
      → IsFile ts (r ∷ rs)
