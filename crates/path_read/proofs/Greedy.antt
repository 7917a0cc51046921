-- The reader follows the grammar: in a whole file each list goes on as long as its separator follows.
use Rattle.std.proofs.Common.{ℕ, List, ◌∷◌, Option}
use Rattle.path_lex.specs.declared.token.Sign.TheVariants as signs
use Rattle.path_lex.specs.declared.token.Reserved.TheVariants as words
use Rattle.path_lex.specs.Spelling.{Piece, sign, reserved, name}
use Rattle.path_decl.specs.Forms.{Form, LawForm, ResourceForm}
use Rattle.path_decl.specs.Grammar as plain
use Rattle.path_decl.specs.Grammar.{IsClosing, IsUnit, IsAlt, MoreUnits, IsSeq, MoreAlts, IsPath, ArePaths, AreNames, IsLaw, IsResource, IsFile}
use Rattle.path_read.specs.Inner.Reading as greedy
use Rattle.path_read.specs.Inner.Reading.{Begins, ReadsUnit, ReadsAlt, ReadsUnits, ReadsSeq, ReadsAlts, ReadsPath, ReadsPaths, ReadsMore, ReadsNames, ReadsBody, ReadsResource, ReadsResources, ReadsFile}

abbrev NoComma : List Piece → Type 0
NoComma ts = Begins (sign signs.Comma) ts → ⊥

abbrev NoSemicolon : List Piece → Type 0
NoSemicolon ts = Begins (sign signs.Semicolon) ts → ⊥

-- after a complete sequence no comma and no semicolon follows
closing_comma : {rest : List Piece} → NoComma (sign signs.CloseParen ∷ rest)
closing_comma b = let e = b.1 in cc

closing_semicolon : {rest : List Piece} → NoSemicolon (sign signs.CloseParen ∷ rest)
closing_semicolon b = let e = b.1 in cc

ending_comma : {rest : List Piece} → NoComma (reserved words.End ∷ rest)
ending_comma b = let e = b.1 in cc

ending_semicolon : {rest : List Piece} → NoSemicolon (reserved words.End ∷ rest)
ending_semicolon b = let e = b.1 in cc

ending_path : {rest : List Piece} → Begins (reserved words.Path) (reserved words.End ∷ rest) → ⊥
ending_path b = let e = b.1 in cc

semicolon_comma : {rest : List Piece} → NoComma (sign signs.Semicolon ∷ rest)
semicolon_comma b = let e = b.1 in cc

path_comma : {rest : List Piece} → NoComma (reserved words.Path ∷ rest)
path_comma b = let e = b.1 in cc

-- nor does any where braces close
braces_comma : {ts rest : List Piece} {b : Option (List ℕ)} → IsClosing ts rest b → NoComma ts
braces_comma plain.by_brace b = let e = b.1 in cc
braces_comma plain.by_bound b = let e = b.1 in cc

braces_semicolon : {ts rest : List Piece} {b : Option (List ℕ)} → IsClosing ts rest b → NoSemicolon ts
braces_semicolon plain.by_brace b = let e = b.1 in cc
braces_semicolon plain.by_bound b = let e = b.1 in cc

steps_start : {d : ℕ} {s t : Form} {mid rest : List Piece} → MoreAlts d s mid rest t → NoComma rest → NoComma mid
steps_start plain.no_alt c = c
steps_start (plain.one_alt a m) c = semicolon_comma

mutual
  reads_unit : {d : ℕ} {ts rest : List Piece} {t : Form} → IsUnit d ts rest t → ReadsUnit d ts rest t
  reads_unit plain.by_name = greedy.by_name
  reads_unit (plain.by_group s) = greedy.by_group (reads_seq s closing_comma closing_semicolon)
  reads_unit (plain.by_braces s c) = greedy.by_braces (reads_seq s (braces_comma c) (braces_semicolon c)) c

  reads_alt : {d : ℕ} {ts rest : List Piece} {t : Form} → IsAlt d ts rest t → NoComma rest → ReadsAlt d ts rest t
  reads_alt (plain.by_units u m) c = greedy.by_units (reads_unit u) (reads_units m c)

  reads_units : {d : ℕ} {s t : Form} {ts rest : List Piece} → MoreUnits d s ts rest t → NoComma rest → ReadsUnits d s ts rest t
  reads_units plain.no_unit c = greedy.no_unit c
  reads_units (plain.one_unit u m) c = greedy.one_unit (reads_unit u) (reads_units m c)

  reads_seq : {d : ℕ} {ts rest : List Piece} {t : Form} → IsSeq d ts rest t → NoComma rest → NoSemicolon rest → ReadsSeq d ts rest t
  reads_seq (plain.by_alts a m) c s = greedy.by_alts (reads_alt a (steps_start m c)) (reads_alts m c s)

  reads_alts : {d : ℕ} {s t : Form} {ts rest : List Piece} → MoreAlts d s ts rest t → NoComma rest → NoSemicolon rest → ReadsAlts d s ts rest t
  reads_alts plain.no_alt c s = greedy.no_alt s
  reads_alts (plain.one_alt a m) c s = greedy.one_alt (reads_alt a (steps_start m c)) (reads_alts m c s)

mutual
  is_unit : {d : ℕ} {ts rest : List Piece} {t : Form} → ReadsUnit d ts rest t → IsUnit d ts rest t
  is_unit greedy.by_name = plain.by_name
  is_unit (greedy.by_group s) = plain.by_group (is_seq s)
  is_unit (greedy.by_braces s c) = plain.by_braces (is_seq s) c

  is_alt : {d : ℕ} {ts rest : List Piece} {t : Form} → ReadsAlt d ts rest t → IsAlt d ts rest t
  is_alt (greedy.by_units u m) = plain.by_units (is_unit u) (are_units m)

  are_units : {d : ℕ} {s t : Form} {ts rest : List Piece} → ReadsUnits d s ts rest t → MoreUnits d s ts rest t
  are_units (greedy.no_unit f) = plain.no_unit
  are_units (greedy.one_unit u m) = plain.one_unit (is_unit u) (are_units m)

  is_seq : {d : ℕ} {ts rest : List Piece} {t : Form} → ReadsSeq d ts rest t → IsSeq d ts rest t
  is_seq (greedy.by_alts a m) = plain.by_alts (is_alt a) (are_alts m)

  are_alts : {d : ℕ} {s t : Form} {ts rest : List Piece} → ReadsAlts d s ts rest t → MoreAlts d s ts rest t
  are_alts (greedy.no_alt f) = plain.no_alt
  are_alts (greedy.one_alt a m) = plain.one_alt (is_alt a) (are_alts m)

paths_start : {ts rest : List Piece} {ps : List Form} → ArePaths ts (reserved words.End ∷ rest) ps → NoComma ts
paths_start plain.no_path = ending_comma
paths_start (plain.one_path (plain.by_path s) ps) = path_comma

reads_paths : {ts rest : List Piece} {ps : List Form} → ArePaths ts rest ps → (Begins (reserved words.Path) rest → ⊥) → ReadsPaths ts rest ps
reads_paths plain.no_path c = greedy.no_path c
reads_paths (plain.one_path (plain.by_path s) ps) c = greedy.one_path (greedy.by_path (reads_seq s ending_comma ending_semicolon)) (reads_paths ps c)

are_paths : {ts rest : List Piece} {ps : List Form} → ReadsPaths ts rest ps → ArePaths ts rest ps
are_paths (greedy.no_path f) = plain.no_path
are_paths (greedy.one_path (greedy.by_path s) ps) = plain.one_path (plain.by_path (is_seq s)) (are_paths ps)

more_from : {ts rest : List Piece} {ns : List (List ℕ)} → ReadsNames ts rest ns → ReadsMore (sign signs.Comma ∷ ts) rest ns
more_from (greedy.by_names m) = greedy.one_name m

reads_names : {ts rest : List Piece} {ns : List (List ℕ)} → AreNames ts rest ns → NoComma rest → ReadsNames ts rest ns
reads_names plain.last_name c = greedy.by_names (greedy.no_name c)
reads_names (plain.one_name m) c = greedy.by_names (more_from (reads_names m c))

names_more : {n : List ℕ} {ts rest : List Piece} {ns : List (List ℕ)} → ReadsMore ts rest ns → AreNames (name n ∷ ts) rest (n ∷ ns)
names_more (greedy.no_name f) = plain.last_name
names_more (greedy.one_name m) = plain.one_name (names_more m)

are_names : {ts rest : List Piece} {ns : List (List ℕ)} → ReadsNames ts rest ns → AreNames ts rest ns
are_names (greedy.by_names m) = names_more m

reads_resource : {ts rest : List Piece} {r : ResourceForm} → IsResource ts rest r → ReadsResource ts rest r
reads_resource (plain.by_resource l ns ps) = greedy.by_resource l (greedy.by_body (reads_names ns (paths_start ps)) (reads_paths ps ending_path))

resource_with : {n : List ℕ} {ls ts rest : List Piece} {l : LawForm} {os : List (List ℕ)} {ps : List Form} → IsLaw ls (reserved words.Operation ∷ ts) l → ReadsBody ts (reserved words.End ∷ rest) os ps
    → IsResource (reserved words.Resource ∷ name n ∷ ls) rest (record { name = n; law = l; operations = os; paths = ps })
resource_with l (greedy.by_body ns ps) = plain.by_resource l (are_names ns) (are_paths ps)

is_resource : {ts rest : List Piece} {r : ResourceForm} → ReadsResource ts rest r → IsResource ts rest r
is_resource (greedy.by_resource l b) = resource_with l b

resources_from : {ts : List Piece} {rs : List ResourceForm} → ReadsFile ts rs → ReadsResources ts rs
resources_from (greedy.by_file q m) = greedy.one_resource q m

pub reads_file : {ts : List Piece} {rs : List ResourceForm} → IsFile ts rs → ReadsFile ts rs
reads_file (plain.last_resource q) = greedy.by_file (reads_resource q) greedy.no_resource
reads_file (plain.one_resource q m) = greedy.by_file (reads_resource q) (resources_from (reads_file m))

file_with : {ts mid : List Piece} {r : ResourceForm} {rs : List ResourceForm} → ReadsResource ts mid r → ReadsResources mid rs → IsFile ts (r ∷ rs)
file_with q greedy.no_resource = plain.last_resource (is_resource q)
file_with q (greedy.one_resource q' m) = plain.one_resource (is_resource q) (file_with q' m)

pub is_file : {ts : List Piece} {rs : List ResourceForm} → ReadsFile ts rs → IsFile ts rs
is_file (greedy.by_file q m) = file_with q m

pub not_file : (ts : List Piece) → ((rs : List ResourceForm) → ReadsFile ts rs → ⊥) → (rs : List ResourceForm) → IsFile ts rs → ⊥
not_file ts none rs f = none rs (reads_file f)
