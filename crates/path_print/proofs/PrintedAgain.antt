-- What is printed is read as the same forms.
use Rattle.std.proofs.Common.{◌≡◌, ℕ, zero, suc, ◌≤◌, max, Bool, true, false, List, [], ◌∷◌, ◌++◌, Option, Some, None, refl, sym, subst, append_assoc, arith}
use Rattle.path_lex.specs.declared.token.Sign.TheVariants as signs
use Rattle.path_lex.specs.declared.token.Reserved.TheVariants as words
use Rattle.path_print.specs.declared.printer.Place.{Place}
use Rattle.path_print.specs.declared.printer.Place.TheVariants.{InSeq, InAlt, InUnit}
use Rattle.path_lex.specs.Spelling.{Piece, sign, reserved, name, number}
use Rattle.path_decl.specs.Forms.{Form, once, sequence, selection, braced, LawForm, ResourceForm}
use Rattle.path_decl.specs.Grammar.{IsUnit, by_name, by_group, by_braces, by_brace, by_bound, IsAlt, by_units, MoreUnits, no_unit, one_unit, IsSeq, by_alts, MoreAlts, no_alt, one_alt, IsPath, by_path, ArePaths, no_path, one_path, AreNames, last_name, one_name, IsLaw, by_cell, by_tally, by_queue, IsResource, by_resource, IsFile, last_resource, one_resource}
use Rattle.path_print.specs.Printed.{wraps_seq, wraps_alt, names_pieces}
use Rattle.path_print.proofs.PrintedForms.{digits_pieces, form_pieces, path_form, path_forms, law_form, resource_form, resource_forms}

-- one more is open inside parentheses
abbrev deeper : Bool → ℕ → ℕ
deeper true n = suc n
deeper false n = n

-- how many are open at once in what is printed
abbrev pub opens : Form → Place → ℕ
opens (once n) place = 0
opens (sequence s t) place = deeper (wraps_seq place) (max (opens s InSeq) (opens t InAlt))
opens (selection s t) place = deeper (wraps_alt place) (max (opens s InAlt) (opens t InUnit))
opens (braced c t) place = suc (opens t InSeq)

in_parens : {d : ℕ} (xs : List Piece) {rest : List Piece} {t : Form} → IsSeq d (xs ++ sign signs.CloseParen ∷ rest) (sign signs.CloseParen ∷ rest) t → IsUnit (suc d) (sign signs.OpenParen ∷ ((xs ++ sign signs.CloseParen ∷ []) ++ rest)) rest t
in_parens {d} xs {rest} {t} s = by_group (subst (λ x. IsSeq d x (sign signs.CloseParen ∷ rest) t) (sym (append_assoc xs (sign signs.CloseParen ∷ []) rest)) s)

-- the tokens from the end of what stands within braces
abbrev closing : Option (List ℕ) → List Piece → List Piece
closing c rest = digits_pieces c ++ sign signs.CloseBrace ∷ rest

in_braces : {d : ℕ} (c : Option (List ℕ)) (xs : List Piece) {rest : List Piece} {t : Form} → IsSeq d (xs ++ closing c rest) (closing c rest) t → IsUnit (suc d) (sign signs.OpenBrace ∷ ((xs ++ (digits_pieces c ++ sign signs.CloseBrace ∷ [])) ++ rest)) rest (braced c t)
in_braces {d} None xs {rest} {t} s = by_braces (subst (λ x. IsSeq d x (sign signs.CloseBrace ∷ rest) t) (sym (append_assoc xs (sign signs.CloseBrace ∷ []) rest)) s) by_brace
in_braces {d} (Some ds) xs {rest} {t} s = by_braces (subst (λ x. IsSeq d x (sign signs.Colon ∷ number ds ∷ sign signs.CloseBrace ∷ rest) t) (sym (append_assoc xs (sign signs.Colon ∷ number ds ∷ sign signs.CloseBrace ∷ []) rest)) s) by_bound

join_seq : {d : ℕ} (xs ys : List Piece) {left rest : List Piece} {s t u : Form} → ((l r : List Piece) (v : Form) → MoreAlts d s l r v → IsSeq d (xs ++ l) r v) → IsAlt d (ys ++ left) left t → MoreAlts d (sequence s t) left rest u
    → IsSeq d ((xs ++ sign signs.Semicolon ∷ ys) ++ left) rest u
join_seq {d} xs ys {left} {rest} {u} f a m = subst (λ x. IsSeq d x rest u) (sym (append_assoc xs (sign signs.Semicolon ∷ ys) left)) (f (sign signs.Semicolon ∷ (ys ++ left)) rest u (one_alt a m))

join_alt : {d : ℕ} (xs ys : List Piece) {left rest : List Piece} {s t u : Form} → ((l r : List Piece) (v : Form) → MoreUnits d s l r v → IsAlt d (xs ++ l) r v) → IsUnit d (ys ++ left) left t → MoreUnits d (selection s t) left rest u
    → IsAlt d ((xs ++ sign signs.Comma ∷ ys) ++ left) rest u
join_alt {d} xs ys {left} {rest} {u} f a m = subst (λ x. IsAlt d x rest u) (sym (append_assoc xs (sign signs.Comma ∷ ys) left)) (f (sign signs.Comma ∷ (ys ++ left)) rest u (one_unit a m))

mutual
  pub unit_back : (t : Form) (d : ℕ) (rest : List Piece) → opens t InUnit ≤ d → IsUnit d (form_pieces t InUnit ++ rest) rest t
  unit_back (once n) d rest h = by_name
  unit_back (sequence s t) zero rest h = absurd (omega arith)
  unit_back (sequence s t) (suc d) rest h = in_parens (form_pieces s InSeq ++ sign signs.Semicolon ∷ form_pieces t InAlt) (join_seq (form_pieces s InSeq) (form_pieces t InAlt) (λ l r v m. seq_then s d l r v (omega arith) m) (alt_then t d (sign signs.CloseParen ∷ rest) (sign signs.CloseParen ∷ rest) t (omega arith) no_unit) no_alt)
  unit_back (selection s t) zero rest h = absurd (omega arith)
  unit_back (selection s t) (suc d) rest h = in_parens (form_pieces s InAlt ++ sign signs.Comma ∷ form_pieces t InUnit) (by_alts (join_alt (form_pieces s InAlt) (form_pieces t InUnit) (λ l r v m. alt_then s d l r v (omega arith) m) (unit_back t d (sign signs.CloseParen ∷ rest) (omega arith)) no_unit) no_alt)
  unit_back (braced c t) zero rest h = absurd (omega arith)
  unit_back (braced c t) (suc d) rest h = in_braces c (form_pieces t InSeq) (seq_then t d (closing c rest) (closing c rest) t (omega arith) no_alt)

  pub alt_then : (t : Form) (d : ℕ) (left rest : List Piece) (u : Form) → opens t InAlt ≤ d → MoreUnits d t left rest u → IsAlt d (form_pieces t InAlt ++ left) rest u
  alt_then (once n) d left rest u h m = by_units by_name m
  alt_then (sequence s t) zero left rest u h m = absurd (omega arith)
  alt_then (sequence s t) (suc d) left rest u h m = by_units (in_parens (form_pieces s InSeq ++ sign signs.Semicolon ∷ form_pieces t InAlt) (join_seq (form_pieces s InSeq) (form_pieces t InAlt) (λ l r v n. seq_then s d l r v (omega arith) n) (alt_then t d (sign signs.CloseParen ∷ left) (sign signs.CloseParen ∷ left) t (omega arith) no_unit) no_alt)) m
  alt_then (selection s t) d left rest u h m = join_alt (form_pieces s InAlt) (form_pieces t InUnit) (λ l r v n. alt_then s d l r v (omega arith) n) (unit_back t d left (omega arith)) m
  alt_then (braced c t) zero left rest u h m = absurd (omega arith)
  alt_then (braced c t) (suc d) left rest u h m = by_units (in_braces c (form_pieces t InSeq) (seq_then t d (closing c left) (closing c left) t (omega arith) no_alt)) m

  pub seq_then : (t : Form) (d : ℕ) (left rest : List Piece) (u : Form) → opens t InSeq ≤ d → MoreAlts d t left rest u → IsSeq d (form_pieces t InSeq ++ left) rest u
  seq_then (once n) d left rest u h m = by_alts (by_units by_name no_unit) m
  seq_then (sequence s t) d left rest u h m = join_seq (form_pieces s InSeq) (form_pieces t InAlt) (λ l r v n. seq_then s d l r v (omega arith) n) (alt_then t d left left t (omega arith) no_unit) m
  seq_then (selection s t) d left rest u h m = by_alts (join_alt (form_pieces s InAlt) (form_pieces t InUnit) (λ l r v n. alt_then s d l r v (omega arith) n) (unit_back t d left (omega arith)) no_unit) m
  seq_then (braced c t) zero left rest u h m = absurd (omega arith)
  seq_then (braced c t) (suc d) left rest u h m = by_alts (by_units (in_braces c (form_pieces t InSeq) (seq_then t d (closing c left) (closing c left) t (omega arith) no_alt)) no_unit) m

-- what was read with at most d open is printed with at most d open
looser : (t : Form) → (opens t InSeq ≤ opens t InAlt) × (opens t InAlt ≤ opens t InUnit) × (opens t InUnit ≤ suc (opens t InSeq))
looser (once n) = (omega arith, omega arith, omega arith)
looser (sequence s t) = (omega arith, omega arith, omega arith)
looser (selection s t) = (omega arith, omega arith, omega arith)
looser (braced c t) = (omega arith, omega arith, omega arith)

mutual
  unit_opens : {d : ℕ} {ts r : List Piece} {t : Form} → IsUnit d ts r t → opens t InUnit ≤ d
  unit_opens by_name = omega arith
  unit_opens (by_group {t} s) = let i = seq_opens s in let k = looser t in omega arith
  unit_opens (by_braces {t} s c) = let i = seq_opens s in omega arith

  alt_opens : {d : ℕ} {ts r : List Piece} {t : Form} → IsAlt d ts r t → opens t InAlt ≤ d
  alt_opens (by_units {s} u m) = let i = unit_opens u in let k = looser s in units_opens m (omega arith)

  units_opens : {d : ℕ} {s : Form} {ts r : List Piece} {t : Form} → MoreUnits d s ts r t → opens s InAlt ≤ d → opens t InAlt ≤ d
  units_opens no_unit h = h
  units_opens (one_unit u m) h = let i = unit_opens u in units_opens m (omega arith)

  pub seq_opens : {d : ℕ} {ts r : List Piece} {t : Form} → IsSeq d ts r t → opens t InSeq ≤ d
  seq_opens (by_alts {s} a m) = let i = alt_opens a in let k = looser s in alts_opens m (omega arith)

  alts_opens : {d : ℕ} {s : Form} {ts r : List Piece} {t : Form} → MoreAlts d s ts r t → opens s InSeq ≤ d → opens t InSeq ≤ d
  alts_opens no_alt h = h
  alts_opens (one_alt a m) h = let i = alt_opens a in alts_opens m (omega arith)

path_back : {ts r : List Piece} {f : Form} (rest : List Piece) → IsPath ts r f → IsPath (path_form f ++ rest) rest f
path_back {f} rest (by_path s) =
    by_path (subst (λ x. IsSeq 32 x (reserved words.End ∷ rest) f) (sym (append_assoc (form_pieces f InSeq) (reserved words.End ∷ []) rest))
    (seq_then f 32 (reserved words.End ∷ rest) (reserved words.End ∷ rest) f (seq_opens s) no_alt))

paths_back : {ts r : List Piece} {fs : List Form} (rest : List Piece) → ArePaths ts r fs → ArePaths (path_forms fs ++ rest) rest fs
paths_back rest no_path = no_path
paths_back rest (one_path {p} {ps} h hs) =
    subst (λ x. ArePaths x rest (p ∷ ps)) (sym (append_assoc (path_form p) (path_forms ps) rest)) (one_path (path_back (path_forms ps ++ rest) h) (paths_back rest hs))

names_back : (n : List ℕ) (ns : List (List ℕ)) (rest : List Piece) → AreNames (names_pieces (n ∷ ns) ++ rest) rest (n ∷ ns)
names_back n [] rest = last_name
names_back n (m ∷ ms) rest = one_name (names_back m ms rest)

names_again : {ts r : List Piece} {ns : List (List ℕ)} (rest : List Piece) → AreNames ts r ns → AreNames (names_pieces ns ++ rest) rest ns
names_again rest (last_name {n}) = last_name
names_again rest (one_name {n} {ns} h) = names_back n ns rest

law_back : {ts r : List Piece} {l : LawForm} (rest : List Piece) → IsLaw ts r l → IsLaw (law_form l ++ rest) rest l
law_back rest by_cell = by_cell
law_back rest by_tally = by_tally
law_back rest by_queue = by_queue

resource_back : {ts r : List Piece} {f : ResourceForm} (rest : List Piece) → IsResource ts r f → IsResource (resource_form f ++ rest) rest f
resource_back rest (by_resource {n} {l} {os} {ps} law names paths) =
    let body : List Piece = names_pieces os ++ (path_forms ps ++ reserved words.End ∷ rest) in
    let f : ResourceForm = record { name = n; law = l; operations = os; paths = ps } in
    let e : ((law_form l ++ reserved words.Operation ∷ []) ++ (names_pieces os ++ (path_forms ps ++ reserved words.End ∷ []))) ++ rest ≡ law_form l ++ (reserved words.Operation ∷ body) = simp append_assoc refl in
    let h : IsResource (reserved words.Resource ∷ name n ∷ (law_form l ++ (reserved words.Operation ∷ body))) rest f =
    by_resource (law_back (reserved words.Operation ∷ body) law) (names_again (path_forms ps ++ reserved words.End ∷ rest) names) (paths_back (reserved words.End ∷ rest) paths) in
    subst (λ x. IsResource (reserved words.Resource ∷ name n ∷ x) rest f) (sym e) h

pub file_again : {ts : List Piece} {fs : List ResourceForm} → IsFile ts fs → IsFile (resource_forms fs) fs
file_again (last_resource {r} h) = last_resource (resource_back [] h)
file_again (one_resource {r} {rs} h hs) = one_resource (resource_back (resource_forms rs) h) (file_again hs)
