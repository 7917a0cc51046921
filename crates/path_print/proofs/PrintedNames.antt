-- The print of a declaration that was read consists of names and reserved words.
use Rattle.std.proofs.Common.{ℕ, Bool, true, false, List, [], ◌∷◌, ◌++◌, ◌+◌, map, Option, Some, None, sym, subst, arith}
use Rattle.std.specs.List.{AllByRecursion, Contains}
use Rattle.std.proofs.lemmas.List.Elements.{All-from_recursion, recursion_from_All, All-contains}
use Rattle.path_model.specs.Declarations.{Declaration}
use Rattle.path_lex.specs.declared.token.Reserved.TheVariants as words
use Rattle.path_lex.specs.declared.token.Sign.TheVariants as signs
use Rattle.path_print.specs.declared.printer.Place.{Place}
use Rattle.path_print.specs.declared.printer.Place.TheVariants.{InSeq, InAlt, InUnit}
use Rattle.path_lex.specs.Names.{IsName}
use Rattle.path_lex.specs.Spelling.{Piece, sign, reserved}
use Rattle.path_decl.specs.Forms.{Form, once, sequence, selection, braced, names_in, LawForm, a_cell, a_tally, a_queue, ResourceForm, all_operations, BoundFits, LawFits}
use Rattle.path_read.proofs.CallerLemmas.{BracesFit, KeepsPathRules, PathsKeepRules}
use Rattle.path_read.proofs.CallerLemmas.{resources_called, forms_keep_rules}
use Rattle.path_decl.specs.Declares.{Declares}
use Rattle.path_decl.specs.Lawful.{Lawful}
use Rattle.path_print.specs.Printed.{wrapped, wraps_seq, wraps_alt, names_pieces, more_names}
use Rattle.path_print.proofs.PrintedForms.{digits_pieces, form_pieces, path_forms, law_form, resource_form, resource_forms}
use Rattle.path_print.proofs.PrintedGroups.{names_declared}
use Rattle.path_print.proofs.PrintedLaid.{IsPiece}
use Rattle.path_print.proofs.PrintedNumbers.{IsNumberText, number_text}

all_join : {X : Type 0} (P : X → Type 0) (xs ys : List X) → AllByRecursion P xs → AllByRecursion P ys → AllByRecursion P (xs ++ ys)
all_join P [] ys h k = k
all_join P (x ∷ xs) ys h k = (h.0, all_join P xs ys h.1 k)

all_left : {X : Type 0} (P : X → Type 0) (xs ys : List X) → AllByRecursion P (xs ++ ys) → AllByRecursion P xs
all_left P [] ys h = tt
all_left P (x ∷ xs) ys h = (h.0, all_left P xs ys h.1)

all_right : {X : Type 0} (P : X → Type 0) (xs ys : List X) → AllByRecursion P (xs ++ ys) → AllByRecursion P ys
all_right P [] ys h = h
all_right P (x ∷ xs) ys h = all_right P xs ys h.1

wrapped_pieces : (b : Bool) (ps : List Piece) → AllByRecursion IsPiece ps → AllByRecursion IsPiece (wrapped b ps)
wrapped_pieces true ps h = (tt, all_join IsPiece ps (sign signs.CloseParen ∷ []) h (tt, tt))
wrapped_pieces false ps h = h

bound_named : (c : Option (List ℕ)) → BoundFits c → AllByRecursion IsPiece (digits_pieces c)
bound_named None h = tt
bound_named (Some ds) h = (tt, (subst IsNumberText (sym h.denoted) (number_text h.number h.within), tt))

form_named : (f : Form) (b : ℕ) (place : Place) → AllByRecursion IsName (names_in f) → BracesFit b f → AllByRecursion IsPiece (form_pieces f place)
form_named (once n) b place h k = (h.0, tt)
form_named (sequence f g) b place h k = wrapped_pieces (wraps_seq place) (form_pieces f InSeq ++ sign signs.Semicolon ∷ form_pieces g InAlt)
    (all_join IsPiece (form_pieces f InSeq) (sign signs.Semicolon ∷ form_pieces g InAlt) (form_named f b InSeq (all_left IsName (names_in f) (names_in g) h) k.0) (tt, form_named g b InAlt (all_right IsName (names_in f) (names_in g) h) k.1))
form_named (selection f g) b place h k = wrapped_pieces (wraps_alt place) (form_pieces f InAlt ++ sign signs.Comma ∷ form_pieces g InUnit)
    (all_join IsPiece (form_pieces f InAlt) (sign signs.Comma ∷ form_pieces g InUnit) (form_named f b InAlt (all_left IsName (names_in f) (names_in g) h) k.0) (tt, form_named g b InUnit (all_right IsName (names_in f) (names_in g) h) k.1))
form_named (braced c f) b place h k = (
  tt,
  all_join IsPiece (form_pieces f InSeq) (digits_pieces c ++ sign signs.CloseBrace ∷ []) (form_named f (b + 1) InSeq h k.1)
      (all_join IsPiece (digits_pieces c) (sign signs.CloseBrace ∷ []) (bound_named c k.2) (tt, tt)),
)

-- names that stand among names are names
contained : (own ns : List (List ℕ)) → AllByRecursion IsName own → AllByRecursion (λ n. Contains own n) ns → AllByRecursion IsName ns
contained own [] h k = tt
contained own (n ∷ ns) h k = (All-contains IsName own n (All-from_recursion IsName own h) k.0, contained own ns h k.1)

paths_named : (own : List (List ℕ)) (fs : List Form) → AllByRecursion IsName own → AllByRecursion (KeepsPathRules own) fs → AllByRecursion IsPiece (path_forms fs)
paths_named own [] h k = tt
paths_named own (f ∷ fs) h k =
    let names = contained own (names_in f) h k.0.declared in
    (tt, all_join IsPiece (form_pieces f InSeq ++ reserved words.End ∷ []) (path_forms fs) (all_join IsPiece (form_pieces f InSeq) (reserved words.End ∷ []) (form_named f 0 InSeq names k.0.braces) (tt, tt)) (paths_named own fs h k.1))

more_named : (ns : List (List ℕ)) → AllByRecursion IsName ns → AllByRecursion IsPiece (more_names ns)
more_named [] h = tt
more_named (n ∷ ns) h = (tt, (h.0, more_named ns h.1))

names_named : (ns : List (List ℕ)) → AllByRecursion IsName ns → AllByRecursion IsPiece (names_pieces ns)
names_named [] h = tt
names_named (n ∷ ns) h = (h.0, more_named ns h.1)

law_named : (l : LawForm) → LawFits l → AllByRecursion IsPiece (law_form l)
law_named a_cell h = (tt, tt)
law_named a_tally h = (tt, tt)
law_named (a_queue ds) h = (tt, (subst IsNumberText (sym h.denoted) (number_text h.number (omega (arith, h.within))), tt))

resource_named : (r : ResourceForm) → IsName r.name → LawFits r.law → AllByRecursion IsName r.operations → AllByRecursion (KeepsPathRules r.operations) r.paths → AllByRecursion IsPiece (resource_form r)
resource_named r own law names paths = (
  tt,
  (
    own,
    all_join IsPiece (law_form r.law ++ reserved words.Operation ∷ []) (names_pieces r.operations ++ (path_forms r.paths ++ reserved words.End ∷ []))
        (all_join IsPiece (law_form r.law) (reserved words.Operation ∷ []) (law_named r.law law) (tt, tt))
        (all_join IsPiece (names_pieces r.operations) (path_forms r.paths ++ reserved words.End ∷ []) (names_named r.operations names)
        (all_join IsPiece (path_forms r.paths) (reserved words.End ∷ []) (paths_named r.operations r.paths names paths) (tt, tt))),
  ),
)

resources_named : (rs : List ResourceForm) → AllByRecursion IsName (map (λ r. r.name) rs) → AllByRecursion (λ r. LawFits r.law) rs → AllByRecursion IsName (all_operations rs) → PathsKeepRules rs → AllByRecursion IsPiece (resource_forms rs)
resources_named [] rn ls on ps = tt
resources_named (r ∷ rs) rn ls on ps =
    all_join IsPiece (resource_form r) (resource_forms rs) (resource_named r rn.0 ls.0 (all_left IsName r.operations (all_operations rs) on) ps.0) (resources_named rs rn.1 ls.1 (all_right IsName r.operations (all_operations rs) on) ps.1)

pub declared_named : (d : Declaration) (rs : List ResourceForm) → Lawful d → Declares rs d → AllByRecursion IsPiece (resource_forms rs)
declared_named d rs law is =
    let rn = subst (λ ns. AllByRecursion IsName ns) (resources_called rs d.resources is.resources) (recursion_from_All IsName (map (λ r. r.name) d.resources) law.resource_names.each) in
    let on = subst (λ ns. AllByRecursion IsName ns) (names_declared d rs is) (recursion_from_All IsName (map (λ o. o.name) d.operations) law.operation_names.each) in
    let rules = forms_keep_rules rs d is law in
    resources_named rs rn rules.laws on rules.paths
