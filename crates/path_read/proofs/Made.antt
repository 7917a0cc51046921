-- What is made of a file is lawful.
use Rattle.std.proofs.Common.{◌≡◌, ℕ, zero, suc, ◌+◌, ◌<◌, ◌≤◌, List, [], ◌∷◌, ◌++◌, length, get_or, map, take, refl, sym, ap, ◌∙◌, subst, append_assoc, arith, Contains, Option, slice_get, Some, None, Bool, true, false, cond, inl, inr, one-add}
use Rattle.std.specs.List.{AllByRecursion, prefix_len, All}
use Rattle.std.proofs.lemmas.List.{length-map, length-append, map-append, get_or_append_left, get_or-append-add}
use Rattle.std.proofs.lemmas.List.Elements.{All-from_recursion}
use Rattle.std.proofs.lemmas.Option.{slice_get_within, get_or_from_slice_get, same_Some}
use Rattle.path_model.specs.declared.ids.OpId.{OpId}
use Rattle.path_model.specs.Trees.{Tree, Names, NoRepeats, BoundAdmits, NoBraces, NoNesting, FewAtOnce, burst, WellFormed}
use Rattle.path_model.specs.Legal.{numbered, Every}
use Rattle.path_model.specs.Declarations.{Resource, Operation, Path, Declaration}
use Rattle.path_lex.specs.declared.token.Reserved.{Reserved}
use Rattle.path_lex.specs.Bytes.{is_word_byte}
use Rattle.path_lex.specs.Names.{reserved_of, IsWordText, IsName}
use Rattle.path_lex.specs.Spelling.{Piece, sign, reserved, name, number, Placed, pieces, word_or, Spells, by_end, by_space, by_mark, by_word, by_number, IsWithinPiece, AreWithin, AreTokensOf}
use Rattle.path_decl.specs.Forms.{Form, once, sequence, selection, braced, LawForm, a_cell, a_tally, a_queue, ResourceForm, names_in, all_operations, all_paths, LawFits, BoundFits}
use Rattle.path_decl.specs.Grammar.{IsClosing, by_brace, by_bound, IsUnit, by_name, by_group, by_braces, IsAlt, by_units, MoreUnits, no_unit, one_unit, IsSeq, by_alts, MoreAlts, no_alt, one_alt, by_path, ArePaths, no_path, one_path, AreNames, last_name, one_name, IsLaw, by_cell, by_tally, by_queue, IsResource, by_resource, IsFile, last_resource, one_resource}
use Rattle.path_decl.specs.Lawful.{IsDistinct}
use Rattle.path_read.proofs.FormRules.{BracesFit, KeepsRules}
use Rattle.path_decl.specs.Declares.{operations_from}
use Rattle.path_read.specs.Inner.Building.{operation_names, law_from, bound_of}
use Rattle.path_decl.specs.Lawful.{names_count, NamesOwn, AreDistinctNames, CapacityFits, Lawful}
use Rattle.path_read.proofs.NumeralLemmas.{value_of}
use Rattle.path_read.proofs.Taken.{each-append, each_front, each_back, each_then, tree_in, IsOwn, fresh_distinct}
use Rattle.path_read.proofs.Files.{resource_from, owned, made_path, made_paths, PathFits, PathsFit, FileFits, names_owned}
use Rattle.path_read.proofs.Ruled.{distinct_front, distinct_tail}

-- a piece that is a name is a good one
abbrev pub IsGood : Piece → Type 0
IsGood (sign s) = Unit {0}
IsGood (reserved r) = Unit {0}
IsGood (name w) = IsName w
IsGood (number n) = Unit {0}

good_or : (w : List ℕ) (o : Option Reserved) → reserved_of w ≡ o → IsWordText w → IsWithinPiece (word_or o w) → IsGood (word_or o w)
good_or w (Some r) e t h = tt
good_or w None e t h = record { word = t; short = h; free = e }

one_passes : (p : ℕ → Bool) (b : ℕ) (bs : List ℕ) (t : Bool) → p b ≡ t → AllByRecursion (λ c. p c ≡ true) (take (prefix_len p bs) bs) → AllByRecursion (λ c. p c ≡ true) (take (cond t (1 + prefix_len p bs) 0) (b ∷ bs))
one_passes p b bs true e h = rw (one-add (prefix_len p bs)) (e, h)
one_passes p b bs false e h = tt

passes : (p : ℕ → Bool) (bs : List ℕ) → AllByRecursion (λ c. p c ≡ true) (take (prefix_len p bs) bs)
passes p [] = tt
passes p (b ∷ bs) = one_passes p b bs (p b) refl (passes p bs)

-- the names that a text is made of are names
spells_good : {at : ℕ} {s : List ℕ} {ts : List Placed} → Spells at s ts → AreWithin ts → AllByRecursion IsGood (pieces ts)
spells_good by_end w = tt
spells_good (by_space e r) w = spells_good r w
spells_good (by_mark e r) w = (tt, spells_good r w.1)
spells_good (by_word {b} {bs} e r) w = (good_or _ (reserved_of _) refl (e, passes is_word_byte bs) w.0, spells_good r w.1)
spells_good (by_number e r) w = (tt, spells_good r w.1)

abbrev Good : List Piece → Type 0
Good ts = AllByRecursion IsGood ts

closing_rest : {ts rest : List Piece} {b : Option (List ℕ)} → IsClosing ts rest b → Good ts → Good rest
closing_rest by_brace g = g.1
closing_rest by_bound g = g.1.1.1

mutual
  unit_rest : {d : ℕ} {ts rest : List Piece} {t : Form} → IsUnit d ts rest t → Good ts → Good rest
  unit_rest by_name g = g.1
  unit_rest (by_group s) g = let r = seq_rest s g.1 in r.1
  unit_rest (by_braces s c) g = closing_rest c (seq_rest s g.1)

  alt_rest : {d : ℕ} {ts rest : List Piece} {t : Form} → IsAlt d ts rest t → Good ts → Good rest
  alt_rest (by_units u m) g = units_rest m (unit_rest u g)

  units_rest : {d : ℕ} {s t : Form} {ts rest : List Piece} → MoreUnits d s ts rest t → Good ts → Good rest
  units_rest no_unit g = g
  units_rest (one_unit u m) g = units_rest m (unit_rest u g.1)

  seq_rest : {d : ℕ} {ts rest : List Piece} {t : Form} → IsSeq d ts rest t → Good ts → Good rest
  seq_rest (by_alts a m) g = alts_rest m (alt_rest a g)

  alts_rest : {d : ℕ} {s t : Form} {ts rest : List Piece} → MoreAlts d s ts rest t → Good ts → Good rest
  alts_rest no_alt g = g
  alts_rest (one_alt a m) g = alts_rest m (alt_rest a g.1)

paths_rest : {ts rest : List Piece} {ps : List Form} → ArePaths ts rest ps → Good ts → Good rest
paths_rest no_path g = g
paths_rest (one_path (by_path s) ps) g = let r = seq_rest s g.1 in paths_rest ps r.1

names_good : {ts rest : List Piece} {ns : List (List ℕ)} → AreNames ts rest ns → Good ts → AllByRecursion IsName ns × Good rest
names_good last_name g = ((g.0, tt), g.1)
names_good (one_name m) g = let r = names_good m g.1.1 in ((g.0, r.0), r.1)

law_rest : {ts rest : List Piece} {l : LawForm} → IsLaw ts rest l → Good ts → Good rest
law_rest by_cell g = g.1
law_rest by_tally g = g.1
law_rest by_queue g = g.1.1

resource_good : {ts rest : List Piece} {r : ResourceForm} → IsResource ts rest r → Good ts → IsName r.name × AllByRecursion IsName r.operations × Good rest
resource_good (by_resource l ns ps) g =
    let w = law_rest l g.1.1 in
    let n = names_good ns w.1 in
    let r = paths_rest ps n.1 in
    (g.1.0, n.0, r.1)

file_good : {ts : List Piece} {rs : List ResourceForm} → IsFile ts rs → Good ts → AllByRecursion IsName (map (λ r. r.name) rs) × AllByRecursion IsName (all_operations rs)
file_good (last_resource {r} q) g = let x = resource_good q g in ((x.0, tt), each-append IsName r.operations [] x.1 tt)
file_good (one_resource {r} {rs} q m) g =
    let x = resource_good q g in
    let y = file_good m x.2 in ((x.0, y.0), each-append IsName r.operations (all_operations rs) x.1 y.1)

pub good_names : (s : List ℕ) (ts : List Placed) (rs : List ResourceForm) → AreTokensOf s ts → IsFile (pieces ts) rs → AllByRecursion IsName (map (λ r. r.name) rs) × AllByRecursion IsName (all_operations rs)
good_names s ts rs a f = file_good f (spells_good a.spelled a.within)

-- the trees of forms
tree_plain : (O : List Operation) (f : Form) (b : ℕ) → 0 < b → BracesFit b f → NoBraces (tree_in O f)
tree_plain O (once n) b lt h = tt
tree_plain O (sequence s t) b lt h = (tree_plain O s b lt h.0, tree_plain O t b lt h.1)
tree_plain O (selection s t) b lt h = (tree_plain O s b lt h.0, tree_plain O t b lt h.1)
tree_plain O (braced c s) b lt h = absurd (omega (arith, lt, h.0))

bound_room : (c : Option (List ℕ)) → BoundFits c → BoundAdmits (bound_of c) 0
bound_room None h = tt
bound_room (Some ds) h = omega (arith, value_of ds h.number h.denoted h.within, h.positive)

tree_flat : (O : List Operation) (f : Form) (b : ℕ) → BracesFit b f → NoNesting (tree_in O f)
tree_flat O (once n) b h = tt
tree_flat O (sequence s t) b h = (tree_flat O s b h.0, tree_flat O t b h.1)
tree_flat O (selection s t) b h = (tree_flat O s b h.0, tree_flat O t b h.1)
tree_flat O (braced c s) b h = (tree_plain O s (b + 1) (omega arith) h.1, bound_room c h.2)

few_in : (c : Option (List ℕ)) (t : Tree) → BoundFits c → FewAtOnce t → FewAtOnce (burst (bound_of c) t)
few_in None t h f = f
few_in (Some ds) t h f = (omega (arith, value_of ds h.number h.denoted h.within, h.within), f)

tree_bounded : (O : List Operation) (f : Form) (b : ℕ) → BracesFit b f → FewAtOnce (tree_in O f)
tree_bounded O (once n) b h = tt
tree_bounded O (sequence s t) b h = (tree_bounded O s b h.0, tree_bounded O t b h.1)
tree_bounded O (selection s t) b h = (tree_bounded O s b h.0, tree_bounded O t b h.1)
tree_bounded O (braced c s) b h = few_in c (tree_in O s) h.2 (tree_bounded O s (b + 1) h.1)

tree_names : (O : List Operation) (f : Form) → names_count (tree_in O f) ≡ length (names_in f)
tree_names O (once n) = refl
tree_names O (sequence s t) = simp length-append (omega (arith, tree_names O s, tree_names O t))
tree_names O (selection s t) = simp length-append (omega (arith, tree_names O s, tree_names O t))
tree_names O (braced b s) = tree_names O s

-- an operation of a tree, by its name
pub record IsNamed (O : List Operation) (k : ℕ) (ns : List (List ℕ)) (a : OpId) : Type 0 where
  pub called : List ℕ
  pub stands : slice_get O a.0 ≡ Some (record { name = called; resource = k })
  pub among : Contains ns called

contains_front : (xs ys : List (List ℕ)) (n : List ℕ) → Contains xs n → Contains (xs ++ ys) n
contains_front xs ys n c = (c.0, simp length-append (omega (arith, c.1)), get_or_append_left xs ys n c.0 c.1 ∙ c.2)

contains_back : (xs ys : List (List ℕ)) (n : List ℕ) → Contains ys n → Contains (xs ++ ys) n
contains_back [] ys n c = c
contains_back (x ∷ xs) ys n c = let r = contains_back xs ys n c in (suc r.0, omega (arith, r.1), r.2)

tree_named : (O : List Operation) (k : ℕ) (f : Form) → AllByRecursion (IsOwn O k) (names_in f) → (a : OpId) → Names (tree_in O f) a → IsNamed O k (names_in f) a
tree_named O k (once n) h a e = record { called = n; stands = ap (λ x. slice_get O x.0) e ∙ h.0; among = (0, omega arith, refl) }
tree_named O k (sequence s t) h a (inl e) = let r = tree_named O k s (each_front (IsOwn O k) (names_in s) (names_in t) h) a e in record { called = r.called; stands = r.stands; among = contains_front (names_in s) (names_in t) r.called r.among }
tree_named O k (sequence s t) h a (inr e) = let r = tree_named O k t (each_back (IsOwn O k) (names_in s) (names_in t) h) a e in record { called = r.called; stands = r.stands; among = contains_back (names_in s) (names_in t) r.called r.among }
tree_named O k (selection s t) h a (inl e) = let r = tree_named O k s (each_front (IsOwn O k) (names_in s) (names_in t) h) a e in record { called = r.called; stands = r.stands; among = contains_front (names_in s) (names_in t) r.called r.among }
tree_named O k (selection s t) h a (inr e) = let r = tree_named O k t (each_back (IsOwn O k) (names_in s) (names_in t) h) a e in record { called = r.called; stands = r.stands; among = contains_back (names_in s) (names_in t) r.called r.among }
tree_named O k (braced b s) h a e = tree_named O k s h a e

distinct_back : (xs ys : List (List ℕ)) → IsDistinct (xs ++ ys) → IsDistinct ys
distinct_back [] ys d = d
distinct_back (x ∷ xs) ys d = distinct_back xs ys (distinct_tail x (xs ++ ys) d)

in_both : (xs ys : List (List ℕ)) (n : List ℕ) → IsDistinct (xs ++ ys) → Contains xs n → Contains ys n → ⊥
in_both xs ys n d a b =
    let lt : a.0 < length xs + b.0 = omega (arith, a.1) in
    let long : length xs + b.0 < length (xs ++ ys) = simp length-append (omega (arith, b.1)) in
    let minus : get_or (xs ++ ys) (length xs + b.0) n ≡ n = get_or-append-add xs ys b.0 n ∙ b.2 in
    d a.0 (length xs + b.0) n lt long (get_or_append_left xs ys n a.0 a.1 ∙ a.2 ∙ sym minus)

apart_named : (O : List Operation) (k : ℕ) (xs ys : List (List ℕ)) → IsDistinct (xs ++ ys) → (a : OpId) → IsNamed O k xs a → IsNamed O k ys a → ⊥
apart_named O k xs ys d a x y =
    let e : x.called ≡ y.called = ap (λ o. o.name) (same_Some _ _ (sym x.stands ∙ y.stands)) in
    in_both xs ys x.called d x.among (subst (Contains ys) (sym e) y.among)

tree_once : (O : List Operation) (k : ℕ) (f : Form) → AllByRecursion (IsOwn O k) (names_in f) → IsDistinct (names_in f) → NoRepeats (tree_in O f)
tree_once O k (once n) h d = tt
tree_once O k (sequence s t) h d =
    let a = each_front (IsOwn O k) (names_in s) (names_in t) h in
    let b = each_back (IsOwn O k) (names_in s) (names_in t) h in
    (tree_once O k s a (distinct_front (names_in s) (names_in t) d), tree_once O k t b (distinct_back (names_in s) (names_in t) d), λ o x y. apart_named O k (names_in s) (names_in t) d o (tree_named O k s a o x) (tree_named O k t b o y))
tree_once O k (selection s t) h d =
    let a = each_front (IsOwn O k) (names_in s) (names_in t) h in
    let b = each_back (IsOwn O k) (names_in s) (names_in t) h in
    (tree_once O k s a (distinct_front (names_in s) (names_in t) d), tree_once O k t b (distinct_back (names_in s) (names_in t) d), λ o x y. apart_named O k (names_in s) (names_in t) d o (tree_named O k s a o x) (tree_named O k t b o y))
tree_once O k (braced b s) h d = tree_once O k s h d

-- what holds of a path that was made
pub record PathFacts (all : List Operation) (n : ℕ) (p : Path) : Type 0 where
  pub bounded : FewAtOnce p.tree
  pub flat : NoNesting p.tree
  pub once : NoRepeats p.tree
  pub few : names_count p.tree ≤ 64
  pub within : p.resource < n
  pub own : (a : OpId) → Names p.tree a → (m : List ℕ) × (slice_get all a.0 ≡ Some (record { name = m; resource = p.resource }))

got_front : (xs ys : List Operation) (i : ℕ) (o : Operation) → slice_get xs i ≡ Some o → slice_get (xs ++ ys) i ≡ Some o
got_front [] ys i o e = absurd (cc)
got_front (x ∷ xs) ys zero o e = e
got_front (x ∷ xs) ys (suc i) o e = got_front xs ys i o e

one_made : (all O rest : List Operation) (n k : ℕ) (f : Form) → all ≡ O ++ rest → k < n → PathFits O k f → PathFacts all n (made_path O k f)
one_made all O rest n k f e lt h =
    let none : IsDistinct [] = λ i j x a b. absurd (omega arith) in
    let r = fresh_distinct 64 [] (names_in f) none (omega arith) h.0.1 in
    record {
      bounded = tree_bounded O f 0 h.1;
      flat = tree_flat O f 0 h.1;
      once = tree_once O k f h.0.0 r.0;
      few = omega (arith, tree_names O f, r.1);
      within = lt;
      own = λ a x. let m = tree_named O k f h.0.0 a x in (m.called, ap (λ os. slice_get os a.0) e ∙ got_front O rest a.0 (record { name = m.called; resource = k }) m.stands);
    }

some_made : (all O rest : List Operation) (n k : ℕ) (fs : List Form) → all ≡ O ++ rest → k < n → PathsFit O k fs → AllByRecursion (PathFacts all n) (map (made_path O k) fs)
some_made all O rest n k [] e lt h = tt
some_made all O rest n k (f ∷ fs) e lt h = (one_made all O rest n k f e lt h.0, some_made all O rest n k fs e lt h.1)

all_made : (all : List Operation) (n : ℕ) (qs : List ResourceForm) (O : List Operation) (k : ℕ) → all ≡ O ++ operations_from k qs → k + length qs ≤ n → FileFits O k qs → AllByRecursion (PathFacts all n) (made_paths O k qs)
all_made all n [] O k e le h = tt
all_made all n (q ∷ qs) O k e le h =
    let O1 : List Operation = O ++ owned k q.operations in
    let f : all ≡ O1 ++ operations_from (k + 1) qs = e ∙ sym (append_assoc O (owned k q.operations) (operations_from (k + 1) qs)) in
    each-append (PathFacts all n) (map (made_path O1 k) q.paths) (made_paths O1 (k + 1) qs) (some_made all O1 (operations_from (k + 1) qs) n k q.paths f (omega arith) h.0) (all_made all n qs O1 (k + 1) f (omega arith) h.1)

owned_within : (n k : ℕ) (os : List (List ℕ)) → k < n → AllByRecursion (λ o. o.resource < n) (owned k os)
owned_within n k [] lt = tt
owned_within n k (o ∷ os) lt = (lt, owned_within n k os lt)

operations_within : (n : ℕ) (qs : List ResourceForm) (k : ℕ) → k + length qs ≤ n → AllByRecursion (λ o. o.resource < n) (operations_from k qs)
operations_within n [] k le = tt
operations_within n (q ∷ qs) k le = each-append (λ o. o.resource < n) (owned k q.operations) (operations_from (k + 1) qs) (owned_within n k q.operations (omega arith)) (operations_within n qs (k + 1) (omega arith))

pub operations_named : (qs : List ResourceForm) (k : ℕ) → operation_names (operations_from k qs) ≡ all_operations qs
operations_named [] k = refl
operations_named (q ∷ qs) k = map-append (λ o. o.name) (owned k q.operations) (operations_from (k + 1) qs) ∙ ap (λ x. x ++ operation_names (operations_from (k + 1) qs)) (names_owned k q.operations) ∙ ap (λ x. q.operations ++ x) (operations_named qs (k + 1))

pub resources_named : (qs : List ResourceForm) → map (λ r. r.name) (map resource_from qs) ≡ map (λ q. q.name) qs
resources_named [] = refl
resources_named (q ∷ qs) = ap (λ x. q.name ∷ x) (resources_named qs)

law_fits : (l : LawForm) → LawFits l → CapacityFits (law_from l)
law_fits a_cell h = tt
law_fits a_tally h = tt
law_fits (a_queue ds) h =
    let e = value_of ds h.number h.denoted (omega (arith, h.within)) in
    (omega (arith, e, h.positive), omega (arith, e, h.within))

laws_fit : (qs : List ResourceForm) → AllByRecursion (λ q. LawFits q.law) qs → AllByRecursion (λ r. CapacityFits r.law) (map resource_from qs)
laws_fit [] h = tt
laws_fit (q ∷ qs) h = (law_fits q.law h.0, laws_fit qs h.1)

made_length : (qs : List ResourceForm) (O : List Operation) (k : ℕ) → length (made_paths O k qs) ≡ length (all_paths qs)
made_length [] O k = refl
made_length (q ∷ qs) O k =
    let a : length (map (made_path (O ++ owned k q.operations) k) q.paths) ≡ length q.paths = simp length-map in
    let b = made_length qs (O ++ owned k q.operations) (k + 1) in
    length-append (map (made_path (O ++ owned k q.operations) k) q.paths) (made_paths (O ++ owned k q.operations) (k + 1) qs) ∙ ap (λ x. x + length (made_paths (O ++ owned k q.operations) (k + 1) qs)) a ∙ ap (λ x. length q.paths + x) b ∙ sym (length-append q.paths (all_paths qs))

every_tree : (P : Tree → Type 0) (n : ℕ) (ps : List Path) → AllByRecursion (λ p. P p.tree) ps → Every P (numbered n (map (λ p. p.tree) ps))
every_tree P n [] h = tt
every_tree P n (p ∷ ps) h = (h.0, every_tree P (n + 1) ps h.1)

-- the declaration that a file makes
abbrev pub made : List ResourceForm → Declaration
made qs = record { resources = map resource_from qs; operations = operations_from 0 qs; paths = made_paths [] 0 qs }

names_own : (qs : List ResourceForm) (p : Path) → PathFacts (operations_from 0 qs) (length qs) p → NamesOwn (made qs) p
names_own qs p h = λ a x.
    let m = h.own a x in
    (slice_get_within (operations_from 0 qs) a.0 (record { name = m.0; resource = p.resource }) m.1, ap (λ o. o.resource) (get_or_from_slice_get (operations_from 0 qs) a.0 (record { name = m.0; resource = p.resource }) (record { name = []; resource = 0 }) m.1))

pub made_lawful : (qs : List ResourceForm) → KeepsRules qs → FileFits [] 0 qs → AllByRecursion IsName (map (λ q. q.name) qs) → AllByRecursion IsName (all_operations qs) → Lawful (made qs)
made_lawful qs r h rn on =
    let all : List Operation = operations_from 0 qs in
    let n : ℕ = length qs in
    let facts = all_made all n qs [] 0 refl (omega arith) h in
    let ps : List Path = made_paths [] 0 qs in
    let rs : List Resource = map resource_from qs in
    let few_r : length rs ≤ 64 = simp length-map r.few_resources in
    let len : length rs ≡ n = simp length-map in
    let names : length (operation_names all) ≡ length all = simp length-map in
    let count : length (operation_names all) ≡ length (all_operations qs) = ap length (operations_named qs 0) in
    record {
      well_formed = every_tree WellFormed 0 ps (each_then (PathFacts all n) (λ p. WellFormed p.tree) (λ p f. record { names_once = f.once; not_nested = f.flat }) ps facts);
      bounded = every_tree FewAtOnce 0 ps (each_then (PathFacts all n) (λ p. FewAtOnce p.tree) (λ p f. f.bounded) ps facts);
      named = All-from_recursion (NamesOwn (made qs)) ps (each_then (PathFacts all n) (NamesOwn (made qs)) (names_own qs) ps facts);
      operations = subst (λ m. All (λ o. o.resource < m) all) (sym len) (All-from_recursion (λ o. o.resource < n) all (operations_within n qs 0 (omega arith)));
      paths = subst (λ m. All (λ p. p.resource < m) ps) (sym len) (All-from_recursion (λ p. p.resource < n) ps (each_then (PathFacts all n) (λ p. p.resource < n) (λ p f. f.within) ps facts));
      capacities = All-from_recursion (λ x. CapacityFits x.law) rs (laws_fit qs r.laws);
      few_resources = few_r;
      few_operations = omega (arith, r.few_operations);
      few_paths = subst (λ m. m ≤ 256) (sym (made_length qs [] 0)) r.few_paths;
      few_names = All-from_recursion (λ p. names_count p.tree ≤ 64) ps (each_then (PathFacts all n) (λ p. names_count p.tree ≤ 64) (λ p f. f.few) ps facts);
      operation_names = subst AreDistinctNames (sym (operations_named qs 0)) (record { each = All-from_recursion IsName (all_operations qs) on; distinct = r.operations });
      resource_names = subst AreDistinctNames (sym (resources_named qs)) (record { each = All-from_recursion IsName (map (λ q. q.name) qs) rn; distinct = r.resources });
    }
