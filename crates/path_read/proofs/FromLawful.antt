-- The forms of a lawful declaration keep the rules.
use Rattle.std.proofs.Common.{◌≡◌, ℕ, zero, suc, ◌+◌, ◌<◌, ◌≤◌, List, [], ◌∷◌, ◌++◌, length, get_or, map, refl, sym, ap, ◌∙◌, subst, append_assoc, arith, Contains, slice_get, Option, Some, None, option_map, inl, inr}
use Rattle.std.specs.List.{AllByRecursion}
use Rattle.std.proofs.lemmas.List.{length-append, length-map}
use Rattle.std.proofs.lemmas.List.Elements.{Contains-append_cases, Contains-get_or, recursion_from_All}
use Rattle.std.proofs.lemmas.Option.{slice_get-map, slice_get-get_or, same_Some}
use Rattle.path_model.specs.declared.ids.OpId.{OpId}
use Rattle.path_model.specs.declared.resource.Law.{Law}
use Rattle.path_model.specs.declared.resource.Law.TheVariants.{Queue}
use Rattle.path_model.specs.Trees.{Bound, any, most, BoundAdmits, Tree, op, seq, alt, burst, Names, NoRepeats, NoBraces, NoNesting, FewAtOnce, WellFormed}
use Rattle.path_model.specs.Legal.{numbered, Every}
use Rattle.path_model.specs.Declarations.{Resource, Operation, Path, Declaration}
use Rattle.path_decl.specs.Forms.{Form, once, sequence, selection, braced, LawForm, a_cell, a_tally, a_queue, ResourceForm, names_in, all_operations, all_paths, LawFits, BoundFits}
use Rattle.path_decl.specs.Lawful.{IsDistinct, names_count, NamesOwn, CapacityFits, Lawful}
use Rattle.path_decl.specs.Declares.{IsBound, IsLawOf, Numbers, AreResourcesOf, operations_from, paths_from, ArePathsOf, Declares}
use Rattle.path_read.specs.Inner.Building.{operation_names}
use Rattle.path_read.proofs.FormRules.{BracesFit, KeepsPathRules, PathsKeepRules, KeepsRules}
use Rattle.path_read.proofs.Taken.{each-append}
use Rattle.path_read.proofs.Files.{owned}
use Rattle.path_read.proofs.Ruled.{get_either, each_get, Below, below_more, owned_has, distinct_tail, one_number, none_distinct}
use Rattle.path_read.proofs.Made.{operations_named}

distinct_cons : (x : List ℕ) (xs : List (List ℕ)) → IsDistinct xs → (Contains xs x → ⊥) → IsDistinct (x ∷ xs)
distinct_cons x xs d new zero zero y lt le e = absurd (omega arith)
distinct_cons x xs d new zero (suc j) y lt le e = new (subst (Contains xs) (sym e) (Contains-get_or xs j y (omega arith)))
distinct_cons x xs d new (suc i) zero y lt le e = absurd (omega arith)
distinct_cons x xs d new (suc i) (suc j) y lt le e = d i j y (omega arith) (omega arith) e

first_new : (x : List ℕ) (xs : List (List ℕ)) → IsDistinct (x ∷ xs) → Contains xs x → ⊥
first_new x xs d c = d 0 (suc c.0) x (omega arith) (omega (arith, c.1)) (sym c.2)

distinct_both : (xs ys : List (List ℕ)) → IsDistinct xs → IsDistinct ys → ((n : List ℕ) → Contains xs n → Contains ys n → ⊥) → IsDistinct (xs ++ ys)
distinct_both [] ys d e apart = e
distinct_both (x ∷ xs) ys d e apart =
    distinct_cons x (xs ++ ys) (distinct_both xs ys (distinct_tail x xs d) e (λ n a b. apart n (suc a.0, omega (arith, a.1), a.2) b)) (λ c. elim (Contains-append_cases xs ys x c) [
      | inl a ↦ first_new x xs d a
      | inr b ↦ apart x (0, omega arith, refl) b
    ])

only_one : (m n : List ℕ) → Contains (m ∷ []) n → m ≡ n
only_one m n (zero, lt, e) = e
only_one m n (suc k, lt, e) = absurd (omega arith)

-- the operation of a tree that has a name of its form
record NamedBy (ns : List (List ℕ)) (t : Tree) (n : List ℕ) : Type 0 where
  pub called : OpId
  pub names : Names t called
  pub stands : slice_get ns called.0 ≡ Some n

name_called : (ns : List (List ℕ)) (f : Form) (t : Tree) → Numbers ns f t → (n : List ℕ) → Contains (names_in f) n → NamedBy ns t n
name_called ns (once m) (op a) h n c = record { called = a; names = refl; stands = h ∙ ap Some (only_one m n c) }
name_called ns (once m) t h n c = absurd h
name_called ns (sequence f g) (seq s t) h n c = elim (Contains-append_cases (names_in f) (names_in g) n c) [
  | inl a ↦ let r = name_called ns f s h.0 n a in record { called = r.called; names = inl r.names; stands = r.stands }
  | inr b ↦ let r = name_called ns g t h.1 n b in record { called = r.called; names = inr r.names; stands = r.stands }
]
name_called ns (sequence f g) t h n c = absurd h
name_called ns (selection f g) (alt s t) h n c = elim (Contains-append_cases (names_in f) (names_in g) n c) [
  | inl a ↦ let r = name_called ns f s h.0 n a in record { called = r.called; names = inl r.names; stands = r.stands }
  | inr b ↦ let r = name_called ns g t h.1 n b in record { called = r.called; names = inr r.names; stands = r.stands }
]
name_called ns (selection f g) t h n c = absurd h
name_called ns (braced b f) (burst d s) h n c = let r = name_called ns f s h.1 n c in record { called = r.called; names = r.names; stands = r.stands }
name_called ns (braced b f) t h n c = absurd h

apart_names : (ns : List (List ℕ)) → IsDistinct ns → (f g : Form) (s t : Tree) → Numbers ns f s → Numbers ns g t → ((a : OpId) → Names s a → Names t a → ⊥) → (n : List ℕ) → Contains (names_in f) n → Contains (names_in g) n → ⊥
apart_names ns d f g s t h k apart n a b =
    let x = name_called ns f s h n a in
    let y = name_called ns g t k n b in
    apart y.called (subst (Names s) (one_number ns n x.called y.called d x.stands y.stands) x.names) y.names

-- without repeats in the tree no name stands twice
form_once : (ns : List (List ℕ)) → IsDistinct ns → (f : Form) (t : Tree) → Numbers ns f t → NoRepeats t → IsDistinct (names_in f)
form_once ns d (once n) t h r = distinct_cons n [] none_distinct (λ c. absurd (omega (arith, c.1)))
form_once ns d (sequence f g) (seq s t) h r = distinct_both (names_in f) (names_in g) (form_once ns d f s h.0 r.0) (form_once ns d g t h.1 r.1) (apart_names ns d f g s t h.0 h.1 r.2)
form_once ns d (sequence f g) t h r = absurd h
form_once ns d (selection f g) (alt s t) h r = distinct_both (names_in f) (names_in g) (form_once ns d f s h.0 r.0) (form_once ns d g t h.1 r.1) (apart_names ns d f g s t h.0 h.1 r.2)
form_once ns d (selection f g) t h r = absurd h
form_once ns d (braced b f) (burst e s) h r = form_once ns d f s h.1 r
form_once ns d (braced b f) t h r = absurd h

form_count : (ns : List (List ℕ)) (f : Form) (t : Tree) → Numbers ns f t → length (names_in f) ≡ names_count t
form_count ns (once n) (op a) h = refl
form_count ns (once n) t h = absurd h
form_count ns (sequence f g) (seq s t) h = simp length-append (omega (arith, form_count ns f s h.0, form_count ns g t h.1))
form_count ns (sequence f g) t h = absurd h
form_count ns (selection f g) (alt s t) h = simp length-append (omega (arith, form_count ns f s h.0, form_count ns g t h.1))
form_count ns (selection f g) t h = absurd h
form_count ns (braced b f) (burst e s) h = form_count ns f s h.1
form_count ns (braced b f) t h = absurd h

form_each : (ns : List (List ℕ)) (P : List ℕ → Type 0) (f : Form) (t : Tree) → Numbers ns f t → ((a : OpId) (n : List ℕ) → Names t a → slice_get ns a.0 ≡ Some n → P n) → AllByRecursion P (names_in f)
form_each ns P (once n) (op a) h p = (p a n refl h, tt)
form_each ns P (once n) t h p = absurd h
form_each ns P (sequence f g) (seq s t) h p = each-append P (names_in f) (names_in g) (form_each ns P f s h.0 (λ a n x e. p a n (inl x) e)) (form_each ns P g t h.1 (λ a n x e. p a n (inr x) e))
form_each ns P (sequence f g) t h p = absurd h
form_each ns P (selection f g) (alt s t) h p = each-append P (names_in f) (names_in g) (form_each ns P f s h.0 (λ a n x e. p a n (inl x) e)) (form_each ns P g t h.1 (λ a n x e. p a n (inr x) e))
form_each ns P (selection f g) t h p = absurd h
form_each ns P (braced b f) (burst e s) h p = form_each ns P f s h.1 p
form_each ns P (braced b f) t h p = absurd h

-- the braces of a tree are those of its form
plain_braces : (ns : List (List ℕ)) (f : Form) (t : Tree) → Numbers ns f t → NoBraces t → (b : ℕ) → BracesFit b f
plain_braces ns (once n) t h p b = tt
plain_braces ns (sequence f g) (seq s t) h p b = (plain_braces ns f s h.0 p.0 b, plain_braces ns g t h.1 p.1 b)
plain_braces ns (sequence f g) t h p b = absurd h
plain_braces ns (selection f g) (alt s t) h p b = (plain_braces ns f s h.0 p.0 b, plain_braces ns g t h.1 p.1 b)
plain_braces ns (selection f g) t h p b = absurd h
plain_braces ns (braced c f) (burst e s) h p b = absurd p
plain_braces ns (braced c f) t h p b = absurd h

bound_fits : (c : Option (List ℕ)) (b : Bound) (s : Tree) → IsBound c b → BoundAdmits b 0 → FewAtOnce (burst b s) → BoundFits c
bound_fits None b s h r f = tt
bound_fits (Some ds) any s h r f = absurd h
bound_fits (Some ds) (most n) s h r f = record { number = n; denoted = h; positive = r; within = f.0 }

form_braces : (ns : List (List ℕ)) (f : Form) (t : Tree) → Numbers ns f t → NoNesting t → FewAtOnce t → BracesFit 0 f
form_braces ns (once n) t h flat few = tt
form_braces ns (sequence f g) (seq s t) h flat few = (form_braces ns f s h.0 flat.0 few.0, form_braces ns g t h.1 flat.1 few.1)
form_braces ns (sequence f g) t h flat few = absurd h
form_braces ns (selection f g) (alt s t) h flat few = (form_braces ns f s h.0 flat.0 few.0, form_braces ns g t h.1 flat.1 few.1)
form_braces ns (selection f g) t h flat few = absurd h
form_braces ns (braced c f) (burst b s) h flat few = (refl, plain_braces ns f s h.1 flat.0 1, bound_fits c b s h.0 flat.1 few)
form_braces ns (braced c f) t h flat few = absurd h

-- the operations of later resources
owned_above : (k m : ℕ) (os : List (List ℕ)) → k < m → AllByRecursion (λ o. k < o.resource) (owned m os)
owned_above k m [] lt = tt
owned_above k m (o ∷ os) lt = (lt, owned_above k m os lt)

operations_above : (k m : ℕ) (qs : List ResourceForm) → k < m → AllByRecursion (λ o. k < o.resource) (operations_from m qs)
operations_above k m [] lt = tt
operations_above k m (q ∷ qs) lt = each-append (λ o. k < o.resource) (owned m q.operations) (operations_from (m + 1) qs) (owned_above k m q.operations lt) (operations_above k (m + 1) qs (omega arith))

-- an operation of resource k stands among those of that resource
own_name : (before : List Operation) (k : ℕ) (os : List (List ℕ)) (later : List ResourceForm) (i : ℕ) (n : List ℕ) → Below k before → slice_get (before ++ (owned k os ++ operations_from (k + 1) later)) i ≡ Some (record { name = n; resource = k }) → Contains os n
own_name before k os later i n b e = elim (get_either before (owned k os ++ operations_from (k + 1) later) i (record { name = n; resource = k }) e) [
  | inl f ↦ let lt : k < k = each_get (λ o. o.resource < k) before i (record { name = n; resource = k }) b f in absurd (omega arith)
  | inr f ↦ elim (get_either (owned k os) (operations_from (k + 1) later) f.0 (record { name = n; resource = k }) f.1) [
    | inl g ↦ owned_has k os f.0 n g
    | inr g ↦ let lt : k < k = each_get (λ o. k < o.resource) (operations_from (k + 1) later) g.0 (record { name = n; resource = k }) (operations_above k (k + 1) later (omega arith)) g.1 in absurd (omega arith)
  ]
]

same_operation : (o : Operation) (n : List ℕ) (k : ℕ) → o.name ≡ n → o.resource ≡ k → o ≡ record { name = n; resource = k }
same_operation o n k e f = ap (λ (m : List ℕ). record o { name = m }) e ∙ ap (λ (r : ℕ). record { name = n; resource = r }) f

-- what the rules say of a path
record PathKeeps (d : Declaration) (p : Path) : Type 0 where
  pub own : NamesOwn d p
  pub once : NoRepeats p.tree
  pub few : names_count p.tree ≤ 64
  pub flat : NoNesting p.tree
  pub bounded : FewAtOnce p.tree

keeps_all : (d : Declaration) (n : ℕ) (ps : List Path) → Every WellFormed (numbered n (map (λ p. p.tree) ps)) → Every FewAtOnce (numbered n (map (λ p. p.tree) ps)) → AllByRecursion (NamesOwn d) ps → AllByRecursion (λ p. names_count p.tree ≤ 64) ps → AllByRecursion (PathKeeps d) ps
keeps_all d n [] w b o f = tt
keeps_all d n (p ∷ ps) w b o f = (record { own = o.0; once = w.0.names_once; few = f.0; flat = w.0.not_nested; bounded = b.0 }, keeps_all d (n + 1) ps w.1 b.1 o.1 f.1)

module _ (d : Declaration) (ns : List (List ℕ)) (distinct : IsDistinct ns) (named : operation_names d.operations ≡ ns) where
  own_operation : (p : Path) (k : ℕ) → p.resource ≡ k → NamesOwn d p → (a : OpId) (n : List ℕ) → Names p.tree a → slice_get ns a.0 ≡ Some n → slice_get d.operations a.0 ≡ Some (record { name = n; resource = k })
  own_operation p k is own a n x e =
      let none : Operation = record { name = []; resource = 0 } in
      let o : Operation = get_or d.operations a.0 none in
      let got : slice_get d.operations a.0 ≡ Some o = slice_get-get_or d.operations a.0 none ((own a x).0) in
      let name : Some o.name ≡ Some n = sym (slice_get-map (λ o. o.name) d.operations a.0 ∙ ap (option_map (λ o. o.name)) got) ∙ ap (λ l. slice_get l a.0) named ∙ e in
      got ∙ ap Some (same_operation o n k (same_Some o.name n name) ((own a x).1 ∙ is))

  path_rules : (before : List Operation) (k : ℕ) (os : List (List ℕ)) (later : List ResourceForm) → d.operations ≡ before ++ (owned k os ++ operations_from (k + 1) later) → Below k before → (f : Form) (p : Path) → p.resource ≡ k → Numbers ns f p.tree → PathKeeps d p → KeepsPathRules os f
  path_rules before k os later all b f p is h keeps = record {
    declared = form_each ns (λ n. Contains os n) f p.tree h (λ a n x e. own_name before k os later a.0 n b (ap (λ l. slice_get l a.0) (sym all) ∙ own_operation p k is keeps.own a n x e));
    once = form_once ns distinct f p.tree h keeps.once;
    few = let count = form_count ns f p.tree h in let few = keeps.few in omega arith;
    braces = form_braces ns f p.tree h keeps.flat keeps.bounded;
  }

  resource_rules : (before : List Operation) (k : ℕ) (os : List (List ℕ)) (later : List ResourceForm) → d.operations ≡ before ++ (owned k os ++ operations_from (k + 1) later) → Below k before → (rest : List (ℕ × Form)) (fs : List Form) (ps : List Path) → ArePathsOf ns (map (λ f. (k, f)) fs ++ rest) ps → AllByRecursion (PathKeeps d) ps
      → AllByRecursion (KeepsPathRules os) fs × ((qs : List Path) × ArePathsOf ns rest qs × AllByRecursion (PathKeeps d) qs)
  resource_rules before k os later all b rest [] ps h w = (tt, (ps, h, w))
  resource_rules before k os later all b rest (f ∷ fs) [] h w = absurd h
  resource_rules before k os later all b rest (f ∷ fs) (p ∷ ps) h w =
      let r = resource_rules before k os later all b rest fs ps h.1 w.1 in
      ((path_rules before k os later all b f p h.0.0 h.0.1 w.0, r.0), r.1)

  all_rules : (before : List Operation) (k : ℕ) (rs : List ResourceForm) → d.operations ≡ before ++ operations_from k rs → Below k before → (ps : List Path) → ArePathsOf ns (paths_from k rs) ps → AllByRecursion (PathKeeps d) ps → PathsKeepRules rs
  all_rules before k [] all b ps h w = tt
  all_rules before k (r ∷ rs) all b ps h w =
      let here = resource_rules before k r.operations rs all b (paths_from (k + 1) rs) r.paths ps h w in
      (here.0, all_rules (before ++ owned k r.operations) (k + 1) rs (all ∙ sym (append_assoc before (owned k r.operations) (operations_from (k + 1) rs))) (below_more before k r.operations b) here.1.0 here.1.1 here.1.2)

paths_count : (k : ℕ) (rs : List ResourceForm) → length (paths_from k rs) ≡ length (all_paths rs)
paths_count k [] = refl
paths_count k (r ∷ rs) =
    let here : length (map (λ f. (k, f)) r.paths) ≡ length r.paths = length-map r.paths (λ f. (k, f)) in
    length-append (map (λ f. (k, f)) r.paths) (paths_from (k + 1) rs) ∙ ap (λ x. x + length (paths_from (k + 1) rs)) here ∙ ap (λ x. length r.paths + x) (paths_count (k + 1) rs) ∙ sym (length-append r.paths (all_paths rs))

as_many : (ns : List (List ℕ)) (fs : List (ℕ × Form)) (ps : List Path) → ArePathsOf ns fs ps → length fs ≡ length ps
as_many ns [] [] h = refl
as_many ns [] (p ∷ ps) h = absurd h
as_many ns (f ∷ fs) [] h = absurd h
as_many ns (f ∷ fs) (p ∷ ps) h = let rest = as_many ns fs ps h.1 in omega arith

-- the resources have the names of their forms
pub resources_called : (fs : List ResourceForm) (rs : List Resource) → AreResourcesOf fs rs → map (λ r. r.name) rs ≡ map (λ f. f.name) fs
resources_called [] [] h = refl
resources_called [] (r ∷ rs) h = absurd h
resources_called (f ∷ fs) [] h = absurd h
resources_called (f ∷ fs) (r ∷ rs) h = ap (λ n. n ∷ map (λ q. q.name) rs) h.0.0 ∙ ap (λ ns. f.name ∷ ns) (resources_called fs rs h.1)

-- a capacity that fits is denoted by digits that fit
law_kept : (f : LawForm) (l : Law) → IsLawOf f l → CapacityFits l → LawFits f
law_kept a_cell l h c = tt
law_kept a_tally l h c = tt
law_kept (a_queue ds) l h c = let fits : CapacityFits (Queue h.0) = subst CapacityFits h.2 c in record { number = h.0; denoted = h.1; positive = fits.0; within = fits.1 }

laws_kept : (fs : List ResourceForm) (rs : List Resource) → AreResourcesOf fs rs → AllByRecursion (λ r. CapacityFits r.law) rs → AllByRecursion (λ f. LawFits f.law) fs
laws_kept [] rs h c = tt
laws_kept (f ∷ fs) [] h c = absurd h
laws_kept (f ∷ fs) (r ∷ rs) h c = (law_kept f.law r.law h.0.1 c.0, laws_kept fs rs h.1 c.1)

names_declared : (rs : List ResourceForm) (d : Declaration) → Declares rs d → operation_names d.operations ≡ all_operations rs
names_declared rs d is = ap operation_names is.operations ∙ operations_named rs 0

pub distinct_operations : (rs : List ResourceForm) (d : Declaration) → Declares rs d → Lawful d → IsDistinct (all_operations rs)
distinct_operations rs d is law = subst IsDistinct (names_declared rs d is) law.operation_names.distinct

pub forms_keep_rules : (rs : List ResourceForm) (d : Declaration) → Declares rs d → Lawful d → KeepsRules rs
forms_keep_rules rs d is law =
    let distinct = distinct_operations rs d is law in
    let keeps = keeps_all d 0 d.paths law.well_formed law.bounded (recursion_from_All (NamesOwn d) d.paths law.named) (recursion_from_All (λ p. names_count p.tree ≤ 64) d.paths law.few_names) in
    let called = resources_called rs d.resources is.resources in
    let resources : length d.resources ≡ length rs = sym (length-map d.resources (λ r. r.name)) ∙ ap length called ∙ length-map rs (λ r. r.name) in
    let operations : length d.operations ≡ length (all_operations rs) = sym (length-map d.operations (λ o. o.name)) ∙ ap length (names_declared rs d is) in
    let paths : length (all_paths rs) ≡ length d.paths = sym (paths_count 0 rs) ∙ as_many (all_operations rs) (paths_from 0 rs) d.paths is.paths in
    record {
      resources = subst IsDistinct called law.resource_names.distinct;
      laws = laws_kept rs d.resources is.resources (recursion_from_All (λ r. CapacityFits r.law) d.resources law.capacities);
      operations = distinct;
      paths = all_rules d (all_operations rs) distinct (names_declared rs d is) [] 0 rs is.operations tt d.paths is.paths keeps;
      few_resources = let few = law.few_resources in omega arith;
      few_operations = let few = law.few_operations in omega arith;
      few_paths = let few = law.few_paths in omega arith;
    }
