-- The parts of a file are allowed if and only if its forms keep the rules.
use Rattle.std.proofs.Common.{◌≡◌, ℕ, zero, suc, ◌+◌, ◌<◌, ◌≤◌, List, [], ◌∷◌, ◌++◌, length, map, refl, sym, ap, ◌∙◌, subst, append_assoc, arith, Contains, slice_get, Some, option_map, Option, None, Bool, true, false, cond, ◌⊎◌, inl, inr}
use Rattle.std.specs.List.{AllByRecursion}
use Rattle.std.specs.Fmt.{decimal}
use Rattle.std.specs.Str.{bytes_eq}
use Rattle.std.proofs.lemmas.Slice.Eq.{bytes_eq-Decides}
use Rattle.std.proofs.lemmas.List.{length-map, length-append, get_or_append_left}
use Rattle.std.proofs.lemmas.Option.{slice_get-map, slice_get-get_or, slice_get_within, get_or_from_slice_get, same_Some}
use Rattle.path_model.specs.declared.ids.OpId.{OpId}
use Rattle.path_model.specs.declared.resource.Law.TheVariants.{Queue}
use Rattle.path_model.specs.Declarations.{Operation, Path}
use Rattle.path_decl.specs.Forms.{Form, once, sequence, selection, braced, LawForm, a_cell, a_tally, a_queue, ResourceForm, names_in, all_operations, LawFits, BoundFits}
use Rattle.path_read.specs.Inner.Parts.{file_parts}
use Rattle.path_decl.specs.Lawful.{IsDistinct}
use Rattle.path_read.proofs.FormRules.{BracesFit, KeepsPathRules, PathsKeepRules, KeepsRules}
use Rattle.path_decl.specs.Declares.{IsBound, IsLawOf, Numbers, AreResourcesOf, paths_from, ArePathsOf, Declares}
use Rattle.path_read.specs.Inner.Building.{Drafted, nothing, declared_by, operation_names, number_of, place_of, law_from, bound_of, AllAllowed, after_all}
use Rattle.path_read.proofs.NumeralLemmas.{value_of}
use Rattle.path_read.proofs.Taken.{each-append, each_front, each_back, each_then, fresh_distinct, distinct_fresh, tree_in, IsOwn}
use Rattle.path_read.proofs.Files.{resource_from, owned, made_path, made_paths, PathFits, PathsFit, FileFits, names_owned, names_with, after_file, file_kept, file_allowed}

get_front : {X : Type 0} (xs ys : List X) (i : ℕ) (x : X) → slice_get xs i ≡ Some x → slice_get (xs ++ ys) i ≡ Some x
get_front [] ys i x e = absurd (cc)
get_front (y ∷ xs) ys zero x e = e
get_front (y ∷ xs) ys (suc i) x e = get_front xs ys i x e

pub get_either : {X : Type 0} (xs ys : List X) (i : ℕ) (x : X) → slice_get (xs ++ ys) i ≡ Some x → (slice_get xs i ≡ Some x) ⊎ ((j : ℕ) × (slice_get ys j ≡ Some x))
get_either [] ys i x e = inr (i, e)
get_either (y ∷ xs) ys zero x e = inl e
get_either (y ∷ xs) ys (suc i) x e = get_either xs ys i x e

get_back : {X : Type 0} (xs ys : List X) (j : ℕ) (x : X) → slice_get ys j ≡ Some x → (i : ℕ) × (slice_get (xs ++ ys) i ≡ Some x)
get_back [] ys j x e = (j, e)
get_back (y ∷ xs) ys j x e = let r = get_back xs ys j x e in (suc r.0, r.1)

pub each_get : {X : Type 0} (P : X → Type 0) (xs : List X) (i : ℕ) (x : X) → AllByRecursion P xs → slice_get xs i ≡ Some x → P x
each_get P [] i x a e = absurd (cc)
each_get P (y ∷ xs) zero x a e = subst P (same_Some y x e) a.0
each_get P (y ∷ xs) (suc i) x a e = each_get P xs i x a.1 e

pub has_got : {X : Type 0} (xs : List X) (i : ℕ) (x : X) → slice_get xs i ≡ Some x → Contains xs x
has_got xs i x e = (i, slice_get_within xs i x e, get_or_from_slice_get xs i x x e)

pub got_of : {X : Type 0} (xs : List X) (x : X) → Contains xs x → (i : ℕ) × (slice_get xs i ≡ Some x)
got_of xs x c = (c.0, slice_get-get_or xs c.0 x c.1 ∙ ap Some c.2)

-- the operations so far belong to earlier resources
abbrev pub Below : ℕ → List Operation → Type 0
Below k O = AllByRecursion (λ o. o.resource < k) O

below_owned : (k : ℕ) (os : List (List ℕ)) → Below (k + 1) (owned k os)
below_owned k [] = tt
below_owned k (n ∷ os) = (omega arith, below_owned k os)

pub below_more : (O : List Operation) (k : ℕ) (os : List (List ℕ)) → Below k O → Below (k + 1) (O ++ owned k os)
below_more O k os b = each-append (λ o. o.resource < k + 1) O (owned k os) (each_then (λ o. o.resource < k) (λ o. o.resource < k + 1) (λ o h. omega arith) O b) (below_owned k os)

pub owned_has : (k : ℕ) (os : List (List ℕ)) (j : ℕ) (n : List ℕ) → slice_get (owned k os) j ≡ Some (record { name = n; resource = k }) → Contains os n
owned_has k os j n e =
    let names : slice_get (operation_names (owned k os)) j ≡ Some n = slice_get-map (λ o. o.name) (owned k os) j ∙ ap (option_map (λ o. o.name)) e in
    has_got os j n (ap (λ x. slice_get x j) (sym (names_owned k os)) ∙ names)

own_kept : (O : List Operation) (k : ℕ) (os : List (List ℕ)) → Below k O → (n : List ℕ) → IsOwn (O ++ owned k os) k n → Contains os n
own_kept O k os b n e = elim (get_either O (owned k os) (number_of (O ++ owned k os) n) (record { name = n; resource = k }) e) [
  | inl f ↦ let lt : k < k = each_get (λ o. o.resource < k) O _ (record { name = n; resource = k }) b f in absurd (omega arith)
  | inr f ↦ owned_has k os f.0 n f.1
]

pub distinct_tail : (m : List ℕ) (ns : List (List ℕ)) → IsDistinct (m ∷ ns) → IsDistinct ns
distinct_tail m ns d = λ i j x lt le e. d (suc i) (suc j) x (omega arith) (omega arith) e

first_apart : (m n : List ℕ) (ns : List (List ℕ)) (i : ℕ) → IsDistinct (m ∷ ns) → slice_get ns i ≡ Some n → n ≡ m → ⊥
first_apart m n ns i d e same = d 0 (suc i) n (omega arith) (omega (arith, slice_get_within ns i n e)) (sym same ∙ sym (get_or_from_slice_get ns i n n e))

place_later : (t : Bool) (i j : ℕ) → t ≡ false → i ≡ j → cond t 0 (1 + i) ≡ suc j
place_later true i j f e = absurd (cc)
place_later false i j f e = omega arith

not_same : (m n : List ℕ) (t : Bool) → bytes_eq n m ≡ t → (n ≡ m → ⊥) → t ≡ false
not_same m n true e ne = absurd (ne ((bytes_eq-Decides n m).0 e))
not_same m n false e ne = refl

pub place_at : (ns : List (List ℕ)) (i : ℕ) (n : List ℕ) → IsDistinct ns → slice_get ns i ≡ Some n → place_of n ns ≡ i
place_at [] i n d e = absurd (cc)
place_at (m ∷ ns) zero n d e = let t = (bytes_eq-Decides n m).1 (sym (same_Some m n e)) in rw t refl
place_at (m ∷ ns) (suc i) n d e = place_later (bytes_eq n m) (place_of n ns) i (not_same m n (bytes_eq n m) refl (first_apart m n ns i d e)) (place_at ns i n (distinct_tail m ns d) e)

-- a name has one number
pub one_number : (ns : List (List ℕ)) (n : List ℕ) (a b : OpId) → IsDistinct ns → slice_get ns a.0 ≡ Some n → slice_get ns b.0 ≡ Some n → a ≡ b
one_number ns n a b d e f = let same : a.0 ≡ b.0 = sym (place_at ns a.0 n d e) ∙ place_at ns b.0 n d f in ap (λ (i : ℕ). record { 0 = i }) same

pub distinct_front : (ms ns : List (List ℕ)) → IsDistinct (ms ++ ns) → IsDistinct ms
distinct_front ms ns d = λ i j x lt le e.
    let long : j < length (ms ++ ns) = simp length-append (omega arith) in
    d i j x lt long (get_or_append_left ms ns x i (omega arith) ∙ e ∙ sym (get_or_append_left ms ns x j le))

own_allowed : (O : List Operation) (k : ℕ) (os : List (List ℕ)) → IsDistinct (operation_names (O ++ owned k os)) → (n : List ℕ) → Contains os n → IsOwn (O ++ owned k os) k n
own_allowed O k os d n c =
    let all : List Operation = O ++ owned k os in
    let g = got_of os n c in
    let o : Operation = record { name = n; resource = k } in
    let here : slice_get (owned k os) g.0 ≡ Some o = slice_get-map (λ (x : List ℕ). record { name = x; resource = k }) os g.0 ∙ ap (option_map (λ (x : List ℕ). record { name = x; resource = k })) g.1 in
    let b = get_back O (owned k os) g.0 o here in
    let name : slice_get (operation_names all) b.0 ≡ Some n = slice_get-map (λ x. x.name) all b.0 ∙ ap (option_map (λ x. x.name)) b.1 in
    ap (slice_get all) (place_at (operation_names all) b.0 n d name) ∙ b.1

pub none_distinct : IsDistinct []
none_distinct = λ i j x lt le. absurd (omega arith)

path_kept : (O : List Operation) (k : ℕ) (os : List (List ℕ)) → Below k O → (f : Form) → PathFits (O ++ owned k os) k f → KeepsPathRules os f
path_kept O k os b f h =
    let r = fresh_distinct 64 [] (names_in f) none_distinct (omega arith) h.0.1 in
    record { declared = each_then (IsOwn (O ++ owned k os) k) (λ n. Contains os n) (own_kept O k os b) (names_in f) h.0.0; once = r.0; few = r.1; braces = h.1 }

path_fits : (O : List Operation) (k : ℕ) (os : List (List ℕ)) → IsDistinct (operation_names (O ++ owned k os)) → (f : Form) → KeepsPathRules os f → PathFits (O ++ owned k os) k f
path_fits O k os d f h = ((each_then (λ n. Contains os n) (IsOwn (O ++ owned k os) k) (own_allowed O k os d) (names_in f) h.declared, distinct_fresh 64 [] (names_in f) h.once h.few), h.braces)

paths_rules : (qs : List ResourceForm) (O : List Operation) (k : ℕ) → Below k O → FileFits O k qs → PathsKeepRules qs
paths_rules [] O k b h = tt
paths_rules (q ∷ qs) O k b h =
    (each_then (PathFits (O ++ owned k q.operations) k) (KeepsPathRules q.operations) (path_kept O k q.operations b) q.paths h.0, paths_rules qs (O ++ owned k q.operations) (k + 1) (below_more O k q.operations b) h.1)

paths_fit : (qs : List ResourceForm) (O : List Operation) (k : ℕ) → IsDistinct (operation_names O ++ all_operations qs) → PathsKeepRules qs → FileFits O k qs
paths_fit [] O k d h = tt
paths_fit (q ∷ qs) O k d h =
    let e = append_assoc (operation_names O) q.operations (all_operations qs) in
    let all : IsDistinct ((operation_names O ++ q.operations) ++ all_operations qs) = subst IsDistinct (sym e) d in
    let names = names_with O k q.operations in
    let here : IsDistinct (operation_names (O ++ owned k q.operations)) = subst IsDistinct (sym names) (distinct_front (operation_names O ++ q.operations) (all_operations qs) all) in (
      each_then (KeepsPathRules q.operations) (PathFits (O ++ owned k q.operations) k) (path_fits O k q.operations here) q.paths h.0,
      paths_fit qs (O ++ owned k q.operations) (k + 1) (subst (λ x. IsDistinct (x ++ all_operations qs)) (sym names) all) h.1,
    )

-- what is allowed keeps the rules
pub rules_kept : (qs : List ResourceForm) → AllAllowed (file_parts qs) nothing → KeepsRules qs
rules_kept qs a =
    let k = file_kept qs [] [] [] 0 (omega arith) a in
    let r = fresh_distinct 64 [] (map (λ q. q.name) qs) none_distinct (omega arith) k.resources in
    let o = fresh_distinct 256 [] (all_operations qs) none_distinct (omega arith) k.operations in
    let few : length qs ≤ 64 = simp length-map at r.1 in
    record { resources = r.0; laws = k.laws; operations = o.0; paths = paths_rules qs [] 0 tt k.paths; few_resources = few; few_operations = o.1; few_paths = omega (arith, k.room) }

-- what keeps the rules is allowed
pub rules_allow : (qs : List ResourceForm) → KeepsRules qs → AllAllowed (file_parts qs) nothing
rules_allow qs h =
    let few : length (map (λ q. q.name) qs) ≤ 64 = simp length-map h.few_resources in
    file_allowed qs [] [] [] 0 (record {
      resources = distinct_fresh 64 [] (map (λ q. q.name) qs) h.resources few;
      laws = h.laws;
      operations = distinct_fresh 256 [] (all_operations qs) h.operations h.few_operations;
      paths = paths_fit qs [] 0 h.operations h.paths;
      room = omega (arith, h.few_paths);
    })

-- the value of a bound is what its digits denote
pub number_denoted : (b : Option (List ℕ)) → BoundFits b → IsBound b (bound_of b)
number_denoted None h = tt
number_denoted (Some ds) h = subst (λ n. ds ≡ decimal n) (sym (value_of ds h.number h.denoted (omega (arith, h.within)))) h.denoted

-- the law that is made is the one that stands there
law_denoted : (l : LawForm) → LawFits l → IsLawOf l (law_from l)
law_denoted a_cell h = refl
law_denoted a_tally h = refl
law_denoted (a_queue ds) h = (h.number, h.denoted, ap Queue (value_of ds h.number h.denoted (omega (arith, h.within))))

resources_made : (qs : List ResourceForm) → AllByRecursion (λ q. LawFits q.law) qs → AreResourcesOf qs (map resource_from qs)
resources_made [] h = tt
resources_made (q ∷ qs) h = ((refl, law_denoted q.law h.0), resources_made qs h.1)

-- the names of a form stand at their numbers
numbers_in : (N : List (List ℕ)) (O : List Operation) (k : ℕ) (more : List (List ℕ)) → N ≡ operation_names O ++ more → (f : Form) → AllByRecursion (IsOwn O k) (names_in f) → (b : ℕ) → BracesFit b f → Numbers N f (tree_in O f)
numbers_in N O k more e (once n) h b i =
    let name : slice_get (operation_names O) (number_of O n) ≡ Some n = slice_get-map (λ x. x.name) O (number_of O n) ∙ ap (option_map (λ x. x.name)) h.0 in
    ap (λ x. slice_get x (number_of O n)) e ∙ get_front (operation_names O) more (number_of O n) n name
numbers_in N O k more e (sequence s t) h b i = (numbers_in N O k more e s (each_front (IsOwn O k) (names_in s) (names_in t) h) b i.0, numbers_in N O k more e t (each_back (IsOwn O k) (names_in s) (names_in t) h) b i.1)
numbers_in N O k more e (selection s t) h b i = (numbers_in N O k more e s (each_front (IsOwn O k) (names_in s) (names_in t) h) b i.0, numbers_in N O k more e t (each_back (IsOwn O k) (names_in s) (names_in t) h) b i.1)
numbers_in N O k more e (braced c s) h b i = (number_denoted c i.2, numbers_in N O k more e s h (b + 1) i.1)

paths-append : (N : List (List ℕ)) (xs ys : List (ℕ × Form)) (ps qs : List Path) → ArePathsOf N xs ps → ArePathsOf N ys qs → ArePathsOf N (xs ++ ys) (ps ++ qs)
paths-append N [] ys [] qs a b = b
paths-append N [] ys (p ∷ ps) qs a b = absurd a
paths-append N (x ∷ xs) ys [] qs a b = absurd a
paths-append N (x ∷ xs) ys (p ∷ ps) qs a b = (a.0, paths-append N xs ys ps qs a.1 b)

paths_of_one : (N : List (List ℕ)) (O : List Operation) (k : ℕ) (more : List (List ℕ)) → N ≡ operation_names O ++ more → (fs : List Form) → PathsFit O k fs → ArePathsOf N (map (λ f. (k, f)) fs) (map (made_path O k) fs)
paths_of_one N O k more e [] h = tt
paths_of_one N O k more e (f ∷ fs) h = ((refl, numbers_in N O k more e f h.0.0.0 0 h.0.1), paths_of_one N O k more e fs h.1)

paths_made : (N : List (List ℕ)) (qs : List ResourceForm) (O : List Operation) (k : ℕ) → N ≡ operation_names O ++ all_operations qs → FileFits O k qs → ArePathsOf N (paths_from k qs) (made_paths O k qs)
paths_made N [] O k e h = tt
paths_made N (q ∷ qs) O k e h =
    let f : N ≡ operation_names (O ++ owned k q.operations) ++ all_operations qs = e ∙ sym (append_assoc (operation_names O) q.operations (all_operations qs)) ∙ ap (λ x. x ++ all_operations qs) (sym (names_with O k q.operations)) in
    paths-append N (map (λ g. (k, g)) q.paths) (paths_from (k + 1) qs) (map (made_path (O ++ owned k q.operations) k) q.paths) (made_paths (O ++ owned k q.operations) (k + 1) qs)
    (paths_of_one N (O ++ owned k q.operations) k (all_operations qs) f q.paths h.0) (paths_made N qs (O ++ owned k q.operations) (k + 1) f h.1)

-- what is made is what the forms declare
pub made_declares : (qs : List ResourceForm) (d : Drafted) → AllAllowed (file_parts qs) nothing → d ≡ after_all (file_parts qs) nothing → Declares qs (declared_by d)
made_declares qs d a e =
    let m = after_file qs [] [] [] 0 in
    let k = file_kept qs [] [] [] 0 (omega arith) a in
    record {
      resources = subst (AreResourcesOf qs) (sym (ap (λ x. x.resources) e ∙ m.resources)) (resources_made qs k.laws);
      operations = ap (λ x. x.operations) e ∙ m.operations;
      paths = subst (λ ps. ArePathsOf (all_operations qs) (paths_from 0 qs) ps) (sym (ap (λ x. x.paths) e ∙ m.paths)) (paths_made (all_operations qs) qs [] 0 refl k.paths);
    }
