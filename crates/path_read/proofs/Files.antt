-- What the parts of a whole file need, and what they make.
use Rattle.std.proofs.Common.{◌≡◌, ℕ, ◌+◌, ◌<◌, ◌≤◌, List, [], ◌∷◌, ◌++◌, length, map, refl, sym, ap, ◌∙◌, subst, append_assoc, arith}
use Rattle.std.specs.List.{AllByRecursion}
use Rattle.std.proofs.lemmas.List.{append-nil, length-map, length-append, map_push, map-append}
use Rattle.path_model.specs.declared.resource.Law.{Law}
use Rattle.path_model.specs.declared.resource.Law.TheVariants.{Cell}
use Rattle.path_model.specs.Declarations.{Resource, Operation, Path}
use Rattle.path_decl.specs.Forms.{Form, ResourceForm, names_in, all_operations, all_paths, LawFits}
use Rattle.path_read.specs.Inner.Parts.{an_operation, an_end, form_parts, body_parts, path_parts, inner_parts, resource_parts, file_parts}
use Rattle.path_decl.specs.Declares.{operations_from}
use Rattle.path_read.specs.Inner.Building.{Drafted, operation_names, law_from, with_law, AllAllowed, after_all}
use Rattle.path_read.proofs.FormRules.{BracesFit}
use Rattle.path_read.proofs.Taken.{after_all-append, allowed-append, allowed_front, allowed_back, Fresh, fresh-append, fresh_front, fresh_back, tree_in, FormFits, after_form, form_allowed, form_kept, braces_kept}

-- a draft between two paths
abbrev pub base : List Resource → List Operation → List Path → ℕ → Drafted
base R O P r = record { resources = R; operations = O; paths = P; resource = r; open_trees = []; named = []; braces = 0 }

-- the resource that a form makes
abbrev pub resource_from : ResourceForm → Resource
resource_from q = record { name = q.name; law = law_from q.law }

with_law_last : (R : List Resource) (n : List ℕ) (k l : Law) → with_law l (R ++ record { name = n; law = k } ∷ []) ≡ R ++ record { name = n; law = l } ∷ []
with_law_last [] n k l = refl
with_law_last (r ∷ []) n k l = refl
with_law_last (r ∷ s ∷ R) n k l = ap (λ x. r ∷ x) (with_law_last (s ∷ R) n k l)

-- the resources with one more, when its law has come
one_more : (q : ResourceForm) (R : List Resource) → with_law (law_from q.law) (R ++ record { name = q.name; law = Cell } ∷ []) ≡ R ++ resource_from q ∷ []
one_more q R = with_law_last R q.name Cell (law_from q.law)

-- the operations of a resource
abbrev pub owned : ℕ → List (List ℕ) → List Operation
owned k os = map (λ n. record { name = n; resource = k }) os

abbrev pub made_path : List Operation → ℕ → Form → Path
made_path O k f = record { resource = k; tree = tree_in O f }

after_operations : (os : List (List ℕ)) (R : List Resource) (O : List Operation) (P : List Path) (r : ℕ) → after_all (map an_operation os) (base R O P r) ≡ base R (O ++ owned r os) P r
after_operations [] R O P r = ap (λ x. base R x P r) (sym (append-nil O))
after_operations (n ∷ os) R O P r = after_operations os R (O ++ record { name = n; resource = r } ∷ []) P r ∙ ap (λ x. base R x P r) (append_assoc O (record { name = n; resource = r } ∷ []) (owned r os))

one_name_more : (O : List Operation) (n : List ℕ) (r : ℕ) → operation_names (O ++ record { name = n; resource = r } ∷ []) ≡ operation_names O ++ n ∷ []
one_name_more O n r = map_push (λ o. o.name) O (record { name = n; resource = r })

operations_allowed : (os : List (List ℕ)) (R : List Resource) (O : List Operation) (P : List Path) (r : ℕ) → Fresh 256 (operation_names O) os → AllAllowed (map an_operation os) (base R O P r)
operations_allowed [] R O P r f = tt
operations_allowed (n ∷ os) R O P r f =
    let room : length O < 256 = simp length-map at f.1 in
    ((f.0, room), operations_allowed os R (O ++ record { name = n; resource = r } ∷ []) P r (subst (λ z. Fresh 256 z os) (sym (one_name_more O n r)) f.2))

operations_kept : (os : List (List ℕ)) (R : List Resource) (O : List Operation) (P : List Path) (r : ℕ) → AllAllowed (map an_operation os) (base R O P r) → Fresh 256 (operation_names O) os
operations_kept [] R O P r a = tt
operations_kept (n ∷ os) R O P r a =
    let room : length (operation_names O) < 256 = simp length-map a.0.1 in
    (a.0.0, room, subst (λ z. Fresh 256 z os) (one_name_more O n r) (operations_kept os R (O ++ record { name = n; resource = r } ∷ []) P r a.1))

after_body : (f : Form) (R : List Resource) (O : List Operation) (P : List Path) (r : ℕ) → after_all (body_parts f) (base R O P r) ≡ base R O (P ++ made_path O r f ∷ []) r
after_body f R O P r = after_all-append (form_parts f) (an_end ∷ []) (base R O P r) ∙ ap (after_all (an_end ∷ [])) (after_form f (base R O P r))

after_paths : (fs : List Form) (R : List Resource) (O : List Operation) (P : List Path) (r : ℕ) → after_all (path_parts fs) (base R O P r) ≡ base R O (P ++ map (made_path O r) fs) r
after_paths [] R O P r = ap (λ x. base R O x r) (sym (append-nil P))
after_paths (f ∷ fs) R O P r =
    after_all-append (body_parts f) (path_parts fs) (base R O P r) ∙ ap (after_all (path_parts fs)) (after_body f R O P r) ∙ after_paths fs R O (P ++ made_path O r f ∷ []) r
    ∙ ap (λ x. base R O x r) (append_assoc P (made_path O r f ∷ []) (map (made_path O r) fs))

-- what a path, what paths ask for
abbrev pub PathFits : List Operation → ℕ → Form → Type 0
PathFits O r f = FormFits O r [] (names_in f) × BracesFit 0 f

abbrev pub PathsFit : List Operation → ℕ → List Form → Type 0
PathsFit O r fs = AllByRecursion (PathFits O r) fs

body_allowed : (f : Form) (R : List Resource) (O : List Operation) (P : List Path) (r : ℕ) → PathFits O r f → AllAllowed (body_parts f) (base R O P r)
body_allowed f R O P r p = allowed-append (form_parts f) (an_end ∷ []) (base R O P r) (form_allowed f (base R O P r) p.0.0 p.0.1 p.1) (subst (AllAllowed (an_end ∷ [])) (sym (after_form f (base R O P r))) (tt, tt))

paths_allowed : (fs : List Form) (R : List Resource) (O : List Operation) (P : List Path) (r : ℕ) → PathsFit O r fs → length P + length fs ≤ 256 → AllAllowed (path_parts fs) (base R O P r)
paths_allowed [] R O P r p le = tt
paths_allowed (f ∷ fs) R O P r p le =
    let room : length (P ++ made_path O r f ∷ []) + length fs ≤ 256 = simp length-append (omega arith) in (
      omega arith,
      allowed-append (body_parts f) (path_parts fs) (base R O P r) (body_allowed f R O P r p.0)
          (subst (AllAllowed (path_parts fs)) (sym (after_body f R O P r)) (paths_allowed fs R O (P ++ made_path O r f ∷ []) r p.1 room)),
    )

paths_kept : (fs : List Form) (R : List Resource) (O : List Operation) (P : List Path) (r : ℕ) → length P ≤ 256 → AllAllowed (path_parts fs) (base R O P r) → PathsFit O r fs × (length P + length fs ≤ 256)
paths_kept [] R O P r le a = (tt, omega arith)
paths_kept (f ∷ fs) R O P r le a =
    let b = allowed_front (body_parts f) (path_parts fs) (base R O P r) a.1 in
    let rest = subst (AllAllowed (path_parts fs)) (after_body f R O P r) (allowed_back (body_parts f) (path_parts fs) (base R O P r) a.1) in
    let here : length P < 256 = a.0 in
    let long : length (P ++ made_path O r f ∷ []) ≡ length P + 1 = simp length-append (omega arith) in
    let k = paths_kept fs R O (P ++ made_path O r f ∷ []) r (omega arith) rest in
    let form = allowed_front (form_parts f) (an_end ∷ []) (base R O P r) b in
    (((form_kept f (base R O P r) form, braces_kept f (base R O P r) form), k.0), omega (arith, k.1))

after_resource : (q : ResourceForm) (R : List Resource) (O : List Operation) (P : List Path) (r : ℕ) → after_all (resource_parts q) (base R O P r)
    ≡ base (R ++ resource_from q ∷ []) (O ++ owned (length R) q.operations) (P ++ map (made_path (O ++ owned (length R) q.operations) (length R)) q.paths) (length R)
after_resource q R O P r =
    ap (λ x. after_all (inner_parts (q.operations, q.paths)) (base x O P (length R))) (one_more q R)
    ∙ after_all-append (map an_operation q.operations) (path_parts q.paths) (base (R ++ resource_from q ∷ []) O P (length R))
    ∙ ap (after_all (path_parts q.paths)) (after_operations q.operations (R ++ resource_from q ∷ []) O P (length R))
    ∙ after_paths q.paths (R ++ resource_from q ∷ []) (O ++ owned (length R) q.operations) P (length R)

-- the paths that a file makes
abbrev pub made_paths : List Operation → ℕ → List ResourceForm → List Path
made_paths O k [] = []
made_paths O k (q ∷ qs) = map (made_path (O ++ owned k q.operations) k) q.paths ++ made_paths (O ++ owned k q.operations) (k + 1) qs

longer : (R : List Resource) (q : Resource) → length (R ++ q ∷ []) ≡ length R + 1
longer R q = simp length-append (omega arith)

pub record IsMade (d : Drafted) (R : List Resource) (O : List Operation) (P : List Path) (k : ℕ) (qs : List ResourceForm) : Type 0 where
  pub resources : d.resources ≡ R ++ map resource_from qs
  pub operations : d.operations ≡ O ++ operations_from k qs
  pub paths : d.paths ≡ P ++ made_paths O k qs

pub after_file : (qs : List ResourceForm) (R : List Resource) (O : List Operation) (P : List Path) (r : ℕ) → IsMade (after_all (file_parts qs) (base R O P r)) R O P (length R) qs
after_file [] R O P r = record { resources = sym (append-nil R); operations = sym (append-nil O); paths = sym (append-nil P) }
after_file (q ∷ qs) R O P r =
    let k : ℕ = length R in
    let Rq : List Resource = R ++ resource_from q ∷ [] in
    let Oq : List Operation = O ++ owned k q.operations in
    let Pq : List Path = P ++ map (made_path Oq k) q.paths in
    let e = after_all-append (resource_parts q) (file_parts qs) (base R O P r) ∙ ap (after_all (file_parts qs)) (after_resource q R O P r) in
    let m = after_file qs Rq Oq Pq k in
    let l : length Rq ≡ k + 1 = longer R (resource_from q) in
    record {
      resources = ap (λ d. d.resources) e ∙ m.resources ∙ append_assoc R (resource_from q ∷ []) (map resource_from qs);
      operations = ap (λ d. d.operations) e ∙ m.operations ∙ ap (λ n. Oq ++ operations_from n qs) l ∙ append_assoc O (owned k q.operations) (operations_from (k + 1) qs);
      paths = ap (λ d. d.paths) e ∙ m.paths ∙ ap (λ n. Pq ++ made_paths Oq n qs) l ∙ append_assoc P (map (made_path Oq k) q.paths) (made_paths Oq (k + 1) qs);
    }

-- what the paths of a file ask for
abbrev pub FileFits : List Operation → ℕ → List ResourceForm → Type 0
FileFits O k [] = Unit {0}
FileFits O k (q ∷ qs) = PathsFit (O ++ owned k q.operations) k q.paths × FileFits (O ++ owned k q.operations) (k + 1) qs

pub names_owned : (k : ℕ) (os : List (List ℕ)) → operation_names (owned k os) ≡ os
names_owned k [] = refl
names_owned k (n ∷ os) = ap (λ x. n ∷ x) (names_owned k os)

pub names_with : (O : List Operation) (k : ℕ) (os : List (List ℕ)) → operation_names (O ++ owned k os) ≡ operation_names O ++ os
names_with O k os = map-append (λ o. o.name) O (owned k os) ∙ ap (λ x. operation_names O ++ x) (names_owned k os)

one_resource_more : (R : List Resource) (q : ResourceForm) → map (λ r. r.name) (R ++ resource_from q ∷ []) ≡ map (λ r. r.name) R ++ q.name ∷ []
one_resource_more R q = map_push (λ r. r.name) R (resource_from q)

pub record Keeps (R : List Resource) (O : List Operation) (P : List Path) (qs : List ResourceForm) : Type 0 where
  pub resources : Fresh 64 (map (λ r. r.name) R) (map (λ q. q.name) qs)
  pub laws : AllByRecursion (λ q. LawFits q.law) qs
  pub operations : Fresh 256 (operation_names O) (all_operations qs)
  pub paths : FileFits O (length R) qs
  pub room : length P + length (all_paths qs) ≤ 256

pub file_kept : (qs : List ResourceForm) (R : List Resource) (O : List Operation) (P : List Path) (r : ℕ) → length P ≤ 256 → AllAllowed (file_parts qs) (base R O P r) → Keeps R O P qs
file_kept [] R O P r le a = record { resources = tt; laws = tt; operations = tt; paths = tt; room = omega arith }
file_kept (q ∷ qs) R O P r le a =
    let k : ℕ = length R in
    let Rq : List Resource = R ++ resource_from q ∷ [] in
    let Oq : List Operation = O ++ owned k q.operations in
    let Pq : List Path = P ++ map (made_path Oq k) q.paths in
    let here = allowed_front (resource_parts q) (file_parts qs) (base R O P r) a in
    let rest = subst (AllAllowed (file_parts qs)) (after_resource q R O P r) (allowed_back (resource_parts q) (file_parts qs) (base R O P r) a) in
    let inner = subst (λ x. AllAllowed (inner_parts (q.operations, q.paths)) (base x O P k)) (one_more q R) here.1.1 in
    let os = operations_kept q.operations Rq O P k (allowed_front (map an_operation q.operations) (path_parts q.paths) (base Rq O P k) inner) in
    let ps = paths_kept q.paths Rq Oq P k le (subst (AllAllowed (path_parts q.paths)) (after_operations q.operations Rq O P k) (allowed_back (map an_operation q.operations) (path_parts q.paths) (base Rq O P k) inner)) in
    let long : length Pq ≡ length P + length q.paths = simp (length-append, length-map) in
    let m = file_kept qs Rq Oq Pq k (omega (arith, ps.1)) rest in
    let room : length (map (λ x. x.name) R) < 64 = simp length-map here.0.1 in
    record {
      resources = (here.0.0, room, subst (λ z. Fresh 64 z (map (λ x. x.name) qs)) (one_resource_more R q) m.resources);
      laws = (here.1.0, m.laws);
      operations = fresh-append 256 (operation_names O) q.operations (all_operations qs) os (subst (λ z. Fresh 256 z (all_operations qs)) (names_with O k q.operations) m.operations);
      paths = (ps.0, subst (λ n. FileFits Oq n qs) (longer R (resource_from q)) m.paths);
      room = simp length-append (omega (arith, m.room));
    }

pub file_allowed : (qs : List ResourceForm) (R : List Resource) (O : List Operation) (P : List Path) (r : ℕ) → Keeps R O P qs → AllAllowed (file_parts qs) (base R O P r)
file_allowed [] R O P r m = tt
file_allowed (q ∷ qs) R O P r m =
    let k : ℕ = length R in
    let Rq : List Resource = R ++ resource_from q ∷ [] in
    let Oq : List Operation = O ++ owned k q.operations in
    let Pq : List Path = P ++ map (made_path Oq k) q.paths in
    let few : length R < 64 = simp length-map at m.resources.1 in
    let all : length P + (length q.paths + length (all_paths qs)) ≤ 256 = simp length-append at m.room in
    let long : length Pq ≡ length P + length q.paths = simp (length-append, length-map) in
    let os = operations_allowed q.operations Rq O P k (fresh_front 256 (operation_names O) q.operations (all_operations qs) m.operations) in
    let ps = paths_allowed q.paths Rq Oq P k m.paths.0 (omega (arith, all)) in
    let here = allowed-append (map an_operation q.operations) (path_parts q.paths) (base Rq O P k) os (subst (AllAllowed (path_parts q.paths)) (sym (after_operations q.operations Rq O P k)) ps) in
    let next : Keeps Rq Oq Pq qs = record {
      resources = subst (λ z. Fresh 64 z (map (λ x. x.name) qs)) (sym (one_resource_more R q)) m.resources.2;
      laws = m.laws.1;
      operations = subst (λ z. Fresh 256 z (all_operations qs)) (sym (names_with O k q.operations)) (fresh_back 256 (operation_names O) q.operations (all_operations qs) m.operations);
      paths = subst (λ n. FileFits Oq n qs) (sym (longer R (resource_from q))) m.paths.1;
      room = omega (arith, all, long);
    } in
    let lawful = subst (λ x. AllAllowed (inner_parts (q.operations, q.paths)) (base x O P k)) (sym (one_more q R)) here in
    allowed-append (resource_parts q) (file_parts qs) (base R O P r) ((m.resources.0, few), (m.laws.0, lawful)) (subst (AllAllowed (file_parts qs)) (sym (after_resource q R O P r)) (file_allowed qs Rq Oq Pq k next))
