-- How far the loops over names, paths and resources have come.
use Rattle.std.proofs.Common.{◌≡◌, ℕ, List, [], ◌∷◌, ◌++◌, map, refl, sym, ap, ◌∙◌, subst, append_assoc, arith, ◌⊎◌, inl, inr, Result, Ok, Err, IfOk, IfErr}
use Rattle.std.specs.Result.{OnOk, result_and}
use Rattle.std.proofs.lemmas.List.{append-nil, map-append}
use Rattle.path_lex.specs.declared.token.Sign.TheVariants as signs
use Rattle.path_lex.specs.declared.token.Reserved.TheVariants as words
use Rattle.std.proofs.Common.{Bool, true, false, length}
use Rattle.std.specs.Prelude.{nat_eq}
use Rattle.std.proofs.lemmas.Bool.Decides.{nat_tests}
use Rattle.path_lex.specs.declared.token.Token.{Token}
use Rattle.path_read.specs.Inner.Reading.{told}
use Rattle.path_lex.specs.Spelling.{Piece, sign, reserved, name}
use Rattle.path_decl.specs.Forms.{Form, LawForm, ResourceForm}
use Rattle.path_decl.specs.Grammar.{IsLaw}
use Rattle.path_read.specs.Inner.Parts.{Saying, a_resource, a_law, an_operation, a_path, an_end, form_parts, body_parts, path_parts, inner_parts, resource_parts, file_parts}
use Rattle.path_read.specs.Inner.Reading.{Begins, ReadsSeq, ReadsPath, by_path, ReadsPaths, no_path, one_path, ReadsMore, no_name, one_name, ReadsNames, by_names, ReadsBody, by_body, ReadsResource, by_resource, ReadsResources, no_resource, one_resource, ReadsFile, by_file}
use Rattle.path_read.specs.Inner.Taking.{Taking, Follows, Adds}
use Rattle.path_read.proofs.Once.{Same, seq_once, same_tail}
use Rattle.path_read.proofs.Following.{follows, follows_as}
use Rattle.path_read.proofs.Laws.{NoLaw, law_once}

pub path_closed : (ts mid rest : List Piece) (old out new : Taking) → Adds form_parts (ReadsSeq 32 ts mid) old out → mid ≡ reserved words.End ∷ rest → Follows (an_end ∷ []) out new → Adds body_parts (ReadsPath ts rest) old new
path_closed ts mid rest old out new a e n = (a.0, by_path (subst (λ x. ReadsSeq 32 ts x a.0) e a.1), follows (form_parts a.0) (an_end ∷ []) old out new a.2 n)

open_at : {ts mid rest : List Piece} {s f : Form} → ReadsSeq 32 ts mid s → (Begins (reserved words.End) mid → ⊥) → ReadsPath ts rest f → ⊥
open_at {rest} q none (by_path r) = none (rest, (seq_once q r).0)

pub path_open : (ts mid : List Piece) (old out : Taking) → Adds form_parts (ReadsSeq 32 ts mid) old out → (Begins (reserved words.End) mid → ⊥) → (rest : List Piece) (f : Form) → ReadsPath ts rest f → ⊥
path_open ts mid old out a none rest f p = open_at a.1 none p

-- the names so far
pub record ReachedNames (ts : List Piece) (old : Taking) (left : List Piece) (out : Taking) : Type 0 where
  pub names : List (List ℕ)
  pub forth : (rest : List Piece) (ns : List (List ℕ)) → ReadsMore left rest ns → ReadsNames ts rest (names ++ ns)
  pub back : (rest : List Piece) (ns : List (List ℕ)) → ReadsNames ts rest ns → (ms : List (List ℕ)) × ReadsMore left rest ms
  pub says : Follows (map an_operation names) old out

after_first : {n : List ℕ} {left rest : List Piece} {ns : List (List ℕ)} → ReadsNames (name n ∷ left) rest ns → (ms : List (List ℕ)) × ReadsMore left rest ms
after_first (by_names {ns} m) = (ns, m)

pub first_name : (ts left : List Piece) (n : List ℕ) (old out : Taking) → ts ≡ name n ∷ left → Follows (an_operation n ∷ []) old out → ReachedNames ts old left out
first_name ts left n old out e s = record {
  names = n ∷ [];
  forth = λ rest ns m. subst (λ x. ReadsNames x rest (n ∷ ns)) (sym e) (by_names m);
  back = λ rest ns r. after_first (subst (λ x. ReadsNames x rest ns) e r);
  says = s;
}

after_next : {n : List ℕ} {left rest : List Piece} {ns : List (List ℕ)} → ReadsMore (sign signs.Comma ∷ name n ∷ left) rest ns → (ms : List (List ℕ)) × ReadsMore left rest ms
after_next (no_name f) = absurd (f (_, refl))
after_next (one_name {ns} m) = (ns, m)

pub next_name : (ts left inner after : List Piece) (n : List ℕ) (old out new : Taking) → left ≡ sign signs.Comma ∷ inner → inner ≡ name n ∷ after → Follows (an_operation n ∷ []) out new
    → ReachedNames ts old left out → ReachedNames ts old after new
next_name ts left inner after n old out new e f s r =
    let both : left ≡ sign signs.Comma ∷ name n ∷ after = e ∙ ap (λ x. sign signs.Comma ∷ x) f in
    record {
      names = r.names ++ n ∷ [];
      forth = λ rest ns m. subst (λ x. ReadsNames ts rest x) (sym (append_assoc r.names (n ∷ []) ns)) (r.forth rest (n ∷ ns) (subst (λ x. ReadsMore x rest (n ∷ ns)) (sym both) (one_name m)));
      back = λ rest ns q. let b = r.back rest ns q in after_next (subst (λ x. ReadsMore x rest b.0) both b.1);
      says = follows_as _ _ old new (sym (map-append an_operation r.names (n ∷ []))) (follows (map an_operation r.names) (an_operation n ∷ []) old out new r.says s);
    }

stuck_more : {inner rest : List Piece} {ns : List (List ℕ)} → ((n : List ℕ) → Begins (name n) inner → ⊥) → ReadsMore (sign signs.Comma ∷ inner) rest ns → ⊥
stuck_more none (no_name f) = f (_, refl)
stuck_more none (one_name m) = none _ (_, refl)

pub no_names_at : (ts left inner : List Piece) (old out : Taking) → left ≡ sign signs.Comma ∷ inner → ((n : List ℕ) → Begins (name n) inner → ⊥) → ReachedNames ts old left out
    → (rest : List Piece) (ns : List (List ℕ)) → ReadsNames ts rest ns → ⊥
no_names_at ts left inner old out e none r rest ns q = let b = r.back rest ns q in stuck_more none (subst (λ x. ReadsMore x rest b.0) e b.1)

pub no_first_name : (ts : List Piece) → ((n : List ℕ) → Begins (name n) ts → ⊥) → (rest : List Piece) (ns : List (List ℕ)) → ReadsNames ts rest ns → ⊥
no_first_name ts none rest ns (by_names m) = none _ (_, refl)

pub names_end : (ts left : List Piece) (old out : Taking) → (Begins (sign signs.Comma) left → ⊥) → ReachedNames ts old left out → Adds (map an_operation) (ReadsNames ts left) old out
names_end ts left old out none r = (r.names, subst (λ x. ReadsNames ts left x) (append-nil r.names) (r.forth left [] (no_name none)), r.says)

-- names are read in one way
more_once : {ts r r' : List Piece} {ns ns' : List (List ℕ)} → ReadsMore ts r ns → ReadsMore ts r' ns' → Same r r' ns ns'
more_once (no_name f) (no_name f') = (refl, refl)
more_once (no_name f) (one_name m) = absurd (f (_, refl))
more_once (one_name m) (no_name f) = absurd (f (_, refl))
more_once (one_name {n} m) (one_name m') = let e = more_once m m' in (e.0, ap (λ x. n ∷ x) e.1)

pub names_once : {ts r r' : List Piece} {ns ns' : List (List ℕ)} → ReadsNames ts r ns → ReadsNames ts r' ns' → Same r r' ns ns'
names_once (by_names {n} m) (by_names m') = let e = more_once m m' in (e.0, ap (λ x. n ∷ x) e.1)

pub path_once : {ts r r' : List Piece} {f f' : Form} → ReadsPath ts r f → ReadsPath ts r' f' → Same r r' f f'
path_once (by_path s) (by_path s') = let e = seq_once s s' in (same_tail e.0, e.1)

paths_at : {ts ts' r : List Piece} {ps : List Form} → ts ≡ ts' → ReadsPaths ts' r ps → ReadsPaths ts r ps
paths_at {r} {ps} e q = subst (λ x. ReadsPaths x r ps) (sym e) q

both_cons : {X : Type 0} {x y : X} {xs ys : List X} → x ≡ y → xs ≡ ys → x ∷ xs ≡ y ∷ ys
both_cons e f = cc

pub paths_once : {ts r r' : List Piece} {ps ps' : List Form} → ReadsPaths ts r ps → ReadsPaths ts r' ps' → Same r r' ps ps'
paths_once (no_path f) (no_path f') = (refl, refl)
paths_once (no_path f) (one_path p q) = absurd (f (_, refl))
paths_once (one_path p q) (no_path f) = absurd (f (_, refl))
paths_once (one_path p q) (one_path p' q') =
    let e = path_once p p' in
    let f = paths_once q (paths_at e.0 q') in (f.0, both_cons e.1 f.1)

-- the names, and the paths so far
pub record ReachedBody (ts : List Piece) (old : Taking) (left : List Piece) (out : Taking) : Type 0 where
  pub names : List (List ℕ)
  pub paths : List Form
  pub forth : (rest : List Piece) (ps : List Form) → ReadsPaths left rest ps → ReadsBody ts rest names (paths ++ ps)
  pub back : (rest : List Piece) (ns : List (List ℕ)) (ps : List Form) → ReadsBody ts rest ns ps → (qs : List Form) × ReadsPaths left rest qs
  pub says : Follows (inner_parts (names, paths)) old out

after_names : {ts mid rest : List Piece} {os ns : List (List ℕ)} {ps : List Form} → ReadsNames ts mid os → ReadsBody ts rest ns ps → ReadsPaths mid rest ps
after_names q (by_body r p) = let e = names_once q r in paths_at e.0 p

pub first_body : (ts mid : List Piece) (old out : Taking) → Adds (map an_operation) (ReadsNames ts mid) old out → ReachedBody ts old mid out
first_body ts mid old out a = record {
  names = a.0;
  paths = [];
  forth = λ rest ps p. by_body a.1 p;
  back = λ rest ns ps b. (ps, after_names a.1 b);
  says = follows_as _ _ old out (sym (append-nil (map an_operation a.0))) a.2;
}

path_parts-push : (fs : List Form) (f : Form) → path_parts (fs ++ f ∷ []) ≡ path_parts fs ++ (a_path ∷ body_parts f)
path_parts-push [] f = ap (λ x. a_path ∷ x) (append-nil (body_parts f))
path_parts-push (g ∷ fs) f = ap (λ x. a_path ∷ (body_parts g ++ x)) (path_parts-push fs f) ∙ ap (λ x. a_path ∷ x) (sym (append_assoc (body_parts g) (path_parts fs) (a_path ∷ body_parts f)))

after_path : {inner after rest : List Piece} {f : Form} {ps : List Form} → ReadsPath inner after f → ReadsPaths (reserved words.Path ∷ inner) rest ps → (qs : List Form) × ReadsPaths after rest qs
after_path p (no_path g) = absurd (g (_, refl))
after_path p (one_path {ps} q r) = let e = path_once p q in (ps, paths_at e.0 r)

says_path : (names paths f : List Saying) (old out begun new : Taking) → Follows (a_path ∷ []) out begun → Follows f begun new → Follows (names ++ paths) old out → Follows (names ++ (paths ++ (a_path ∷ f))) old new
says_path names paths f old out begun new b n s =
    follows_as _ _ old new (append_assoc names paths (a_path ∷ f)) (follows (names ++ paths) (a_path ∷ f) old out new s (follows (a_path ∷ []) f out begun new b n))

pub next_body : (ts left inner after : List Piece) (old out begun new : Taking) → left ≡ reserved words.Path ∷ inner → Follows (a_path ∷ []) out begun → Adds body_parts (ReadsPath inner after) begun new
    → ReachedBody ts old left out → ReachedBody ts old after new
next_body ts left inner after old out begun new e b a r = record {
  names = r.names;
  paths = r.paths ++ a.0 ∷ [];
  forth = λ rest ps p. subst (λ x. ReadsBody ts rest r.names x) (sym (append_assoc r.paths (a.0 ∷ []) ps)) (r.forth rest (a.0 ∷ ps) (subst (λ x. ReadsPaths x rest (a.0 ∷ ps)) (sym e) (one_path a.1 p)));
  back = λ rest ns ps q. let b = r.back rest ns ps q in after_path a.1 (subst (λ x. ReadsPaths x rest b.0) e b.1);
  says = follows_as _ _ old new (ap (λ x. map an_operation r.names ++ x) (sym (path_parts-push r.paths a.0))) (says_path (map an_operation r.names) (path_parts r.paths) (body_parts a.0) old out begun new b a.2 r.says);
}

stuck_paths : {inner rest : List Piece} {ps : List Form} → ((after : List Piece) (f : Form) → ReadsPath inner after f → ⊥) → ReadsPaths (reserved words.Path ∷ inner) rest ps → ⊥
stuck_paths none (no_path g) = g (_, refl)
stuck_paths none (one_path q r) = none _ _ q

pub no_body_at : (ts left inner : List Piece) (old out : Taking) → left ≡ reserved words.Path ∷ inner → ((after : List Piece) (f : Form) → ReadsPath inner after f → ⊥) → ReachedBody ts old left out
    → (rest : List Piece) (ns : List (List ℕ)) (ps : List Form) → ReadsBody ts rest ns ps → ⊥
no_body_at ts left inner old out e none r rest ns ps q = let b = r.back rest ns ps q in stuck_paths none (subst (λ x. ReadsPaths x rest b.0) e b.1)

pub no_body_names : (ts : List Piece) → ((rest : List Piece) (ns : List (List ℕ)) → ReadsNames ts rest ns → ⊥) → (rest : List Piece) (ns : List (List ℕ)) (ps : List Form) → ReadsBody ts rest ns ps → ⊥
no_body_names ts none rest ns ps (by_body r p) = none _ _ r

pub body_ends : (ts left : List Piece) (old out : Taking) → (Begins (reserved words.Path) left → ⊥) → ReachedBody ts old left out → Adds inner_parts (λ b. ReadsBody ts left b.0 b.1) old out
body_ends ts left old out none r = ((r.names, r.paths), subst (λ x. ReadsBody ts left r.names x) (append-nil r.paths) (r.forth left [] (no_path none)), r.says)

pub body_once : {ts r r' : List Piece} {ns ns' : List (List ℕ)} {ps ps' : List Form} → ReadsBody ts r ns ps → ReadsBody ts r' ns' ps' → (r ≡ r') × (ns ≡ ns') × (ps ≡ ps')
body_once (by_body q p) (by_body q' p') =
    let e = names_once q q' in
    let f = paths_once p (paths_at e.0 p') in (f.0, e.1, f.1)

-- a resource whose name has come
abbrev pub IsNamed : List Piece → List ℕ → List Piece → Type 0
IsNamed ts n ls = ts ≡ reserved words.Resource ∷ name n ∷ ls

-- a law was read, and its part was added
abbrev pub AddsLaw : List Piece → List Piece → Taking → Taking → Type 0
AddsLaw ls kind old new = Adds (λ l. a_law l ∷ []) (IsLaw ls kind) old new

abbrev pub NoResource : List Piece → Type 0
NoResource ts = (rest : List Piece) (r : ResourceForm) → ReadsResource ts rest r → ⊥

word_first : {ts rest : List Piece} {r : ResourceForm} → ReadsResource ts rest r → Begins (reserved words.Resource) ts
word_first (by_resource l b) = (_, refl)

name_second : {ts rest : List Piece} {r : ResourceForm} → ReadsResource (reserved words.Resource ∷ ts) rest r → (n : List ℕ) × Begins (name n) ts
name_second (by_resource {n} l b) = (n, (_, refl))

law_third : {n : List ℕ} {ls rest : List Piece} {r : ResourceForm} → ReadsResource (reserved words.Resource ∷ name n ∷ ls) rest r
    → (ts : List Piece) × IsLaw ls (reserved words.Operation ∷ ts) r.law × ReadsBody ts (reserved words.End ∷ rest) r.operations r.paths
law_third (by_resource {ts} l b) = (ts, l, b)

named_so : {ts ls rest : List Piece} {n : List ℕ} {r : ResourceForm} → IsNamed ts n ls → ReadsResource ts rest r → ReadsResource (reserved words.Resource ∷ name n ∷ ls) rest r
named_so {rest} {r} e q = subst (λ x. ReadsResource x rest r) e q

pub no_word : (ts : List Piece) → (Begins (reserved words.Resource) ts → ⊥) → NoResource ts
no_word ts none rest r q = none (word_first q)

pub no_name_after : (ts t1 : List Piece) → ts ≡ reserved words.Resource ∷ t1 → ((n : List ℕ) → Begins (name n) t1 → ⊥) → NoResource ts
no_name_after ts t1 e none rest r q = let b = name_second (subst (λ x. ReadsResource x rest r) e q) in none b.0 b.1

pub named : (ts t1 ls : List Piece) (n : List ℕ) → ts ≡ reserved words.Resource ∷ t1 → t1 ≡ name n ∷ ls → IsNamed ts n ls
named ts t1 ls n e f = e ∙ ap (λ x. reserved words.Resource ∷ x) f

pub no_law : (ts ls : List Piece) (n : List ℕ) → IsNamed ts n ls → NoLaw ls → NoResource ts
no_law ts ls n e none rest r q = none _ _ (law_third (named_so e q)).1

pub no_operation : (ts ls kind : List Piece) (n : List ℕ) (old out : Taking) → IsNamed ts n ls → AddsLaw ls kind old out → (Begins (reserved words.Operation) kind → ⊥) → NoResource ts
no_operation ts ls kind n old out e a none rest r q = let p = law_third (named_so e q) in none (p.0, (law_once a.1 p.1).0)

body_from : {ts ts' rest : List Piece} {ns : List (List ℕ)} {ps : List Form} → ts ≡ ts' → ReadsBody ts' rest ns ps → ReadsBody ts rest ns ps
body_from {rest} {ns} {ps} e b = subst (λ x. ReadsBody x rest ns ps) (sym e) b

body_last : (ts ls kind inside : List Piece) (n : List ℕ) (old out : Taking) → IsNamed ts n ls → AddsLaw ls kind old out → kind ≡ reserved words.Operation ∷ inside
    → (rest : List Piece) (r : ResourceForm) → ReadsResource ts rest r → ReadsBody inside (reserved words.End ∷ rest) r.operations r.paths
body_last ts ls kind inside n old out e a f rest r q = let p = law_third (named_so e q) in body_from (same_tail (sym f ∙ (law_once a.1 p.1).0)) p.2

pub no_body : (ts ls kind inside : List Piece) (n : List ℕ) (old out : Taking) → IsNamed ts n ls → AddsLaw ls kind old out → kind ≡ reserved words.Operation ∷ inside
    → ((rest : List Piece) (ns : List (List ℕ)) (fs : List Form) → ReadsBody inside rest ns fs → ⊥) → NoResource ts
no_body ts ls kind inside n old out e a f none rest r q = none _ _ _ (body_last ts ls kind inside n old out e a f rest r q)

pub no_end : (ts ls kind inside last : List Piece) (n : List ℕ) (old out new : Taking) → IsNamed ts n ls → AddsLaw ls kind old out → kind ≡ reserved words.Operation ∷ inside
    → Adds inner_parts (λ b. ReadsBody inside last b.0 b.1) out new → (Begins (reserved words.End) last → ⊥) → NoResource ts
no_end ts ls kind inside last n old out new e a f b none rest r q = none (rest, (body_once b.1 (body_last ts ls kind inside n old out e a f rest r q)).0)

pub is_resource : (ts ls kind inside last rest : List Piece) (n : List ℕ) (old begun out new : Taking) → IsNamed ts n ls → Follows (a_resource n ∷ []) old begun → AddsLaw ls kind begun out → kind ≡ reserved words.Operation ∷ inside
    → Adds inner_parts (λ b. ReadsBody inside last b.0 b.1) out new → last ≡ reserved words.End ∷ rest → Adds resource_parts (ReadsResource ts rest) old new
is_resource ts ls kind inside last rest n old begun out new e s a f b g =
    let r : ResourceForm = record { name = n; law = a.0; operations = b.0.0; paths = b.0.1 } in
    let whole : ReadsResource (reserved words.Resource ∷ name n ∷ ls) rest r = by_resource (subst (λ x. IsLaw ls x a.0) f a.1) (subst (λ x. ReadsBody inside x b.0.0 b.0.1) g b.1) in (
      r,
      subst (λ x. ReadsResource x rest r) (sym e) whole,
      follows (a_resource n ∷ []) (a_law a.0 ∷ inner_parts b.0) old begun new s (follows (a_law a.0 ∷ []) (inner_parts b.0) begun out new a.2 b.2),
    )

same_form : {l l' : LawForm} {ns ns' : List (List ℕ)} {n : List ℕ} {ps ps' : List Form} → l ≡ l' → ns ≡ ns' → ps ≡ ps'
    → ◌≡◌ {A = ResourceForm} (record { name = n; law = l; operations = ns; paths = ps }) (record { name = n; law = l'; operations = ns'; paths = ps' })
same_form d e f = cc

pub resource_once : {ts r r' : List Piece} {x x' : ResourceForm} → ReadsResource ts r x → ReadsResource ts r' x' → Same r r' x x'
resource_once (by_resource l b) (by_resource l' b') =
    let d = law_once l l' in
    let e = body_once b (body_from (same_tail d.0) b') in (same_tail e.0, same_form d.1 e.1 e.2)

resources_at : {ts ts' : List Piece} {rs : List ResourceForm} → ts ≡ ts' → ReadsResources ts' rs → ReadsResources ts rs
resources_at {rs} e q = subst (λ x. ReadsResources x rs) (sym e) q

pub resources_once : {ts : List Piece} {rs rs' : List ResourceForm} → ReadsResources ts rs → ReadsResources ts rs' → rs ≡ rs'
resources_once no_resource no_resource = refl
resources_once no_resource (one_resource q m) = absurd (let e = word_first q in cc (e.1))
resources_once (one_resource q m) no_resource = absurd (let e = word_first q in cc (e.1))
resources_once (one_resource q m) (one_resource q' m') =
    let e = resource_once q q' in both_cons e.1 (resources_once m (resources_at e.0 m'))

pub file_once : {ts : List Piece} {rs rs' : List ResourceForm} → ReadsFile ts rs → ReadsFile ts rs' → rs ≡ rs'
file_once (by_file q m) (by_file q' m') =
    let e = resource_once q q' in both_cons e.1 (resources_once m (resources_at e.0 m'))

-- the resources so far
pub record ReachedFile (ts : List Piece) (old : Taking) (left : List Piece) (out : Taking) : Type 0 where
  pub resources : List ResourceForm
  pub forth : (rs : List ResourceForm) → ReadsResources left rs → ReadsFile ts (resources ++ rs)
  pub back : (rs : List ResourceForm) → ReadsFile ts rs → (qs : List ResourceForm) × ReadsResources left qs
  pub says : Follows (file_parts resources) old out

after_resource : {ts mid : List Piece} {r : ResourceForm} {rs : List ResourceForm} → ReadsResource ts mid r → ReadsFile ts rs → (qs : List ResourceForm) × ReadsResources mid qs
after_resource q (by_file {rs} q' m) = let e = resource_once q q' in (rs, resources_at e.0 m)

pub first_resource : (ts mid : List Piece) (old out : Taking) → Adds resource_parts (ReadsResource ts mid) old out → ReachedFile ts old mid out
first_resource ts mid old out a = record {
  resources = a.0 ∷ [];
  forth = λ rs m. by_file a.1 m;
  back = λ rs q. after_resource a.1 q;
  says = follows_as _ _ old out (sym (append-nil (resource_parts a.0))) a.2;
}

file_parts-push : (rs : List ResourceForm) (r : ResourceForm) → file_parts (rs ++ r ∷ []) ≡ file_parts rs ++ resource_parts r
file_parts-push [] r = append-nil (resource_parts r)
file_parts-push (q ∷ rs) r = ap (λ x. resource_parts q ++ x) (file_parts-push rs r) ∙ sym (append_assoc (resource_parts q) (file_parts rs) (resource_parts r))

-- what is left isn't the end
beyond : {left mid : List Piece} {r : ResourceForm} {rs : List ResourceForm} → ReadsResource left mid r → ReadsResources left rs → (qs : List ResourceForm) × ReadsResources mid qs
beyond q no_resource = absurd (let e = word_first q in cc (e.1))
beyond q (one_resource {rs} q' m) = let e = resource_once q q' in (rs, resources_at e.0 m)

pub next_resource : (ts left mid : List Piece) (old out new : Taking) → Adds resource_parts (ReadsResource left mid) out new → ReachedFile ts old left out → ReachedFile ts old mid new
next_resource ts left mid old out new a r = record {
  resources = r.resources ++ a.0 ∷ [];
  forth = λ rs m. subst (λ x. ReadsFile ts x) (sym (append_assoc r.resources (a.0 ∷ []) rs)) (r.forth (a.0 ∷ rs) (one_resource a.1 m));
  back = λ rs q. let b = r.back rs q in beyond a.1 b.1;
  says = follows_as _ _ old new (sym (file_parts-push r.resources a.0)) (follows (file_parts r.resources) (resource_parts a.0) old out new r.says a.2);
}

no_more : {left : List Piece} {rs : List ResourceForm} → NoResource left → ReadsResources left rs → (left ≡ []) ⊎ ⊥
no_more none no_resource = inl refl
no_more none (one_resource q m) = absurd (none _ _ q)

pub no_file_at : (ts left : List Piece) (old out : Taking) → (left ≡ [] → ⊥) → NoResource left → ReachedFile ts old left out → (rs : List ResourceForm) → ReadsFile ts rs → ⊥
no_file_at ts left old out some none r rs q = let b = r.back rs q in elim (no_more none b.1) [ inl e ↦ some e | inr f ↦ f ]

pub no_file : (ts : List Piece) → NoResource ts → (rs : List ResourceForm) → ReadsFile ts rs → ⊥
no_file ts none rs (by_file q m) = none _ _ q

pub file_ends : (ts left : List Piece) (old out : Taking) → left ≡ [] → ReachedFile ts old left out → Adds file_parts (ReadsFile ts) old out
file_ends ts left old out e r = (r.resources, subst (λ x. ReadsFile ts x) (append-nil r.resources) (r.forth [] (subst (λ x. ReadsResources x []) (sym e) no_resource)), r.says)

-- a clause on a result, weakened
pub ok_then : {T E : Type 0} (r : Result T E) {P Q : T → Type 0} → ((x : T) → P x → Q x) → IfOk r P → IfOk r Q
ok_then (Ok x) f h = f x h
ok_then (Err e) f h = tt

pub err_then : {T E : Type 0} (r : Result T E) {P Q : E → Type 0} → ((e : E) → P e → Q e) → IfErr r P → IfErr r Q
err_then (Ok x) f h = tt
err_then (Err e) f h = f e h

-- what is known of two results, of the first that failed and of the second otherwise
pub both_ok : {T U E : Type 0} (r : Result T E) (s : Result U E) (P : Type 0) (Q : U → Type 0) → OnOk r P → (P → IfOk s Q) → IfOk (result_and r s) Q
both_ok (Ok x) s P Q p f = f p
both_ok (Err e) s P Q p f = tt

pub both_err : {T U E : Type 0} (r : Result T E) (s : Result U E) (P : Type 0) (Q : E → Type 0) → OnOk r P → IfErr r Q → (P → IfErr s Q) → IfErr (result_and r s) Q
both_err (Ok x) s P Q p e f = f p
both_err (Err x) s P Q p e f = e

-- no token is left, or some is
pub told_none : (ts : List Token) {b : Bool} → b ≡ true → b ≡ nat_eq (length ts) 0 → told ts ≡ []
told_none [] e f = refl
told_none (t ∷ ts) e f = absurd (grind (arith, nat_tests))

pub told_some : (ts : List Token) {b : Bool} → b ≡ false → b ≡ nat_eq (length ts) 0 → told ts ≡ [] → ⊥
told_some [] e f n = grind (arith, nat_tests)
told_some (t ∷ ts) e f n = cc

-- what is missing at the start of a path or of a body
pub no_path_at : (ts : List Piece) → ((rest : List Piece) (f : Form) → ReadsSeq 32 ts rest f → ⊥) → (rest : List Piece) (f : Form) → ReadsPath ts rest f → ⊥
no_path_at ts none rest f (by_path s) = none _ _ s

pub no_first_names : (ts : List Piece) → ((rest : List Piece) (ns : List (List ℕ)) → ReadsNames ts rest ns → ⊥) → (rest : List Piece) (ns : List (List ℕ)) (fs : List Form) → ReadsBody ts rest ns fs → ⊥
no_first_names ts none rest ns fs (by_body r p) = none _ _ r
