-- The operations and the paths of a resource are together, in the order of the resources.
use Rattle.std.proofs.Common.{◌≡◌, ℕ, ◌+◌, ◌<◌, ◌≤◌, ◌==◌, true, false, List, [], ◌∷◌, ◌++◌, map, refl, sym, ap, ◌∙◌, subst, arith, eq-eqb, inl, inr}
use Rattle.std.specs.List.{filter}
use Rattle.std.proofs.lemmas.List.{map-append}
use Rattle.std.proofs.lemmas.Bool.{ne_eqb}
use Rattle.std.proofs.lemmas.Bool.Decides.{eqb_tells}
use Rattle.path_print.specs.declared.printer.Place.TheVariants.{InSeq}
use Rattle.path_model.specs.Declarations.{Resource, Operation, Path, Declaration}
use Rattle.path_decl.specs.Forms.{Form, ResourceForm, all_operations}
use Rattle.path_decl.specs.Declares.{AreResourcesOf, operations_from, paths_from, ArePathsOf, Declares}
use Rattle.path_print.specs.Printed.{resources_pieces, law_pieces, names_at, trees_at, paths_pieces, declaration_pieces}
use Rattle.path_print.specs.Inner.PrintedSteps.{here, after, names_here, operations_after, trees_here, paths_after}
use Rattle.path_print.proofs.PrintedWalk.{walked}
use Rattle.path_print.proofs.PrintedForms.{tree_form, printed_law, path_forms, law_form, resource_forms}

-- the numbers never fall, from k on
abbrev pub Grouped : {X : Type 0} → (X → ℕ) → ℕ → List X → Type 0
Grouped r k [] = Unit {0}
Grouped r k (x ∷ xs) = (k ≤ r x) × Grouped r (r x) xs

differs : (m k : ℕ) → k < m → (m == k) ≡ false
differs m k h = ne_eqb m k (λ e. absurd (omega arith))

equal_to : (m k : ℕ) → m ≡ k → (m == k) ≡ true
equal_to m k e = eq-eqb m k e

grouped_later : {X : Type 0} (r : X → ℕ) (j k : ℕ) (xs : List X) → j ≤ k → Grouped r k xs → Grouped r j xs
grouped_later r j k [] h g = tt
grouped_later r j k (x ∷ xs) h g = let low : k ≤ r x = g.0 in (omega arith, g.1)

-- nothing of resource k stands where later ones begin
none_here : {X Y : Type 0} (r : X → ℕ) (v : X → Y) (k : ℕ) (xs : List X) → Grouped r (k + 1) xs → here r v k xs ≡ []
none_here r v k [] g = refl
none_here r v k (x ∷ xs) g = let low : k + 1 ≤ r x = g.0 in let e = differs (r x) k (omega arith) in rw e refl

none_after : {X : Type 0} (r : X → ℕ) (k : ℕ) (xs : List X) → Grouped r (k + 1) xs → after r k xs ≡ xs
none_after r k [] g = refl
none_after r k (x ∷ xs) g = let low : k + 1 ≤ r x = g.0 in let e = differs (r x) k (omega arith) in rw e refl

-- what is left after resource k begins with later ones
grouped_after : {X : Type 0} (r : X → ℕ) (k : ℕ) (xs : List X) → Grouped r k xs → Grouped r (k + 1) (after r k xs)
grouped_after r k [] g = tt
grouped_after r k (x ∷ xs) g = elim (eqb_tells (r x) k) [
  | inl t ↦ rw t.0 (grouped_after r k xs (subst (λ n. Grouped r n xs) t.1 g.1))
  | inr t ↦ let low : k ≤ r x = g.0 in let apart = t.1 in rw t.0 (omega arith, g.1)
]

-- a filter at k takes what stands at the front
filter_here : {X Y : Type 0} (r : X → ℕ) (v : X → Y) (k : ℕ) (xs : List X) → Grouped r k xs → map v (filter (λ x. r x == k) xs) ≡ here r v k xs
filter_here r v k [] g = refl
filter_here r v k (x ∷ xs) g = elim (eqb_tells (r x) k) [
  | inl t ↦ rw t.0 (ap (λ ys. v x ∷ ys) (filter_here r v k xs (subst (λ n. Grouped r n xs) t.1 g.1)))
  | inr t ↦
      let low : k ≤ r x = g.0 in
      let apart = t.1 in
      rw t.0 (filter_here r v k xs (grouped_later r k (r x) xs low g.1) ∙ none_here r v k xs (grouped_later r (k + 1) (r x) xs (omega arith) g.1))
]

-- a filter at a later number takes nothing of it
filter_after : {X : Type 0} (r : X → ℕ) (j k : ℕ) (xs : List X) → k < j → filter (λ x. r x == j) xs ≡ filter (λ x. r x == j) (after r k xs)
filter_after r j k [] h = refl
filter_after r j k (x ∷ xs) h = elim (eqb_tells (r x) k) [
  | inl t ↦ let same : r x ≡ k = t.1 in let other : (r x == j) ≡ false = ne_eqb (r x) j (λ e. absurd (omega arith)) in rw (t.0, other) (filter_after r j k xs h)
  | inr t ↦ rw t.0 refl
]

-- the two ways to walk agree
pub resources_pieces-walked : (os : List Operation) (ps : List Path) (k : ℕ) (rs : List Resource) (os' : List Operation) (ps' : List Path) →
    ((j : ℕ) → k ≤ j → filter (λ o. o.resource == j) os ≡ filter (λ o. o.resource == j) os') → ((j : ℕ) → k ≤ j → filter (λ p. p.resource == j) ps ≡ filter (λ p. p.resource == j) ps') →
    Grouped (λ o. o.resource) k os' → Grouped (λ p. p.resource) k ps' → resources_pieces os ps k rs ≡ walked os k rs os' ps'
unfolding resources_pieces walked
resources_pieces-walked os ps k [] os' ps' so sp go gp = refl
resources_pieces-walked os ps k (r ∷ rs) os' ps' so sp go gp =
    let names : names_at k os ≡ names_here k os' = ap (λ l. map (λ o. o.name) l) (so k (omega arith)) ∙ filter_here (λ o. o.resource) (λ o. o.name) k os' go in
    let trees : trees_at k ps ≡ trees_here k ps' = ap (λ l. map (λ p. p.tree) l) (sp k (omega arith)) ∙ filter_here (λ p. p.resource) (λ p. p.tree) k ps' gp in
    let rest = resources_pieces-walked os ps (k + 1) rs (operations_after k os') (paths_after k ps')
    (λ j h. so j (omega arith) ∙ filter_after (λ o. o.resource) j k os' (omega arith)) (λ j h. sp j (omega arith) ∙ filter_after (λ p. p.resource) j k ps' (omega arith))
    (grouped_after (λ o. o.resource) k os' go) (grouped_after (λ p. p.resource) k ps' gp) in
    rw (names, trees, rest) refl

-- what stands of resource k before later ones
grouped_front : {A X : Type 0} (r : X → ℕ) (make : A → X) (k : ℕ) (xs : List A) (ys : List X) → ((a : A) → r (make a) ≡ k) → Grouped r k ys → Grouped r k (map make xs ++ ys)
grouped_front r make k [] ys is g = g
grouped_front r make k (x ∷ xs) ys is g = let e : r (make x) ≡ k = is x in (omega arith, subst (λ n. Grouped r n (map make xs ++ ys)) (sym e) (grouped_front r make k xs ys is g))

here_front : {A X Y : Type 0} (r : X → ℕ) (v : X → Y) (make : A → X) (k : ℕ) (xs : List A) (ys : List X) → ((a : A) → r (make a) ≡ k) → Grouped r (k + 1) ys → here r v k (map make xs ++ ys) ≡ map (λ a. v (make a)) xs
here_front r v make k [] ys is g = none_here r v k ys g
here_front r v make k (x ∷ xs) ys is g = let e : (r (make x) == k) ≡ true = equal_to (r (make x)) k (is x) in rw e (ap (λ l. v (make x) ∷ l) (here_front r v make k xs ys is g))

after_front : {A X : Type 0} (r : X → ℕ) (make : A → X) (k : ℕ) (xs : List A) (ys : List X) → ((a : A) → r (make a) ≡ k) → Grouped r (k + 1) ys → after r k (map make xs ++ ys) ≡ ys
after_front r make k [] ys is g = none_after r k ys g
after_front r make k (x ∷ xs) ys is g = let e : (r (make x) == k) ≡ true = equal_to (r (make x)) k (is x) in rw e (after_front r make k xs ys is g)

operations_grouped : (k : ℕ) (rs : List ResourceForm) → Grouped (λ o. o.resource) k (operations_from k rs)
operations_grouped k [] = tt
operations_grouped k (r ∷ rs) = grouped_front (λ o. o.resource) (λ n. record { name = n; resource = k }) k r.operations (operations_from (k + 1) rs) (λ a. refl) (grouped_later (λ o. o.resource) k (k + 1) (operations_from (k + 1) rs) (omega arith) (operations_grouped (k + 1) rs))

forms_grouped : (k : ℕ) (rs : List ResourceForm) → Grouped (λ f. f.0) k (paths_from k rs)
forms_grouped k [] = tt
forms_grouped k (r ∷ rs) = grouped_front (λ f. f.0) (λ f. (k, f)) k r.paths (paths_from (k + 1) rs) (λ a. refl) (grouped_later (λ f. f.0) k (k + 1) (paths_from (k + 1) rs) (omega arith) (forms_grouped (k + 1) rs))

paths_grouped : (ns : List (List ℕ)) (k : ℕ) (fs : List (ℕ × Form)) (ps : List Path) → ArePathsOf ns fs ps → Grouped (λ f. f.0) k fs → Grouped (λ p. p.resource) k ps
paths_grouped ns k [] [] a g = tt
paths_grouped ns k [] (p ∷ ps) a g = absurd a
paths_grouped ns k (f ∷ fs) [] a g = absurd a
paths_grouped ns k (f ∷ fs) (p ∷ ps) a g = let e : p.resource ≡ f.0 = a.0.0 in let low : k ≤ f.0 = g.0 in (omega arith, subst (λ n. Grouped (λ q. q.resource) n ps) (sym e) (paths_grouped ns f.0 fs ps a.1 g.1))

-- the paths of resource k, and those of later ones
paths_front : (os : List Operation) (k : ℕ) (fs : List Form) (later : List (ℕ × Form)) (ps : List Path) → Grouped (λ f. f.0) (k + 1) later → ArePathsOf (map (λ o. o.name) os) (map (λ f. (k, f)) fs ++ later) ps →
    (paths_pieces os (trees_here k ps) ≡ path_forms fs) × ArePathsOf (map (λ o. o.name) os) later (paths_after k ps)
paths_front os k [] later ps g a =
    let late = paths_grouped (map (λ o. o.name) os) (k + 1) later ps a g in
    (ap (λ ts. paths_pieces os ts) (none_here (λ p. p.resource) (λ p. p.tree) k ps late), subst (λ l. ArePathsOf (map (λ o. o.name) os) later l) (sym (none_after (λ p. p.resource) k ps late)) a)
paths_front os k (f ∷ fs) later [] g a = absurd a
paths_front os k (f ∷ fs) later (p ∷ ps) g a =
    let e : (p.resource == k) ≡ true = equal_to p.resource k a.0.0 in
    let t = tree_form os f p.tree InSeq a.0.1 in
    let rest = paths_front os k fs later ps g a.1 in
    rw e (rw (t, rest.0) refl, rest.1)

map_same : {X : Type 0} (xs : List X) → map (λ x. x) xs ≡ xs
map_same [] = refl
map_same (x ∷ xs) = ap (λ l. x ∷ l) (map_same xs)

pub walked-forms : (os : List Operation) (k : ℕ) (rs : List ResourceForm) (qs : List Resource) (ps : List Path) → AreResourcesOf rs qs → ArePathsOf (map (λ o. o.name) os) (paths_from k rs) ps → walked os k qs (operations_from k rs) ps ≡ resource_forms rs
unfolding walked
walked-forms os k [] [] ps h a = refl
walked-forms os k [] (q ∷ qs) ps h a = absurd h
walked-forms os k (r ∷ rs) [] ps h a = absurd h
walked-forms os k (r ∷ rs) (q ∷ qs) ps h a =
    let name : q.name ≡ r.name = h.0.0 in
    let law : law_pieces q.law ≡ law_form r.law = printed_law r.law q.law h.0.1 in
    let later = operations_grouped (k + 1) rs in
    let names : names_here k (operations_from k (r ∷ rs)) ≡ r.operations = here_front (λ o. o.resource) (λ o. o.name) (λ n. record { name = n; resource = k }) k r.operations (operations_from (k + 1) rs) (λ n. refl) later ∙ map_same r.operations in
    let left : operations_after k (operations_from k (r ∷ rs)) ≡ operations_from (k + 1) rs = after_front (λ o. o.resource) (λ n. record { name = n; resource = k }) k r.operations (operations_from (k + 1) rs) (λ n. refl) later in
    let front = paths_front os k r.paths (paths_from (k + 1) rs) ps (forms_grouped (k + 1) rs) a in
    let rest = walked-forms os (k + 1) rs qs (paths_after k ps) h.1 front.1 in
    rw (name, law, names, left, front.0, rest) refl

map_back : (k : ℕ) (ns : List (List ℕ)) → map (λ o. o.name) (map (λ n. let o : Operation = record { name = n; resource = k } in o) ns) ≡ ns
map_back k [] = refl
map_back k (n ∷ ns) = ap (λ l. n ∷ l) (map_back k ns)

pub names-operations_from : (k : ℕ) (rs : List ResourceForm) → map (λ o. o.name) (operations_from k rs) ≡ all_operations rs
names-operations_from k [] = refl
names-operations_from k (r ∷ rs) =
    map-append (λ o. o.name) (map (λ n. let o : Operation = record { name = n; resource = k } in o) r.operations) (operations_from (k + 1) rs)
    ∙ ap (λ l. l ++ map (λ o. o.name) (operations_from (k + 1) rs)) (map_back k r.operations) ∙ ap (λ l. r.operations ++ l) (names-operations_from (k + 1) rs)

pub names_declared : (d : Declaration) (rs : List ResourceForm) → Declares rs d → map (λ o. o.name) d.operations ≡ all_operations rs
names_declared d rs is = ap (λ l. map (λ o. o.name) l) is.operations ∙ names-operations_from 0 rs

-- the tokens of a declaration are those of its forms, however they are walked
pub walked-declared : (d : Declaration) (rs : List ResourceForm) → Declares rs d → walked d.operations 0 d.resources d.operations d.paths ≡ resource_forms rs
walked-declared d rs is =
    ap (λ l. walked d.operations 0 d.resources l d.paths) is.operations
    ∙ walked-forms d.operations 0 rs d.resources d.paths is.resources (subst (λ ns. ArePathsOf ns (paths_from 0 rs) d.paths) (sym (names_declared d rs is)) is.paths)

pub declaration_pieces-walked : (d : Declaration) (rs : List ResourceForm) → Declares rs d → declaration_pieces d ≡ walked d.operations 0 d.resources d.operations d.paths
declaration_pieces-walked d rs is =
    resources_pieces-walked d.operations d.paths 0 d.resources d.operations d.paths (λ j h. refl) (λ j h. refl)
    (subst (λ l. Grouped (λ o. o.resource) 0 l) (sym is.operations) (operations_grouped 0 rs))
    (paths_grouped (all_operations rs) 0 (paths_from 0 rs) d.paths is.paths (forms_grouped 0 rs))
