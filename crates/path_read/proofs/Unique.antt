-- A text is the text of at most one declaration.
use Rattle.std.proofs.Common.{◌≡◌, ℕ, ◌+◌, List, [], ◌∷◌, map, Option, Some, None, refl, sym, ap, ◌∙◌, subst, arith}
use Rattle.std.specs.List.{AllByRecursion}
use Rattle.std.proofs.lemmas.List.Elements.{recursion_from_All}
use Rattle.path_model.specs.declared.resource.Law.{Law}
use Rattle.path_model.specs.declared.resource.Law.TheVariants.{Queue}
use Rattle.path_model.specs.Trees.{Bound, any, most, Tree, op, seq, alt, burst, FewAtOnce}
use Rattle.path_model.specs.Legal.{numbered, Every}
use Rattle.path_model.specs.Declarations.{Resource, Path, Declaration}
use Rattle.path_lex.specs.Spelling.{Placed, pieces, Spells, by_end, by_space, by_mark, by_word, by_number}
use Rattle.path_decl.specs.Forms.{Form, once, sequence, selection, braced, LawForm, a_cell, a_tally, a_queue, ResourceForm, all_operations}
use Rattle.path_decl.specs.Grammar.{IsFile}
use Rattle.path_decl.specs.Lawful.{IsDistinct, CapacityFits}
use Rattle.path_decl.specs.Declares.{IsBound, IsLawOf, Numbers, AreResourcesOf, paths_from, ArePathsOf, Declares}
use Rattle.path_decl.specs.Text.{IsDeclarationText}
use Rattle.path_lex.proofs.CallerLemmas.{end_only, space_only, mark_only, word_only, number_only}
use Rattle.path_read.proofs.Lists.{file_once}
use Rattle.path_read.proofs.Greedy.{reads_file}
use Rattle.path_read.proofs.NumeralLemmas.{denotes_once}
use Rattle.path_read.proofs.Ruled.{one_number}
use Rattle.path_read.proofs.FromLawful.{distinct_operations}
use Rattle.path_read.proofs.Whole.{same_lists}

with_first : (t : Placed) (ts us vs : List Placed) → ts ≡ us → vs ≡ t ∷ us → t ∷ ts ≡ vs
with_first t ts us vs e f = ap (λ x. t ∷ x) e ∙ sym f

-- a text is cut in one way
spells_once : {at : ℕ} {s : List ℕ} {ts us : List Placed} → Spells at s ts → Spells at s us → ts ≡ us
spells_once by_end q = sym (end_only q)
spells_once (by_space e r) q = spells_once r (space_only e q)
spells_once (by_mark e r) q = let f = mark_only e q in with_first _ _ _ _ (spells_once r f.2) f.1
spells_once (by_word e r) q = let f = word_only e q in with_first _ _ _ _ (spells_once r f.2) f.1
spells_once (by_number e r) q = let f = number_only e q in with_first _ _ _ _ (spells_once r f.2) f.1

-- trees whose bounds are the same, and that hold the same
same_braces : (c : Option (List ℕ)) (a b : Bound) (s t : Tree) → IsBound c a → IsBound c b → FewAtOnce (burst a s) → FewAtOnce (burst b t) → s ≡ t → burst a s ≡ burst b t
same_braces None any any s t x y h k e = ap (burst any) e
same_braces None any (most n) s t x y h k e = absurd y
same_braces None (most m) b s t x y h k e = absurd x
same_braces (Some ds) (most m) (most n) s t x y h k e = let f = denotes_once ds m n h.0 k.0 x y in ap (λ z. burst (most z) s) f ∙ ap (burst (most n)) e
same_braces (Some ds) (most m) any s t x y h k e = absurd y
same_braces (Some ds) any b s t x y h k e = absurd x

few_within : (b : Bound) (s : Tree) → FewAtOnce (burst b s) → FewAtOnce s
few_within any s h = h
few_within (most n) s h = h.1

one_tree : (ns : List (List ℕ)) → IsDistinct ns → (f : Form) (s t : Tree) → Numbers ns f s → Numbers ns f t → FewAtOnce s → FewAtOnce t → s ≡ t
one_tree ns d (once n) (op a) (op b) x y h k = ap op (one_number ns n a b d x y)
one_tree ns d (once n) (op a) (seq s t) x y h k = absurd y
one_tree ns d (once n) (op a) (alt s t) x y h k = absurd y
one_tree ns d (once n) (op a) (burst b s) x y h k = absurd y
one_tree ns d (once n) (seq s t) u x y h k = absurd x
one_tree ns d (once n) (alt s t) u x y h k = absurd x
one_tree ns d (once n) (burst b s) u x y h k = absurd x
one_tree ns d (sequence f g) (seq s t) (seq u v) x y h k =
    let a = one_tree ns d f s u x.0 y.0 h.0 k.0 in
    let b = one_tree ns d g t v x.1 y.1 h.1 k.1 in ap (λ z. seq z t) a ∙ ap (seq u) b
one_tree ns d (sequence f g) (seq s t) (op a) x y h k = absurd y
one_tree ns d (sequence f g) (seq s t) (alt u v) x y h k = absurd y
one_tree ns d (sequence f g) (seq s t) (burst b u) x y h k = absurd y
one_tree ns d (sequence f g) (op a) u x y h k = absurd x
one_tree ns d (sequence f g) (alt s t) u x y h k = absurd x
one_tree ns d (sequence f g) (burst b s) u x y h k = absurd x
one_tree ns d (selection f g) (alt s t) (alt u v) x y h k =
    let a = one_tree ns d f s u x.0 y.0 h.0 k.0 in
    let b = one_tree ns d g t v x.1 y.1 h.1 k.1 in ap (λ z. alt z t) a ∙ ap (alt u) b
one_tree ns d (selection f g) (alt s t) (op a) x y h k = absurd y
one_tree ns d (selection f g) (alt s t) (seq u v) x y h k = absurd y
one_tree ns d (selection f g) (alt s t) (burst b u) x y h k = absurd y
one_tree ns d (selection f g) (op a) u x y h k = absurd x
one_tree ns d (selection f g) (seq s t) u x y h k = absurd x
one_tree ns d (selection f g) (burst b s) u x y h k = absurd x
one_tree ns d (braced c f) (burst a s) (burst b t) x y h k = same_braces c a b s t x.0 y.0 h k (one_tree ns d f s t x.1 y.1 (few_within a s h) (few_within b t k))
one_tree ns d (braced c f) (burst a s) (op b) x y h k = absurd y
one_tree ns d (braced c f) (burst a s) (seq u v) x y h k = absurd y
one_tree ns d (braced c f) (burst a s) (alt u v) x y h k = absurd y
one_tree ns d (braced c f) (op a) u x y h k = absurd x
one_tree ns d (braced c f) (seq s t) u x y h k = absurd x
one_tree ns d (braced c f) (alt s t) u x y h k = absurd x

one_path : (p q : Path) → p.resource ≡ q.resource → p.tree ≡ q.tree → p ≡ q
one_path p q e f = ap (λ (r : ℕ). record p { resource = r }) e ∙ ap (λ (t : Tree). record q { tree = t }) f

-- in no tree more may overlap by a bound than the most
abbrev Few : ℕ → List Path → Type 0
Few n ps = Every FewAtOnce (numbered n (map (λ p. p.tree) ps))

same_paths : (ns : List (List ℕ)) → IsDistinct ns → (n : ℕ) (fs : List (ℕ × Form)) (ps qs : List Path) → ArePathsOf ns fs ps → ArePathsOf ns fs qs → Few n ps → Few n qs → ps ≡ qs
same_paths ns d n [] [] [] x y h k = refl
same_paths ns d n [] [] (q ∷ qs) x y h k = absurd y
same_paths ns d n [] (p ∷ ps) qs x y h k = absurd x
same_paths ns d n (f ∷ fs) [] qs x y h k = absurd x
same_paths ns d n (f ∷ fs) (p ∷ ps) [] x y h k = absurd y
same_paths ns d n (f ∷ fs) (p ∷ ps) (q ∷ qs) x y h k =
    let a = one_path p q (x.0.0 ∙ sym y.0.0) (one_tree ns d f.1 p.tree q.tree x.0.1 y.0.1 h.0 k.0) in
    let b = same_paths ns d (n + 1) fs ps qs x.1 y.1 h.1 k.1 in
    ap (λ z. z ∷ ps) a ∙ ap (λ z. q ∷ z) b

-- digits denote one law
same_law : (f : LawForm) (k l : Law) → IsLawOf f k → IsLawOf f l → CapacityFits k → CapacityFits l → k ≡ l
same_law a_cell k l x y h i = x ∙ sym y
same_law a_tally k l x y h i = x ∙ sym y
same_law (a_queue ds) k l x y h i =
    let a : CapacityFits (Queue x.0) = subst CapacityFits x.2 h in
    let b : CapacityFits (Queue y.0) = subst CapacityFits y.2 i in
    x.2 ∙ ap Queue (denotes_once ds x.0 y.0 (omega (arith, a.1)) (omega (arith, b.1)) x.1 y.1) ∙ sym y.2

one_resource : (p q : Resource) → p.name ≡ q.name → p.law ≡ q.law → p ≡ q
one_resource p q e f = ap (λ (n : List ℕ). record p { name = n }) e ∙ ap (λ (l : Law). record q { law = l }) f

-- the capacities of all queues fit
abbrev Fit : List Resource → Type 0
Fit rs = AllByRecursion (λ r. CapacityFits r.law) rs

same_resources : (fs : List ResourceForm) (ps qs : List Resource) → AreResourcesOf fs ps → AreResourcesOf fs qs → Fit ps → Fit qs → ps ≡ qs
same_resources [] [] [] x y h i = refl
same_resources [] [] (q ∷ qs) x y h i = absurd y
same_resources [] (p ∷ ps) qs x y h i = absurd x
same_resources (f ∷ fs) [] qs x y h i = absurd x
same_resources (f ∷ fs) (p ∷ ps) [] x y h i = absurd y
same_resources (f ∷ fs) (p ∷ ps) (q ∷ qs) x y h i =
    let a = one_resource p q (x.0.0 ∙ sym y.0.0) (same_law f.law p.law q.law x.0.1 y.0.1 h.0 i.0) in
    ap (λ z. z ∷ ps) a ∙ ap (λ z. q ∷ z) (same_resources fs ps qs x.1 y.1 h.1 i.1)

same_declared : (rs : List ResourceForm) (d e : Declaration) → IsDistinct (all_operations rs) → Declares rs d → Declares rs e → Fit d.resources → Fit e.resources → Few 0 d.paths → Few 0 e.paths → d ≡ e
same_declared rs d e h x y fit fits few more = same_lists _ _ _ _ _ _ (same_resources rs d.resources e.resources x.resources y.resources fit fits) (x.operations ∙ sym y.operations) (same_paths (all_operations rs) h 0 (paths_from 0 rs) d.paths e.paths x.paths y.paths few more)

pub declares_once : (text : List ℕ) (d e : Declaration) → IsDeclarationText text d → IsDeclarationText text e → d ≡ e
declares_once text d e x y =
    let ts : x.tokens ≡ y.tokens = spells_once x.cut.spelled y.cut.spelled in
    let f : IsFile (pieces y.tokens) x.forms = subst (λ z. IsFile (pieces z) x.forms) ts x.file in
    let same : x.forms ≡ y.forms = file_once (reads_file f) (reads_file y.file) in
    let names : IsDistinct (all_operations y.forms) = distinct_operations y.forms e y.declares y.lawful in
    let fit = recursion_from_All (λ r. CapacityFits r.law) d.resources x.lawful.capacities in
    let fits = recursion_from_All (λ r. CapacityFits r.law) e.resources y.lawful.capacities in
    same_declared y.forms d e names (subst (λ z. Declares z d) same x.declares) y.declares fit fits x.lawful.bounded y.lawful.bounded
