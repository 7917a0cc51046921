-- What the parts of forms need, and what they make.
use Rattle.std.proofs.Common.{◌≡◌, ◌≢◌, ℕ, suc, ◌+◌, ◌<◌, ◌≤◌, List, [], ◌∷◌, ◌++◌, length, get_or, refl, sym, ap, ◌∙◌, subst, append_assoc, arith, Contains, slice_get, Some, ◌-◌}
use Rattle.std.specs.List.{AllByRecursion}
use Rattle.std.proofs.lemmas.List.{append-nil, length-append, get_or_append_left, get_or-append_right}
use Rattle.std.proofs.lemmas.List.Elements.{Contains-get_or}
use Rattle.std.proofs.lemmas.List.Quantifiers.{all_pairs_push}
use Rattle.path_model.specs.Trees.{Tree, op, seq, alt, burst}
use Rattle.path_model.specs.Declarations.{Operation}
use Rattle.path_decl.specs.Forms.{Form, once, sequence, selection, braced, names_in, BoundFits}
use Rattle.path_read.specs.Inner.Parts.{Saying, a_sequence, a_selection, a_closing, form_parts}
use Rattle.path_decl.specs.Lawful.{IsDistinct}
use Rattle.path_read.specs.Inner.Building.{Drafted, number_of, bound_of, Allowed, after, AllAllowed, after_all}
use Rattle.path_read.proofs.FormRules.{BracesFit}

pub after_all-append : (xs ys : List Saying) (d : Drafted) → after_all (xs ++ ys) d ≡ after_all ys (after_all xs d)
after_all-append [] ys d = refl
after_all-append (x ∷ xs) ys d = after_all-append xs ys (after x d)

pub allowed-append : (xs ys : List Saying) (d : Drafted) → AllAllowed xs d → AllAllowed ys (after_all xs d) → AllAllowed (xs ++ ys) d
allowed-append [] ys d a b = b
allowed-append (x ∷ xs) ys d a b = (a.0, allowed-append xs ys (after x d) a.1 b)

pub allowed_front : (xs ys : List Saying) (d : Drafted) → AllAllowed (xs ++ ys) d → AllAllowed xs d
allowed_front [] ys d a = tt
allowed_front (x ∷ xs) ys d a = (a.0, allowed_front xs ys (after x d) a.1)

pub allowed_back : (xs ys : List Saying) (d : Drafted) → AllAllowed (xs ++ ys) d → AllAllowed ys (after_all xs d)
allowed_back [] ys d a = a
allowed_back (x ∷ xs) ys d a = allowed_back xs ys (after x d) a.1

-- facts on each of a list
pub each-append : {X : Type 0} (P : X → Type 0) (xs ys : List X) → AllByRecursion P xs → AllByRecursion P ys → AllByRecursion P (xs ++ ys)
each-append P [] ys a b = b
each-append P (x ∷ xs) ys a b = (a.0, each-append P xs ys a.1 b)

pub each_front : {X : Type 0} (P : X → Type 0) (xs ys : List X) → AllByRecursion P (xs ++ ys) → AllByRecursion P xs
each_front P [] ys a = tt
each_front P (x ∷ xs) ys a = (a.0, each_front P xs ys a.1)

pub each_back : {X : Type 0} (P : X → Type 0) (xs ys : List X) → AllByRecursion P (xs ++ ys) → AllByRecursion P ys
each_back P [] ys a = a
each_back P (x ∷ xs) ys a = each_back P xs ys a.1

pub each_then : {X : Type 0} (P Q : X → Type 0) → ((x : X) → P x → Q x) → (xs : List X) → AllByRecursion P xs → AllByRecursion Q xs
each_then P Q f [] a = tt
each_then P Q f (x ∷ xs) a = (f x a.0, each_then P Q f xs a.1)

-- each name is new after those before it, of which there are fewer than k
abbrev pub Fresh : ℕ → List (List ℕ) → List (List ℕ) → Type 0
Fresh k N [] = Unit {0}
Fresh k N (n ∷ ns) = (Contains N n → ⊥) × (length N < k) × Fresh k (N ++ n ∷ []) ns

pub fresh-append : (k : ℕ) (N xs ys : List (List ℕ)) → Fresh k N xs → Fresh k (N ++ xs) ys → Fresh k N (xs ++ ys)
fresh-append k N [] ys a b = subst (λ z. Fresh k z ys) (append-nil N) b
fresh-append k N (x ∷ xs) ys a b = (a.0, a.1, fresh-append k (N ++ x ∷ []) xs ys a.2 (subst (λ z. Fresh k z ys) (sym (append_assoc N (x ∷ []) xs)) b))

pub fresh_front : (k : ℕ) (N xs ys : List (List ℕ)) → Fresh k N (xs ++ ys) → Fresh k N xs
fresh_front k N [] ys a = tt
fresh_front k N (x ∷ xs) ys a = (a.0, a.1, fresh_front k (N ++ x ∷ []) xs ys a.2)

pub fresh_back : (k : ℕ) (N xs ys : List (List ℕ)) → Fresh k N (xs ++ ys) → Fresh k (N ++ xs) ys
fresh_back k N [] ys a = subst (λ z. Fresh k z ys) (sym (append-nil N)) a
fresh_back k N (x ∷ xs) ys a = subst (λ z. Fresh k z ys) (append_assoc N (x ∷ []) xs) (fresh_back k (N ++ x ∷ []) xs ys a.2)

differs : (N : List (List ℕ)) (n : List ℕ) → (Contains N n → ⊥) → (j : ℕ) (d : List ℕ) → j < length N → get_or N j d ≡ n → ⊥
differs N n none j d lt e = none (subst (λ x. Contains N x) e (Contains-get_or N j d lt))

pub fresh_distinct : (k : ℕ) (N ns : List (List ℕ)) → IsDistinct N → length N ≤ k → Fresh k N ns → IsDistinct (N ++ ns) × (length (N ++ ns) ≤ k)
fresh_distinct k N [] d le f = let e = append-nil N in (subst IsDistinct (sym e) d, subst (λ z. length z ≤ k) (sym e) le)
fresh_distinct k N (n ∷ ns) d le f =
    let more : IsDistinct (N ++ n ∷ []) = all_pairs_push (λ a b. a ≢ b) N n d (differs N n f.0) in
    let room : length (N ++ n ∷ []) ≤ k = simp length-append (omega (arith, f.1)) in
    let r = fresh_distinct k (N ++ n ∷ []) ns more room f.2 in
    let e = append_assoc N (n ∷ []) ns in
    (subst IsDistinct e r.0, subst (λ z. length z ≤ k) e r.1)

new_name : (N ns : List (List ℕ)) (n : List ℕ) → IsDistinct (N ++ n ∷ ns) → Contains N n → ⊥
new_name N ns n d c =
    let lt : c.0 < length N = c.1 in
    let long : length N < length (N ++ n ∷ ns) = simp length-append (omega arith) in
    let a : get_or (N ++ n ∷ ns) c.0 n ≡ n = get_or_append_left N (n ∷ ns) n c.0 lt ∙ c.2 in
    let z : length N - length N ≡ 0 = omega arith in
    let b : get_or (N ++ n ∷ ns) (length N) n ≡ n = get_or-append_right N (n ∷ ns) (length N) (length N) n refl (omega arith) ∙ ap (λ i. get_or (n ∷ ns) i n) z in
    d c.0 (length N) n lt long (a ∙ sym b)

pub distinct_fresh : (k : ℕ) (N ns : List (List ℕ)) → IsDistinct (N ++ ns) → length (N ++ ns) ≤ k → Fresh k N ns
distinct_fresh k N [] d le = tt
distinct_fresh k N (n ∷ ns) d le =
    let e = append_assoc N (n ∷ []) ns in
    let all : length N + suc (length ns) ≤ k = simp length-append at le in
    (new_name N ns n d, omega arith, distinct_fresh k (N ++ n ∷ []) ns (subst IsDistinct (sym e) d) (subst (λ z. length z ≤ k) (sym e) le))

-- the tree of a form, with the numbers of the names
abbrev pub tree_in : List Operation → Form → Tree
tree_in os (once n) = op (record { 0 = number_of os n })
tree_in os (sequence s t) = seq (tree_in os s) (tree_in os t)
tree_in os (selection s t) = alt (tree_in os s) (tree_in os t)
tree_in os (braced b s) = burst (bound_of b) (tree_in os s)

-- the name stands for an operation of the resource
abbrev pub IsOwn : List Operation → ℕ → List ℕ → Type 0
IsOwn os r n = slice_get os (number_of os n) ≡ Some (record { name = n; resource = r })

-- the draft with one tree and its names more
abbrev pub with_tree : Drafted → Tree → List (List ℕ) → Drafted
with_tree d t ns = record d { open_trees = t ∷ d.open_trees; named = ns }

after_two : (s t : List Saying) (o : Saying) (d e f : Drafted) → after_all s d ≡ e → after_all t e ≡ f → after_all (s ++ (t ++ o ∷ [])) d ≡ after o f
after_two s t o d e f p q =
    after_all-append s (t ++ o ∷ []) d ∙ ap (after_all (t ++ o ∷ [])) p ∙ after_all-append t (o ∷ []) e ∙ ap (after o) q

-- the draft with a brace more that is open
abbrev pub opened : Drafted → Drafted
opened d = record d { braces = d.braces + 1 }

closed_again : (n : ℕ) → n + 1 - 1 ≡ n
closed_again n = omega arith

pub after_form : (f : Form) (d : Drafted) → after_all (form_parts f) d ≡ with_tree d (tree_in d.operations f) (d.named ++ names_in f)
after_form (once n) d = refl
after_form (sequence s t) d =
    after_two (form_parts s) (form_parts t) a_sequence d _ _ (after_form s d) (after_form t (with_tree d (tree_in d.operations s) (d.named ++ names_in s)))
    ∙ ap (with_tree d (seq (tree_in d.operations s) (tree_in d.operations t))) (append_assoc d.named (names_in s) (names_in t))
after_form (selection s t) d =
    after_two (form_parts s) (form_parts t) a_selection d _ _ (after_form s d) (after_form t (with_tree d (tree_in d.operations s) (d.named ++ names_in s)))
    ∙ ap (with_tree d (alt (tree_in d.operations s) (tree_in d.operations t))) (append_assoc d.named (names_in s) (names_in t))
after_form (braced b s) d =
    after_all-append (form_parts s) (a_closing b ∷ []) (opened d) ∙ ap (after (a_closing b)) (after_form s (opened d))
    ∙ ap (λ (n : ℕ). record (with_tree d (burst (bound_of b) (tree_in d.operations s)) (d.named ++ names_in s)) { braces = n }) (closed_again d.braces)

allowed_two : (s t : List Saying) (o : Saying) (d e f : Drafted) → after_all s d ≡ e → after_all t e ≡ f → AllAllowed s d → AllAllowed t e → Allowed o f → AllAllowed (s ++ (t ++ o ∷ [])) d
allowed_two s t o d e f p q a b c =
    allowed-append s (t ++ o ∷ []) d a (subst (AllAllowed (t ++ o ∷ [])) (sym p) (allowed-append t (o ∷ []) e b (subst (AllAllowed (o ∷ [])) (sym q) (c, tt))))

pub form_allowed : (f : Form) (d : Drafted) → AllByRecursion (IsOwn d.operations d.resource) (names_in f) → Fresh 64 d.named (names_in f) → BracesFit d.braces f → AllAllowed (form_parts f) d
form_allowed (once n) d o h b = (record { own = o.0; new = h.0; room = h.1 }, tt)
form_allowed (sequence s t) d o h b =
    let e = with_tree d (tree_in d.operations s) (d.named ++ names_in s) in
    allowed_two (form_parts s) (form_parts t) a_sequence d e _ (after_form s d) (after_form t e)
    (form_allowed s d (each_front (IsOwn d.operations d.resource) (names_in s) (names_in t) o) (fresh_front 64 d.named (names_in s) (names_in t) h) b.0)
    (form_allowed t e (each_back (IsOwn d.operations d.resource) (names_in s) (names_in t) o) (fresh_back 64 d.named (names_in s) (names_in t) h) b.1) tt
form_allowed (selection s t) d o h b =
    let e = with_tree d (tree_in d.operations s) (d.named ++ names_in s) in
    allowed_two (form_parts s) (form_parts t) a_selection d e _ (after_form s d) (after_form t e)
    (form_allowed s d (each_front (IsOwn d.operations d.resource) (names_in s) (names_in t) o) (fresh_front 64 d.named (names_in s) (names_in t) h) b.0)
    (form_allowed t e (each_back (IsOwn d.operations d.resource) (names_in s) (names_in t) o) (fresh_back 64 d.named (names_in s) (names_in t) h) b.1) tt
form_allowed (braced c s) d o h b =
    (b.0, allowed-append (form_parts s) (a_closing c ∷ []) (opened d) (form_allowed s (opened d) o h b.1) (subst (AllAllowed (a_closing c ∷ [])) (sym (after_form s (opened d))) ((tt, b.2), tt)))

-- what the parts of a form ask for
abbrev pub FormFits : List Operation → ℕ → List (List ℕ) → List (List ℕ) → Type 0
FormFits os r N ns = AllByRecursion (IsOwn os r) ns × Fresh 64 N ns

both_fit : (os : List Operation) (r : ℕ) (N xs ys : List (List ℕ)) → FormFits os r N xs → FormFits os r (N ++ xs) ys → FormFits os r N (xs ++ ys)
both_fit os r N xs ys a b = (each-append (IsOwn os r) xs ys a.0 b.0, fresh-append 64 N xs ys a.1 b.1)

kept_two : (s t : List Saying) (o : Saying) (d e : Drafted) → after_all s d ≡ e → AllAllowed (s ++ (t ++ o ∷ [])) d → AllAllowed s d × AllAllowed t e
kept_two s t o d e p a = (allowed_front s (t ++ o ∷ []) d a, allowed_front t (o ∷ []) e (subst (AllAllowed (t ++ o ∷ [])) p (allowed_back s (t ++ o ∷ []) d a)))

pub form_kept : (f : Form) (d : Drafted) → AllAllowed (form_parts f) d → FormFits d.operations d.resource d.named (names_in f)
form_kept (once n) d a = ((a.0.own, tt), (a.0.new, a.0.room, tt))
form_kept (sequence s t) d a =
    let e = with_tree d (tree_in d.operations s) (d.named ++ names_in s) in
    let k = kept_two (form_parts s) (form_parts t) a_sequence d e (after_form s d) a in
    both_fit d.operations d.resource d.named (names_in s) (names_in t) (form_kept s d k.0) (form_kept t e k.1)
form_kept (selection s t) d a =
    let e = with_tree d (tree_in d.operations s) (d.named ++ names_in s) in
    let k = kept_two (form_parts s) (form_parts t) a_selection d e (after_form s d) a in
    both_fit d.operations d.resource d.named (names_in s) (names_in t) (form_kept s d k.0) (form_kept t e k.1)
form_kept (braced c s) d a = form_kept s (opened d) (allowed_front (form_parts s) (a_closing c ∷ []) (opened d) a.1)

-- what the parts of a form ask for of its braces
pub braces_kept : (f : Form) (d : Drafted) → AllAllowed (form_parts f) d → BracesFit d.braces f
braces_kept (once n) d a = tt
braces_kept (sequence s t) d a =
    let e = with_tree d (tree_in d.operations s) (d.named ++ names_in s) in
    let k = kept_two (form_parts s) (form_parts t) a_sequence d e (after_form s d) a in (braces_kept s d k.0, braces_kept t e k.1)
braces_kept (selection s t) d a =
    let e = with_tree d (tree_in d.operations s) (d.named ++ names_in s) in
    let k = kept_two (form_parts s) (form_parts t) a_selection d e (after_form s d) a in (braces_kept s d k.0, braces_kept t e k.1)
braces_kept (braced c s) d a =
    let fits : BoundFits c = (allowed_back (form_parts s) (a_closing c ∷ []) (opened d) a.1).0.1 in
    (a.0, braces_kept s (opened d) (allowed_front (form_parts s) (a_closing c ∷ []) (opened d) a.1), fits)
