-- Names by their numbers in a table.
use Rattle.std.proofs.Common.{◌≡◌, ◌≢◌, ◌==◌, ℕ, ◌+◌, ◌<◌, ◌≤◌, Bool, true, false, if◌then◌else◌, Result, Ok, Err, List, [], ◌∷◌, ◌++◌, All, length, get_or, map, refl, sym, ap, ◌∙◌, subst, arith, Contains, slice_get, Some}
use Rattle.std.specs.Bool.{Decides}
use Rattle.std.specs.List.{IsAnyAnswer}
use Rattle.std.specs.Result.{OnOk, OnErr}
use Rattle.std.specs.String.{string_bytes}
use Rattle.std.specs.Prelude.{String}
use Rattle.std.proofs.lemmas.List.{get_or-map, length-map, length-append, get_or_append_left}
use Rattle.std.proofs.lemmas.List.Elements.{All-head, All-tail, All-push, Contains-get_or, contains_decides, Decides-contains}
use Rattle.std.proofs.lemmas.List.Quantifiers.{all_pairs_push}
use Rattle.std.proofs.lemmas.Option.{slice_get-get_or, get_or_from_slice_get}
use Rattle.std.specs.Cmp.{unsigned_Decides}
use Rattle.path_model.specs.declared.ids.OpId.{OpId}
use Rattle.path_model.specs.declared.ids.ResId.{ResId}
use Rattle.path_decl.specs.Lawful.{IsDistinct}
use Rattle.path_decl.specs.Table.{names_of, name_at}
use Rattle.path_read.proofs.TableLemmas.{pushed}
use Rattle.path_read.proofs.Ruled.{one_number}

-- the numbers are below n
abbrev pub AreBelow : ℕ → List OpId → Type 0
AreBelow n xs = All (λ a. a.0 < n) xs

pub still_below : (m n : ℕ) (xs : List OpId) → m ≤ n → AreBelow m xs → AreBelow n xs
still_below m n xs le h = λ k d lt. omega (arith, h k d lt, le)

-- a push that may fail leaves them below n
pub below_pushed : (n : ℕ) (xs ys : List OpId) (a : OpId) (b : Bool) → ys ≡ (if b then xs ++ a ∷ [] else xs) → AreBelow n xs → a.0 < n → AreBelow n ys
below_pushed n xs ys a true e h lt = subst (AreBelow n) (sym e) (All-push (λ b. b.0 < n) xs a h lt)
below_pushed n xs ys a false e h lt = subst (AreBelow n) (sym e) h

-- no two names are one when a new one is added
pub still_distinct : (ns : List (List ℕ)) (n : List ℕ) → IsDistinct ns → (Contains ns n → ⊥) → IsDistinct (ns ++ n ∷ [])
still_distinct ns n d none = all_pairs_push (λ a b. a ≢ b) ns n d (λ j x lt e. none (subst (λ y. Contains ns y) e (Contains-get_or ns j x lt)))

-- an insertion that may fail leaves a table of distinct names, which has the numbers still
pub table_kept : {Y T E : Type 0} (es fs ins : List (String Y × ResId)) (k : String Y) (v : ResId) (n : List ℕ) (xs : List OpId) (r : Result T E) → ins ≡ es ++ (k, v) ∷ [] → string_bytes k ≡ n → OnOk r (fs ≡ ins) → OnErr r (fs ≡ es)
    → IsDistinct (names_of es) → (Contains (names_of es) n → ⊥) → AreBelow (length es) xs → IsDistinct (names_of fs) × AreBelow (length fs) xs
table_kept es fs ins k v n xs (Ok x) more key p q d none h =
    let names = pushed es fs k v n key (p ∙ more) in
    let longer : length fs ≡ length es + 1 = ap length (p ∙ more) ∙ simp length-append (omega arith) in
    (subst IsDistinct (sym names) (still_distinct (names_of es) n d none), still_below (length es) (length fs) xs (omega (arith, longer)) h)
table_kept es fs ins k v n xs (Err e) more key p q d none h =
    let same : length fs ≡ length es = ap length q in
    (subst IsDistinct (sym (ap names_of q)) d, still_below (length es) (length fs) xs (omega (arith, same)) h)

-- nor does it pass the limit, where the table was below it
pub still_room : {Y T E : Type 0} (es fs ins : List (String Y × ResId)) (k : String Y) (v : ResId) (r : Result T E) → ins ≡ es ++ (k, v) ∷ [] → OnOk r (fs ≡ ins) → OnErr r (fs ≡ es) → length es < 256 → length fs ≤ 256
still_room es fs ins k v (Ok x) more p q room =
    let longer : length fs ≡ length es + 1 = ap length (p ∙ more) ∙ simp length-append (omega arith) in
    omega (arith, longer)
still_room es fs ins k v (Err e) more p q room =
    let same : length fs ≡ length es = ap length q in
    omega (arith, same)

-- numbers keep their names when a name is added
pub names_kept : (ns : List (List ℕ)) (n : List ℕ) (xs : List OpId) → AreBelow (length ns) xs → map (name_at (ns ++ n ∷ [])) xs ≡ map (name_at ns) xs
names_kept ns n [] h = refl
names_kept ns n (a ∷ xs) h =
    ap (λ (x : List ℕ). x ∷ map (name_at (ns ++ n ∷ [])) xs) (get_or_append_left ns (n ∷ []) [] a.0 (All-head (λ b. b.0 < length ns) a xs h))
    ∙ ap (λ x. name_at ns a ∷ x) (names_kept ns n xs (All-tail (λ b. b.0 < length ns) a xs h))

same_number : (a b : OpId) → Decides (a.0 == b.0) (a ≡ b)
same_number a b = let u = unsigned_Decides a.0 b.0 in (λ e. ap (λ (i : ℕ). record { 0 = i }) (u.0 e), λ e. u.1 (ap (λ x. x.0) e))

-- whether a number is among others
pub holds_number : (xs : List OpId) (a : OpId) (r : Bool) → IsAnyAnswer (λ b t. (b.0 == a.0) ≡ t) xs r → Decides r (Contains xs a)
holds_number xs a r h = Decides-contains xs a r (contains_decides (λ x y. x.0 == y.0) same_number xs a r h)

-- a name is among those of numbers if and only if its own number is among these
pub named_by : (ns : List (List ℕ)) (n : List ℕ) (a : OpId) (xs : List OpId) → slice_get ns a.0 ≡ Some n → Contains xs a → Contains (map (name_at ns) xs) n
named_by ns n a xs e c = (c.0, simp length-map c.1, get_or-map (name_at ns) xs c.0 a n c.1 ∙ ap (name_at ns) c.2 ∙ get_or_from_slice_get ns a.0 n [] e)

pub numbered_by : (ns : List (List ℕ)) (n : List ℕ) (a : OpId) (xs : List OpId) → IsDistinct ns → AreBelow (length ns) xs → slice_get ns a.0 ≡ Some n → Contains (map (name_at ns) xs) n → Contains xs a
numbered_by ns n a xs d h e c =
    let lt : c.0 < length xs = simp length-map at c.1 in
    let b = get_or xs c.0 a in
    let is : name_at ns b ≡ n = sym (get_or-map (name_at ns) xs c.0 a n lt) ∙ c.2 in
    let f : slice_get ns b.0 ≡ Some n = slice_get-get_or ns b.0 [] (h c.0 a lt) ∙ ap Some is in (c.0, lt, one_number ns n b a d f e)
