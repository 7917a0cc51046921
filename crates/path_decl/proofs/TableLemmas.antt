-- Which names a table has.
use Rattle.std.proofs.Common.{◌≡◌, ℕ, zero, suc, Bool, true, false, cond, Option, Some, None, List, [], ◌∷◌, get_or, map, refl, sym, ap, ◌∙◌, arith, Contains, slice_get, option_map, IfSome, IfNone}
use Rattle.std.specs.Option.{is_some}
use Rattle.std.specs.List.{position}
use Rattle.std.specs.Map.{lookup, keys_of}
use Rattle.std.specs.Str.{bytes_eq}
use Rattle.std.specs.String.{string_bytes}
use Rattle.std.specs.Prelude.{String}
use Rattle.std.proofs.lemmas.Slice.Eq.{bytes_eq-Decides}
use Rattle.std.proofs.lemmas.List.{get_or-map, length-map}
use Rattle.std.proofs.lemmas.List.Quantifiers.{position-Some}
use Rattle.std.proofs.lemmas.Option.{slice_get-get_or}
use Rattle.std.proofs.lemmas.Option.{slice_get-map}
use Rattle.path_model.specs.declared.ids.ResId.{ResId}
use Rattle.path_model.specs.declared.resource.Law.{Law}
use Rattle.path_decl.specs.Table.{names_of, operation_shown, operations_of, resource_shown, resources_of}

-- whether a key has these bytes
abbrev pub is_named : {Y : Type 0} → List ℕ → String Y → Bool
is_named bs = λ k. bytes_eq bs (string_bytes k)

pub later : (x : List ℕ) (xs : List (List ℕ)) (v : List ℕ) → Contains xs v → Contains (x ∷ xs) v
later x xs v c = (suc c.0, omega (arith, c.1), c.2)

has_first : {Y V : Type 0} (e : String Y × V) (es : List (String Y × V)) (bs : List ℕ) (b : Bool) → is_named bs e.0 ≡ b → (is_some (lookup (is_named bs) es) ≡ true → Contains (names_of es) bs)
    → is_some (cond b (Some e.1) (lookup (is_named bs) es)) ≡ true → Contains (names_of (e ∷ es)) bs
has_first e es bs true f more h = (0, omega arith, sym ((bytes_eq-Decides bs (string_bytes e.0)).0 f))
has_first e es bs false f more h = later (string_bytes e.0) (names_of es) bs (more h)

pub has_name : {Y V : Type 0} (es : List (String Y × V)) (bs : List ℕ) → is_some (lookup (is_named bs) es) ≡ true → Contains (names_of es) bs
has_name [] bs h = absurd (cc)
has_name (e ∷ es) bs h = has_first e es bs (is_named bs e.0) refl (has_name es bs) h

not_first : {V : Type 0} (b : Bool) (v : V) (o : Option V) → is_some (cond b (Some v) o) ≡ false → (b ≡ false) × (is_some o ≡ false)
not_first true v o h = absurd (cc)
not_first false v o h = (refl, h)

pub lacks_name : {Y V : Type 0} (es : List (String Y × V)) (bs : List ℕ) → is_some (lookup (is_named bs) es) ≡ false → Contains (names_of es) bs → ⊥
lacks_name [] bs h c = omega (arith, c.1)
lacks_name (e ∷ es) bs h (zero, lt, is) =
    let t = (bytes_eq-Decides bs (string_bytes e.0)).1 (sym is) in
    let f = (not_first (is_named bs e.0) e.1 (lookup (is_named bs) es) h).0 in cc
lacks_name (e ∷ es) bs h (suc i, lt, is) = lacks_name es bs (not_first (is_named bs e.0) e.1 (lookup (is_named bs) es) h).1 (i, omega (arith, lt), is)

names_keys : {Y V : Type 0} (es : List (String Y × V)) → names_of es ≡ map (λ k. string_bytes k) (keys_of es)
names_keys [] = refl
names_keys (e ∷ es) = ap (λ x. string_bytes e.0 ∷ x) (names_keys es)

place : {Y : Type 0} (ks : List (String Y)) (bs : List ℕ) (i : ℕ) → position (is_named bs) ks ≡ Some i → slice_get (map (λ k. string_bytes k) ks) i ≡ Some bs
place [] bs i h = absurd (cc)
place (k ∷ ks) bs i h =
    let p = position-Some (is_named bs) (k ∷ ks) i k h in
    let e : string_bytes (get_or (k ∷ ks) i k) ≡ bs = sym ((bytes_eq-Decides bs (string_bytes (get_or (k ∷ ks) i k))).0 p.1) in
    slice_get-get_or (map (λ x. string_bytes x) (k ∷ ks)) i (string_bytes k) (simp length-map p.0)
    ∙ ap Some (get_or-map (λ x. string_bytes x) (k ∷ ks) i k (string_bytes k) p.0 ∙ e)

pub is_place : {Y V : Type 0} (es : List (String Y × V)) (bs : List ℕ) (r : Option ℕ) → r ≡ position (is_named bs) (keys_of es) → IfSome r (λ i. slice_get (names_of es) i ≡ Some bs)
is_place es bs None h = tt
is_place es bs (Some i) h = rw (names_keys es) (place (keys_of es) bs i (sym h))

pub no_place : {Y V : Type 0} (es : List (String Y × V)) (bs : List ℕ) (r : Option ℕ) → is_some r ≡ is_some (lookup (is_named bs) es) → IfNone r (Contains (names_of es) bs → ⊥)
no_place es bs None h = λ c. lacks_name es bs (sym h) c
no_place es bs (Some i) h = tt

-- what is shown of an entry at a place
shows : {E R W : Type 0} (f : E → R) (h : R → W) (es : List E) (i : ℕ) (e : E) → Some e ≡ slice_get es i → Some (h (f e)) ≡ option_map h (slice_get (map f es) i)
shows f h es i e p = rw (slice_get-map, ← p) refl

pub shows_law : {Y : Type 0} (es : List (String Y × Law)) (i : ℕ) (k : String Y) (v : Law) → Some (k, v) ≡ slice_get es i → Some v ≡ option_map (λ r. r.law) (slice_get (resources_of es) i)
shows_law es i k v p = shows resource_shown (λ r. r.law) es i (k, v) p

pub shows_resource_name : {Y : Type 0} (es : List (String Y × Law)) (i : ℕ) (k : String Y) (v : Law) → Some (k, v) ≡ slice_get es i → Some (string_bytes k) ≡ option_map (λ r. r.name) (slice_get (resources_of es) i)
shows_resource_name es i k v p = shows resource_shown (λ r. r.name) es i (k, v) p

pub shows_owner : {Y : Type 0} (es : List (String Y × ResId)) (i : ℕ) (k : String Y) (v : ResId) → Some (k, v) ≡ slice_get es i → Some v.0 ≡ option_map (λ o. o.resource) (slice_get (operations_of es) i)
shows_owner es i k v p = shows operation_shown (λ o. o.resource) es i (k, v) p

pub shows_operation_name : {Y : Type 0} (es : List (String Y × ResId)) (i : ℕ) (k : String Y) (v : ResId) → Some (k, v) ≡ slice_get es i → Some (string_bytes k) ≡ option_map (λ o. o.name) (slice_get (operations_of es) i)
shows_operation_name es i k v p = shows operation_shown (λ o. o.name) es i (k, v) p

pub names_of_operations : {Y : Type 0} (es : List (String Y × ResId)) → map (λ o. o.name) (operations_of es) ≡ names_of es
names_of_operations [] = refl
names_of_operations (e ∷ es) = ap (λ x. string_bytes e.0 ∷ x) (names_of_operations es)

pub names_of_resources : {Y : Type 0} (es : List (String Y × Law)) → map (λ r. r.name) (resources_of es) ≡ names_of es
names_of_resources [] = refl
names_of_resources (e ∷ es) = ap (λ x. string_bytes e.0 ∷ x) (names_of_resources es)
