-- How a table of names grows.
use Rattle.std.proofs.Common.{◌≡◌, ℕ, zero, suc, ◌+◌, Bool, true, false, cond, Option, Some, None, List, [], ◌∷◌, ◌++◌, not, length, map, reverse, nat_lt, refl, sym, ap, ◌∙◌, subst, arith, Contains, slice_get, option_map}
use Rattle.std.specs.Option.{is_some}
use Rattle.std.specs.List.{position, position_or_len}
use Rattle.std.specs.Map.{lookup, keys_of}
use Rattle.std.specs.String.{string_bytes}
use Rattle.std.specs.Prelude.{String}
use Rattle.std.proofs.lemmas.List.{map_push, reverse-append}
use Rattle.std.proofs.lemmas.Option.{slice_get-map, same_Some, cond_some, slice_get_within, get_or_from_slice_get}
use Rattle.path_model.specs.declared.ids.ResId.{ResId}
use Rattle.path_model.specs.declared.resource.Law.{Law}
use Rattle.path_model.specs.Trees.{Tree}
use Rattle.indexmap.specs.IndexMap.{set_value_at}
use Rattle.path_read.specs.Inner.Building.{with_law, place_of, number_of}
use Rattle.path_decl.specs.Table.{names_of, operation_shown, operations_of, resource_shown, resources_of}
pub use Rattle.path_decl.proofs.CallerLemmas.{is_named, has_name, lacks_name, later, is_place, names_of_operations, names_of_resources}

is_none : {V : Type 0} (o : Option V) → is_some o ≡ false → o ≡ None
is_none None h = refl
is_none (Some v) h = absurd (cc)

pub absent_key : {Y V : Type 0} (es : List (String Y × V)) (k : String Y) (bs : List ℕ) → string_bytes k ≡ bs → is_some (lookup (is_named bs) es) ≡ false → lookup (is_named (string_bytes k)) es ≡ None
absent_key es k bs e h = is_none _ (subst (λ x. is_some (lookup (is_named x) es) ≡ false) (sym e) h)

pub pushed : {Y V : Type 0} (es fs : List (String Y × V)) (k : String Y) (v : V) (bs : List ℕ) → string_bytes k ≡ bs → fs ≡ es ++ (k, v) ∷ [] → names_of fs ≡ names_of es ++ bs ∷ []
pushed es fs k v bs e h = ap names_of h ∙ map_push (λ x. string_bytes x.0) es (k, v) ∙ ap (λ x. names_of es ++ x ∷ []) e

-- whether a table has a name
pub named_exactly : {Y V : Type 0} (es : List (String Y × V)) (bs : List ℕ) (b : Bool) → b ≡ is_some (lookup (is_named bs) es) → (b ≡ true → Contains (names_of es) bs) × (Contains (names_of es) bs → b ≡ true)
named_exactly es bs true e = (λ h. has_name es bs (sym e), λ c. refl)
named_exactly es bs false e = (λ h. absurd (cc), λ c. absurd (lacks_name es bs (sym e) c))

not_some : {Y V : Type 0} (es : List (String Y × V)) (bs : List ℕ) (b : Bool) → is_some (lookup (is_named bs) es) ≡ b → (Contains (names_of es) bs → ⊥) → is_some (lookup (is_named bs) es) ≡ false
not_some es bs true e none = absurd (none (has_name es bs e))
not_some es bs false e none = e

pub new_key : {Y V : Type 0} (es : List (String Y × V)) (k : String Y) (bs : List ℕ) → string_bytes k ≡ bs → (Contains (names_of es) bs → ⊥) → lookup (is_named (string_bytes k)) es ≡ None
new_key es k bs e none = absent_key es k bs e (not_some es bs (is_some (lookup (is_named bs) es)) refl none)

pub pushed_operation : {Y : Type 0} (es fs : List (String Y × ResId)) (k : String Y) (v : ResId) (bs : List ℕ) → string_bytes k ≡ bs → fs ≡ es ++ (k, v) ∷ [] → operations_of fs ≡ operations_of es ++ record { name = bs; resource = v.0 } ∷ []
pushed_operation es fs k v bs e h = ap operations_of h ∙ map_push operation_shown es (k, v) ∙ ap (λ (x : List ℕ). operations_of es ++ record { name = x; resource = v.0 } ∷ []) e

pub pushed_resource : {Y : Type 0} (es fs : List (String Y × Law)) (k : String Y) (v : Law) (bs : List ℕ) → string_bytes k ≡ bs → fs ≡ es ++ (k, v) ∷ [] → resources_of fs ≡ resources_of es ++ record { name = bs; law = v } ∷ []
pushed_resource es fs k v bs e h = ap resources_of h ∙ map_push resource_shown es (k, v) ∙ ap (λ (x : List ℕ). resources_of es ++ record { name = x; law = v } ∷ []) e

-- the last resource with another law
pub last_with : {Y : Type 0} (es : List (String Y × Law)) (i : ℕ) (l : Law) → suc i ≡ length es → resources_of (set_value_at es i l) ≡ with_law l (resources_of es)
last_with [] i l e = absurd (omega (arith, e))
last_with (e ∷ []) zero l h = refl
last_with (e ∷ []) (suc i) l h = absurd (omega (arith, h))
last_with (e ∷ f ∷ es) zero l h = absurd (omega (arith, h))
last_with (e ∷ f ∷ es) (suc i) l h = ap (λ x. resource_shown e ∷ x) (last_with (f ∷ es) i l (omega (arith, h)))

-- the place that a table gives is the first of the name
cond_place : (t : Bool) (i j : ℕ) → i ≡ j → cond (not t) (1 + i) 0 ≡ cond t 0 (1 + j)
cond_place true i j e = refl
cond_place false i j e = ap (λ n. 1 + n) e

place_or_len : {Y V : Type 0} (es : List (String Y × V)) (bs : List ℕ) → position_or_len (is_named bs) (keys_of es) ≡ place_of bs (names_of es)
place_or_len [] bs = refl
place_or_len (e ∷ es) bs = cond_place (is_named bs e.0) (position_or_len (is_named bs) (keys_of es)) (place_of bs (names_of es)) (place_or_len es bs)

pub number_is : {Y : Type 0} (es : List (String Y × ResId)) (bs : List ℕ) (i : ℕ) → Some i ≡ position (is_named bs) (keys_of es) → number_of (operations_of es) bs ≡ i
number_is es bs i h =
    let p = cond_some (nat_lt (position_or_len (is_named bs) (keys_of es)) (length (keys_of es))) (position_or_len (is_named bs) (keys_of es)) i (sym h) in
    ap (place_of bs) (names_of_operations es) ∙ sym (place_or_len es bs) ∙ p.1

pub owner_is : {Y : Type 0} (es : List (String Y × ResId)) (bs : List ℕ) (i : ℕ) (k : String Y) (v : ResId) → Some i ≡ position (is_named bs) (keys_of es) → slice_get es i ≡ Some (k, v)
    → slice_get (operations_of es) (number_of (operations_of es) bs) ≡ Some (record { name = bs; resource = v.0 })
owner_is es bs i k v h e =
    let p : slice_get (names_of es) i ≡ Some bs = is_place es bs (Some i) h in
    let q : slice_get (names_of es) i ≡ Some (string_bytes k) = slice_get-map (λ x. string_bytes x.0) es i ∙ ap (option_map (λ x. string_bytes x.0)) e in
    let n : string_bytes k ≡ bs = same_Some (string_bytes k) bs (sym q ∙ p) in
    ap (slice_get (operations_of es)) (number_is es bs i h) ∙ slice_get-map operation_shown es i ∙ ap (option_map operation_shown) e ∙ ap (λ (x : List ℕ). Some (record { name = x; resource = v.0 })) n

-- what stands at a place is in the table
pub stands : {Y : Type 0} (es : List (String Y × ResId)) (bs : List ℕ) (i r : ℕ) → slice_get (operations_of es) i ≡ Some (record { name = bs; resource = r }) → Contains (names_of es) bs
stands es bs i r h =
    let q : slice_get (names_of es) i ≡ Some bs = ap (λ x. slice_get x i) (sym (names_of_operations es)) ∙ slice_get-map (λ o. o.name) (operations_of es) i ∙ ap (option_map (λ o. o.name)) h in
    (i, slice_get_within (names_of es) i bs q, get_or_from_slice_get (names_of es) i bs bs q)

pub opened : {E : Type 0} (f : E → Tree) (xs ys : List E) (x : E) (t : Tree) → ys ≡ xs ++ x ∷ [] → f x ≡ t → reverse (map f ys) ≡ t ∷ reverse (map f xs)
opened f xs ys x t e h = ap (λ y. reverse (map f y)) e ∙ ap reverse (map_push f xs x) ∙ reverse-append (map f xs) (f x ∷ []) ∙ ap (λ y. y ∷ reverse (map f xs)) h
