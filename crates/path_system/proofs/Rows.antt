-- The rows of opening contents: what is written into one, and which places they have.
use Rattle.std.proofs.Common.{◌≡◌, ◌⊎◌, ℕ, ◌+◌, ◌<◌, ◌≤◌, List, [], ◌∷◌, ◌++◌, length, get_or, take, arith, refl, ap, sym, ◌∙◌, Option, Some, None, inl, inr}
use Rattle.std.specs.Prelude.{map, slice_get, option_map}
use Rattle.std.proofs.Math.ListN.{set, get_or-map as get_or-map-default}
use Rattle.std.proofs.Math.Seq.{map-set_same}
use Rattle.std.proofs.lemmas.Bool.{cases_eq}
use Rattle.std.proofs.lemmas.Option.{slice_get_cases}
use Rattle.std.proofs.lemmas.Grind.{take_at_read}
use Rattle.std.proofs.lemmas.List.{length-map, get_or-map, get_or_push, get_or_append_left, get_or-set_same, get_or-set_other, get_or_default, ext_get_or, map-append, map-set}
use Rattle.path_model.specs.declared.resource.Law.{Law}
use Rattle.path_model.specs.declared.resource.Law.TheVariants.{Cell, Tally, Queue}
use Rattle.path_model.specs.Declarations.{Declaration, Resource, law_of}
use Rattle.path_model.specs.Devices.{Fits}
use Rattle.path_shelf.specs.States.{State, state_at}
use Rattle.path_system.specs.Accounts.{contents_of}
use Rattle.path_system.specs.Inner.Openings.{Row, row_at, places_of, numbers_of}

-- contents that fit a law have its places
pub fits_places : (law : Law) (held : List ℕ) → Fits law held → length held ≤ places_of law
fits_places Cell held fits = omega (arith, fits)
fits_places Tally held fits = omega (arith, fits)
fits_places (Queue n) held fits = fits

-- one number more of a list, or none
pub one_more : (xs : List ℕ) (i x : ℕ) → slice_get xs i ≡ Some x → (i < length xs) × (take (i + 1) xs ≡ take i xs ++ x ∷ [])
one_more xs i x is = go (slice_get_cases xs i).1
  where
    go : ((y : ℕ) × (i < length xs) × (slice_get xs i ≡ Some y) × (get_or xs i y ≡ y)) ⊎ ((length xs ≤ i) × (slice_get xs i ≡ None))
        → (i < length xs) × (take (i + 1) xs ≡ take i xs ++ x ∷ [])
    go (inl (y, within, here, read)) =
        let same : y ≡ x = cc in
        (within, (take_at_read xs i y within).1 ∙ ap (λ z. take i xs ++ z ∷ []) (read ∙ same))
    go (inr (past, none)) = absurd (cc)

pub none_more : (xs : List ℕ) (i : ℕ) → slice_get xs i ≡ None → length xs ≤ i
none_more xs i is = go (slice_get_cases xs i).1
  where
    go : ((y : ℕ) × (i < length xs) × (slice_get xs i ≡ Some y) × (get_or xs i y ≡ y)) ⊎ ((length xs ≤ i) × (slice_get xs i ≡ None)) → length xs ≤ i
    go (inl (y, within, here, read)) = absurd (cc)
    go (inr (past, none)) = past

pub map_map : {A B C : Type 0} (f : A → B) (g : B → C) (xs : List A) → map g (map f xs) ≡ map (λ x. g (f x)) xs
map_map f g [] = refl
map_map f g (x ∷ xs) = ap (λ ys. g (f x) ∷ ys) (map_map f g xs)

abbrev pub no_row : Row
no_row = record { numbers = []; places = 0 }

-- one row more
pub row_pushed : {A : Type 0} (f : A → Row) (xs : List A) (x : A) (r : ℕ) → r ≡ length xs → row_at (map f (xs ++ x ∷ [])) r ≡ f x
row_pushed f xs x r e = ap (λ ys. row_at ys r) (map-append f xs (x ∷ [])) ∙ get_or_push (map f xs) (f x) no_row r (length-map xs f ∙ sym e)

pub row_before : {A : Type 0} (f : A → Row) (xs : List A) (x : A) (r : ℕ) → r < length xs → row_at (map f (xs ++ x ∷ [])) r ≡ row_at (map f xs) r
row_before f xs x r within =
    ap (λ ys. row_at ys r) (map-append f xs (x ∷ [])) ∙ get_or_append_left (map f xs) (f x ∷ []) no_row r (let k = length-map xs f in omega (arith, k, within))

row_same : (row : Row) (numbers : List ℕ) (places : ℕ) → row.numbers ≡ numbers → row.places ≡ places → row ≡ record { numbers = numbers; places = places }
row_same row numbers places e k = λ i. record { numbers = e i; places = k i }

-- a row is written
pub row_written : {A : Type 0} (f : A → Row) (xs : List A) (r : ℕ) (a b : A) (numbers : List ℕ) → r < length xs → a ≡ get_or xs r a → (f b).numbers ≡ numbers → (f b).places ≡ (f a).places
    → map f (set xs r b) ≡ set (map f xs) r (record { numbers = numbers; places = (row_at (map f xs) r).places })
row_written f xs r a b numbers within is e k =
    let here : row_at (map f xs) r ≡ f a = get_or-map f xs r a no_row within ∙ ap f (sym is) in
    map-set f xs r b ∙ ap (set (map f xs) r) (row_same (f b) numbers ((row_at (map f xs) r).places) e (k ∙ ap (λ (x : Row). x.places) (sym here)))

-- rows with the same places
pub places_same : (rows olds : List Row) (r : ℕ) → map (λ row. row.places) rows ≡ map (λ row. row.places) olds → (row_at rows r).places ≡ (row_at olds r).places
places_same rows olds r same =
    sym (get_or-map-default (λ (row : Row). row.places) rows r no_row) ∙ ap (λ xs. get_or xs r 0) same ∙ get_or-map-default (λ (row : Row). row.places) olds r no_row

-- the numbers of a row that is written
pub places_written : (rows : List Row) (r : ℕ) (numbers : List ℕ) → map (λ row. row.places) (set rows r (record { numbers = numbers; places = (row_at rows r).places })) ≡ map (λ row. row.places) rows
places_written rows r numbers = map-set_same (λ (row : Row). row.places) rows r (record { numbers = numbers; places = (row_at rows r).places }) no_row refl

-- each row holds what its device contains, so far
abbrev pub AreWritten : List Row → List State → ℕ → Type 0
AreWritten rows states n = (r : ℕ) → r < n → (row_at rows r).numbers ≡ (state_at states r).contents

pub written_more : (rows : List Row) (states : List State) (n : ℕ) → n < length rows → AreWritten rows states n
    → AreWritten (set rows n (record { numbers = (state_at states n).contents; places = (row_at rows n).places })) states (n + 1)
written_more rows states n within before r low = elim (cases_eq r n) [
  | inl same ↦ ap (λ k. (row_at (set rows n (record { numbers = (state_at states n).contents; places = (row_at rows n).places })) k).numbers) same
      ∙ ap (λ row. row.numbers) (get_or-set_same rows n (record { numbers = (state_at states n).contents; places = (row_at rows n).places }) no_row within)
      ∙ ap (λ k. (state_at states k).contents) (sym same)
  | inr other ↦ ap (λ row. row.numbers) (get_or-set_other rows n r (record { numbers = (state_at states n).contents; places = (row_at rows n).places }) no_row other)
      ∙ before r (omega (arith, low, other))
]

pub all_written : (rows : List Row) (states : List State) → length rows ≡ length states → AreWritten rows states (length rows) → numbers_of rows ≡ contents_of states
all_written rows states same written =
    let e = length-map rows (λ (x : Row). x.numbers) in
    let k = length-map states (λ (x : State). x.contents) in
    ext_get_or [] (numbers_of rows) (contents_of states) (omega (arith, e, k, same))
    (λ r within. let here : r < length rows = omega (arith, e, within) in
    get_or-map (λ (x : Row). x.numbers) rows r no_row [] here ∙ written r here
    ∙ sym (get_or-map (λ (x : State). x.contents) states r _ [] (omega (arith, here, same))))

-- the law in a declaration
pub law_found : (d : Declaration) (r : ℕ) (law : Law) → option_map (λ (x : Resource). x.law) (slice_get d.resources r) ≡ Some law → law_of d r ≡ law
law_found d r law is = go (slice_get_cases d.resources r).1
  where
    go : ((y : Resource) × (r < length d.resources) × (slice_get d.resources r ≡ Some y) × (get_or d.resources r y ≡ y)) ⊎ ((length d.resources ≤ r) × (slice_get d.resources r ≡ None)) → law_of d r ≡ law
    go (inl (y, within, here, read)) =
        let found : ◌≡◌ {A = Option Law} (Some y.law) (Some law) = sym (ap (option_map (λ (x : Resource). x.law)) here) ∙ is in
        let same : y.law ≡ law = cc in
        ap (λ (x : Resource). x.law) (get_or_default d.resources r _ y within ∙ read) ∙ same
    go (inr (past, none)) =
        let lost : ◌≡◌ {A = Option Law} None (Some law) = sym (ap (option_map (λ (x : Resource). x.law)) none) ∙ is in
        absurd (cc)

pub law_none : (d : Declaration) (r : ℕ) → r < length d.resources → option_map (λ (x : Resource). x.law) (slice_get d.resources r) ≡ None → ⊥
law_none d r within is = go (slice_get_cases d.resources r).1
  where
    go : ((y : Resource) × (r < length d.resources) × (slice_get d.resources r ≡ Some y) × (get_or d.resources r y ≡ y)) ⊎ ((length d.resources ≤ r) × (slice_get d.resources r ≡ None)) → ⊥
    go (inl (y, here, found, read)) =
        let lost : ◌≡◌ {A = Option Law} None (Some y.law) = sym is ∙ ap (option_map (λ (x : Resource). x.law)) found in
        cc
    go (inr (past, none)) = omega (arith, past, within)
