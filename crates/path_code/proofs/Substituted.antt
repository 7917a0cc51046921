-- The walks over a tree give the terms that are read upwards from its names.
use Rattle.std.proofs.Common.{◌≡◌, ◌+◌, ◌-◌, ◌<◌, ◌≤◌, ℕ, List, [], ◌∷◌, ◌++◌, length, map, get_or, replicate, arith, refl, sym, ap, ◌∙◌, subst, Some, None, append_assoc}
use Rattle.std.proofs.Math.ListN.{set}
use Rattle.std.proofs.Math.Seq.{set-append_seam, get_or-append_seam}
use Rattle.std.proofs.lemmas.List.{append-nil, length-append, length-replicate, map-append}
use Rattle.std.proofs.lemmas.Bool.{cond-true, lt-ltb}
use Rattle.std.specs.Prelude.{nat_lt, if◌then◌else◌}
use Rattle.path_model.specs.declared.ids.OpId.{OpId}
use Rattle.path_model.specs.Trees.{any, most, Tree, op, seq, alt, burst, NoBraces, NoNesting, WellFormed}
use Rattle.path_model.specs.Machine.{semicolons, braces, Term, Plain, Braced, Counted, prologue, epilogue}
use Rattle.path_model.specs.Flat.{counted_braces, rank, Sited, first_bound, bound_number, in_table}
use Rattle.path_model.specs.Downward.{within, substituted, EachRow}
use Rattle.path_model.proofs.CallerLemmas.{substitution_reads_upwards, rank_before, rank_after, none_counted}
use Rattle.path_decl.specs.Lawful.{names_count}
use Rattle.path_code.specs.declared.terms.Prologue.{Prologue}
use Rattle.path_code.specs.declared.terms.Prologue.TheVariants.{P, PP, PPN}
use Rattle.path_code.specs.declared.terms.Epilogue.{Epilogue}
use Rattle.path_code.specs.declared.terms.Epilogue.TheVariants.{V, VV, VVN}
use Rattle.path_code.specs.declared.terms.OpCode.{OpCode}
use Rattle.path_code.specs.Names.{names_in}
use Rattle.path_code.specs.Terms.{prologue_at, epilogue_at}
use Rattle.path_code.specs.PathCodes.{bounds_in, numbered_values, semaphores_of, op_of_path, ops_of}
use Rattle.path_code.proofs.NumberLists.{numbered_append, first_values}
use Rattle.path_code.specs.Inner.Walks.{IsFlat, unnamed, start_within, end_within, starts_in, bounds_from, ended}

pub no_braces : (s : Tree) → NoBraces s → braces s ≡ 0
no_braces (op a) n = refl
no_braces (seq s t) n = omega (arith, no_braces s n.0, no_braces t n.1)
no_braces (alt s t) n = omega (arith, no_braces s n.0, no_braces t n.1)
no_braces (burst bd s) n = absurd n

flat_without : (s : Tree) → NoBraces s → IsFlat s
flat_without (op a) n = tt
flat_without (seq s t) n = (flat_without s n.0, flat_without t n.1)
flat_without (alt s t) n = (flat_without s n.0, flat_without t n.1)
flat_without (burst bd s) n = absurd n

pub flat : (s : Tree) → NoNesting s → IsFlat s
flat (op a) n = tt
flat (seq s t) n = (flat s n.0, flat t n.1)
flat (alt s t) n = (flat s n.0, flat t n.1)
flat (burst bd s) n = (flat_without s n.0, no_braces s n.0, none_counted s n.0)

-- what both walks write of a tree
abbrev codes_in : Tree → ℕ → ℕ → ℕ → Prologue → Epilogue → List OpCode
codes_in (op a) n m u L R = record { op = a; prologue = L; epilogue = R } ∷ []
codes_in (seq s t) n m u L R =
    codes_in s n m u L (V (n + semicolons s)) ++ codes_in t (n + semicolons s + 1) (m + braces s) (u + counted_braces s) (P (n + semicolons s)) R
codes_in (alt s t) n m u L R = codes_in s n m u L R ++ codes_in t (n + semicolons s) (m + braces s) (u + counted_braces s) L R
codes_in (burst any s) n m u L R = codes_in s n (m + 1) u (start_within m None L) (end_within m None R)
codes_in (burst (most k) s) n m u L R = codes_in s n (m + 1) (u + 1) (start_within m (Some u) L) (end_within m (Some u) R)

pub length_starts : (s : Tree) (n m u : ℕ) (L : Prologue) → length (starts_in s n m u L) ≡ names_count s
length_starts (op a) n m u L = refl
length_starts (seq s t) n m u L =
    let p : Prologue = P (n + semicolons s) in
    let a = length-append (starts_in s n m u L) (starts_in t (n + semicolons s + 1) (m + braces s) (u + counted_braces s) p) in
    omega (arith, a, length_starts s n m u L, length_starts t (n + semicolons s + 1) (m + braces s) (u + counted_braces s) p)
length_starts (alt s t) n m u L =
    let a = length-append (starts_in s n m u L) (starts_in t (n + semicolons s) (m + braces s) (u + counted_braces s) L) in
    omega (arith, a, length_starts s n m u L, length_starts t (n + semicolons s) (m + braces s) (u + counted_braces s) L)
length_starts (burst any s) n m u L = length_starts s n (m + 1) u (start_within m None L)
length_starts (burst (most k) s) n m u L = length_starts s n (m + 1) (u + 1) (start_within m (Some u) L)

-- among other codes, the walk back makes of a tree's names what both walks write
abbrev Ends : Tree → ℕ → ℕ → ℕ → Prologue → Epilogue → Type 0
Ends s n m u L R = (xs ys : List OpCode) → ended s (length xs) n m u R (xs ++ (starts_in s n m u L ++ ys)) ≡ xs ++ (codes_in s n m u L R ++ ys)

one_end : (a : OpId) (L : Prologue) (R : Epilogue) (xs ys : List OpCode) (x : OpCode) → x ≡ record { op = a; prologue = L; epilogue = V 0 }
    → set (xs ++ x ∷ ys) (length xs) (record (get_or (xs ++ x ∷ ys) (length xs) unnamed) { epilogue = R }) ≡ xs ++ record { op = a; prologue = L; epilogue = R } ∷ ys
one_end a L R xs ys x is =
    set-append_seam xs x ys _
    ∙ ap (λ (y : OpCode). xs ++ record y { epilogue = R } ∷ ys) (get_or-append_seam xs x ys unnamed)
    ∙ ap (λ (y : OpCode). xs ++ record y { epilogue = R } ∷ ys) is

both_end : (s t : Tree) (n m u n' : ℕ) (L L' : Prologue) (R R' : Epilogue) → Ends s n m u L R' → Ends t n' (m + braces s) (u + counted_braces s) L' R → (xs ys : List OpCode)
    → ended s (length xs) n m u R' (ended t (length xs + names_count s) n' (m + braces s) (u + counted_braces s) R (xs ++ ((starts_in s n m u L ++ starts_in t n' (m + braces s) (u + counted_braces s) L') ++ ys)))
    ≡ xs ++ ((codes_in s n m u L R' ++ codes_in t n' (m + braces s) (u + counted_braces s) L' R) ++ ys)
both_end s t n m u n' L L' R R' left right xs ys =
    let ss : List OpCode = starts_in s n m u L in
    let ts : List OpCode = starts_in t n' (m + braces s) (u + counted_braces s) L' in
    let ds : List OpCode = codes_in t n' (m + braces s) (u + counted_braces s) L' R in
    let long : length (xs ++ ss) ≡ length xs + names_count s = length-append xs ss ∙ ap (λ k. length xs + k) (length_starts s n m u L) in
    ap (λ zs. ended s (length xs) n m u R' (ended t (length xs + names_count s) n' (m + braces s) (u + counted_braces s) R zs)) (ap (λ zs. xs ++ zs) (append_assoc ss ts ys) ∙ sym (append_assoc xs ss (ts ++ ys)))
    ∙ ap (λ zs. ended s (length xs) n m u R' zs) (subst (λ k. ended t k n' (m + braces s) (u + counted_braces s) R ((xs ++ ss) ++ (ts ++ ys)) ≡ (xs ++ ss) ++ (ds ++ ys)) long (right (xs ++ ss) ys) ∙ append_assoc xs ss (ds ++ ys))
    ∙ left xs (ds ++ ys)
    ∙ ap (λ zs. xs ++ zs) (sym (append_assoc (codes_in s n m u L R') ds ys))

ends : (s : Tree) (n m u : ℕ) (L : Prologue) (R : Epilogue) → Ends s n m u L R
ends (op a) n m u L R = λ xs ys. one_end a L R xs ys _ refl
ends (seq s t) n m u L R =
    both_end s t n m u (n + semicolons s + 1) L (P (n + semicolons s)) R (V (n + semicolons s)) (ends s n m u L (V (n + semicolons s))) (ends t (n + semicolons s + 1) (m + braces s) (u + counted_braces s) (P (n + semicolons s)) R)
ends (alt s t) n m u L R = both_end s t n m u (n + semicolons s) L L R R (ends s n m u L R) (ends t (n + semicolons s) (m + braces s) (u + counted_braces s) L R)
ends (burst any s) n m u L R = ends s n (m + 1) u (start_within m None L) (end_within m None R)
ends (burst (most k) s) n m u L R = ends s n (m + 1) (u + 1) (start_within m (Some u) L) (end_within m (Some u) R)

pub all_ended : (s : Tree) (n m u : ℕ) (L : Prologue) (R : Epilogue) → ended s 0 n m u R (starts_in s n m u L) ≡ codes_in s n m u L R
all_ended s n m u L R =
    ap (λ zs. ended s 0 n m u R zs) (sym (append-nil (starts_in s n m u L))) ∙ ends s n m u L R [] [] ∙ append-nil (codes_in s n m u L R)

abbrev Row : Type 0
Row = OpId × Term × Term

-- with the numbers of the path in the file, what the walks write are the rows of the substitution
module _ (x : Sited) where
  abbrev row_code : Row → OpCode
  row_code r = record { op = r.0; prologue = prologue_at (in_table x r.1); epilogue = epilogue_at (in_table x r.2) }

  starts_any : (m c : ℕ) → c ≡ x.first + m → (L : Term) → start_within c None (prologue_at (in_table x L)) ≡ prologue_at (in_table x (within any m L))
  starts_any m c e (Plain q) = ap (λ d. PP d (x.own + q)) e
  starts_any m c e (Braced d q) = refl
  starts_any m c e (Counted d q) = refl

  ends_any : (m c : ℕ) → c ≡ x.first + m → (R : Term) → end_within c None (epilogue_at (in_table x R)) ≡ epilogue_at (in_table x (within any m R))
  ends_any m c e (Plain q) = ap (λ d. VV d (x.own + q)) e
  ends_any m c e (Braced d q) = refl
  ends_any m c e (Counted d q) = refl

  starts_most : (k m c u : ℕ) → c ≡ x.first + m → u ≡ bound_number x m → (L : Term) → start_within c (Some u) (prologue_at (in_table x L)) ≡ prologue_at (in_table x (within (most k) m L))
  starts_most k m c u e f (Plain q) = ap (λ d. PPN d (x.own + q) u) e ∙ ap (λ w. PPN (x.first + m) (x.own + q) w) f
  starts_most k m c u e f (Braced d q) = refl
  starts_most k m c u e f (Counted d q) = refl

  ends_most : (k m c u : ℕ) → c ≡ x.first + m → u ≡ bound_number x m → (R : Term) → end_within c (Some u) (epilogue_at (in_table x R)) ≡ epilogue_at (in_table x (within (most k) m R))
  ends_most k m c u e f (Plain q) = ap (λ d. VVN d (x.own + q) u) e ∙ ap (λ w. VVN (x.first + m) (x.own + q) w) f
  ends_most k m c u e f (Braced d q) = refl
  ends_most k m c u e f (Counted d q) = refl

  -- the bounds of the tree's braces have the numbers from u on
  abbrev Bounds : Tree → ℕ → ℕ → Type 0
  Bounds s m u = (c : ℕ) → m ≤ c → c < m + braces s → bound_number x c ≡ u + rank s m c

  abbrev Rows : Tree → ℕ → ℕ → ℕ → ℕ → ℕ → Term → Term → Type 0
  Rows s n m n' m' u L R = codes_in s n' m' u (prologue_at (in_table x L)) (epilogue_at (in_table x R)) ≡ map row_code (substituted s n m L R)

joined : (x : Sited) (ys zs : List Row) (cs ds : List OpCode) → cs ≡ map (row_code x) ys → ds ≡ map (row_code x) zs → cs ++ ds ≡ map (row_code x) (ys ++ zs)
joined x ys zs cs ds e f = ap (λ c. c ++ ds) e ∙ ap (λ d. map (row_code x) ys ++ d) f ∙ sym (map-append (row_code x) ys zs)

module _ (x : Sited) where
  rows : (s : Tree) (n m n' m' u : ℕ) → n' ≡ x.own + n → m' ≡ x.first + m → Bounds x s m u → (L R : Term) → Rows x s n m n' m' u L R
  rows (op a) n m n' m' u e f b L R = refl
  rows (seq s t) n m n' m' u e f b L R =
      let q : n' + semicolons s ≡ x.own + (n + semicolons s) = omega arith in
      let left = ap (λ i. codes_in s n' m' u (prologue_at (in_table x L)) (V i)) q ∙ rows s n m n' m' u e f bs L (Plain (n + semicolons s)) in
      let right = ap (λ i. codes_in t (n' + semicolons s + 1) (m' + braces s) (u + counted_braces s) (P i) (epilogue_at (in_table x R))) q ∙ rows t (n + semicolons s + 1) (m + braces s) (n' + semicolons s + 1) (m' + braces s) (u + counted_braces s) (omega arith) (omega arith) bt (Plain (n + semicolons s)) R in
      joined x (substituted s n m L (Plain (n + semicolons s))) (substituted t (n + semicolons s + 1) (m + braces s) (Plain (n + semicolons s)) R) _ _ left right
    where
      bs : Bounds x s m u
      bs c l h = let r = rank_before t (m + braces s) c (omega (arith, h)) in let g = b c l (omega (arith, h)) in omega (arith, r, g)

      bt : Bounds x t (m + braces s) (u + counted_braces s)
      bt c l h = let r = rank_after s m c l in let g = b c (omega (arith, l)) (omega (arith, h)) in omega (arith, r, g)
  rows (alt s t) n m n' m' u e f b L R =
      let left = rows s n m n' m' u e f bs L R in
      let right = rows t (n + semicolons s) (m + braces s) (n' + semicolons s) (m' + braces s) (u + counted_braces s) (omega arith) (omega arith) bt L R in
      joined x (substituted s n m L R) (substituted t (n + semicolons s) (m + braces s) L R) _ _ left right
    where
      bs : Bounds x s m u
      bs c l h = let r = rank_before t (m + braces s) c (omega (arith, h)) in let g = b c l (omega (arith, h)) in omega (arith, r, g)

      bt : Bounds x t (m + braces s) (u + counted_braces s)
      bt c l h = let r = rank_after s m c l in let g = b c (omega (arith, l)) (omega (arith, h)) in omega (arith, r, g)
  rows (burst any s) n m n' m' u e f b L R =
      ap (λ l. codes_in s n' (m' + 1) u l (end_within m' None (epilogue_at (in_table x R)))) (starts_any x m m' f L)
      ∙ ap (λ r. codes_in s n' (m' + 1) u (prologue_at (in_table x (within any m L))) r) (ends_any x m m' f R)
      ∙ rows s n (m + 1) n' (m' + 1) u e (omega arith) inside (within any m L) (within any m R)
    where
      inside : Bounds x s (m + 1) u
      inside c l h = let z : ◌≡◌ {A = ℕ} (if nat_lt m c then 0 else 0) 0 = cond-true (nat_lt m c) 0 0 (lt-ltb m c (omega (arith, l))) in let g = b c (omega (arith, l)) (omega (arith, h)) in omega (arith, z, g)
  rows (burst (most k) s) n m n' m' u e f b L R =
      let r = rank_before (burst (most k) s) m m (omega arith) in
      let g = b m (omega arith) (omega arith) in
      let first : u ≡ bound_number x m = omega (arith, r, g) in
      ap (λ l. codes_in s n' (m' + 1) (u + 1) l (end_within m' (Some u) (epilogue_at (in_table x R)))) (starts_most x k m m' u f first L)
      ∙ ap (λ r. codes_in s n' (m' + 1) (u + 1) (prologue_at (in_table x (within (most k) m L))) r) (ends_most x k m m' u f first R)
      ∙ rows s n (m + 1) n' (m' + 1) (u + 1) e (omega arith) inside (within (most k) m L) (within (most k) m R)
    where
      inside : Bounds x s (m + 1) (u + 1)
      inside c l h = let z : ◌≡◌ {A = ℕ} (if nat_lt m c then 1 else 0) 1 = cond-true (nat_lt m c) 1 0 (lt-ltb m c (omega (arith, l))) in let g = b c (omega (arith, l)) (omega (arith, h)) in omega (arith, z, g)

-- the names of the rows are those of the tree
row_names : (s : Tree) (n m : ℕ) (L R : Term) → map (λ r. r.0) (substituted s n m L R) ≡ names_in s
row_names (op a) n m L R = refl
row_names (seq s t) n m L R =
    map-append (λ r. r.0) (substituted s n m L (Plain (n + semicolons s))) (substituted t (n + semicolons s + 1) (m + braces s) (Plain (n + semicolons s)) R)
    ∙ ap (λ a. a ++ map (λ r. r.0) (substituted t (n + semicolons s + 1) (m + braces s) (Plain (n + semicolons s)) R)) (row_names s n m L (Plain (n + semicolons s)))
    ∙ ap (λ a. names_in s ++ a) (row_names t (n + semicolons s + 1) (m + braces s) (Plain (n + semicolons s)) R)
row_names (alt s t) n m L R =
    map-append (λ r. r.0) (substituted s n m L R) (substituted t (n + semicolons s) (m + braces s) L R)
    ∙ ap (λ a. a ++ map (λ r. r.0) (substituted t (n + semicolons s) (m + braces s) L R)) (row_names s n m L R)
    ∙ ap (λ a. names_in s ++ a) (row_names t (n + semicolons s) (m + braces s) L R)
row_names (burst bd s) n m L R = row_names s n (m + 1) (within bd m L) (within bd m R)

-- rows with the terms that are read upwards are those of the path
rows_upwards : (x : Sited) (rs : List Row) → EachRow (λ r. (r.1 ≡ prologue x.tree r.0) × (r.2 ≡ epilogue x.tree r.0)) rs → map (row_code x) rs ≡ map (op_of_path x) (map (λ r. r.0) rs)
rows_upwards x [] e = refl
rows_upwards x (r ∷ rs) e =
    ap (λ t. record { op = r.0; prologue = prologue_at (in_table x t); epilogue = epilogue_at (in_table x r.2) } ∷ map (row_code x) rs) e.0.0
    ∙ ap (λ t. record { op = r.0; prologue = prologue_at (in_table x (prologue x.tree r.0)); epilogue = epilogue_at (in_table x t) } ∷ map (row_code x) rs) e.0.1
    ∙ ap (λ cs. op_of_path x r.0 ∷ cs) (rows_upwards x rs e.1)

-- both walks over a whole tree give the path's operations
pub path_ops : (x : Sited) → WellFormed x.tree → ended x.tree 0 (x.own + 1) x.first (first_bound x) (V x.own) (starts_in x.tree (x.own + 1) x.first (first_bound x) (P x.own)) ≡ ops_of x
path_ops x wf =
    all_ended x.tree (x.own + 1) x.first (first_bound x) (P x.own) (V x.own)
    ∙ ap (λ i. codes_in x.tree (x.own + 1) x.first (first_bound x) (P i) (V i)) (let z : x.own ≡ x.own + 0 = omega arith in z)
    ∙ rows x x.tree 1 0 (x.own + 1) x.first (first_bound x) refl (omega arith) (λ c l h. refl) (Plain 0) (Plain 0)
    ∙ rows_upwards x (substituted x.tree 1 0 (Plain 0) (Plain 0)) (substitution_reads_upwards x.tree wf)
    ∙ ap (map (op_of_path x)) (row_names x.tree 1 0 (Plain 0) (Plain 0))

-- the bounds' semaphores
pub length_bounds : (s : Tree) → length (bounds_in s) ≡ counted_braces s
length_bounds (op a) = refl
length_bounds (seq s t) = let a = length-append (bounds_in s) (bounds_in t) in omega (arith, a, length_bounds s, length_bounds t)
length_bounds (alt s t) = let a = length-append (bounds_in s) (bounds_in t) in omega (arith, a, length_bounds s, length_bounds t)
length_bounds (burst any s) = let r = length_bounds s in omega (arith, r)
length_bounds (burst (most k) s) = let r = length_bounds s in omega (arith, r)

pub bounds_numbered : (s : Tree) (u : ℕ) → bounds_from s u ≡ numbered_values u (bounds_in s)
bounds_numbered (op a) u = refl
bounds_numbered (seq s t) u =
    ap (λ xs. xs ++ bounds_from t (u + counted_braces s)) (bounds_numbered s u)
    ∙ ap (λ ys. numbered_values u (bounds_in s) ++ ys) (bounds_numbered t (u + counted_braces s) ∙ ap (λ k. numbered_values (u + k) (bounds_in t)) (sym (length_bounds s)))
    ∙ sym (numbered_append u (bounds_in s) (bounds_in t))
bounds_numbered (alt s t) u =
    ap (λ xs. xs ++ bounds_from t (u + counted_braces s)) (bounds_numbered s u)
    ∙ ap (λ ys. numbered_values u (bounds_in s) ++ ys) (bounds_numbered t (u + counted_braces s) ∙ ap (λ k. numbered_values (u + k) (bounds_in t)) (sym (length_bounds s)))
    ∙ sym (numbered_append u (bounds_in s) (bounds_in t))
bounds_numbered (burst any s) u = bounds_numbered s u
bounds_numbered (burst (most k) s) u = ap (λ xs. (u, k) ∷ xs) (bounds_numbered s (u + 1))

-- what the walks give is the code of the path
module _ (x : Sited) where
  pub semaphores_whole : (us : List (ℕ × ℕ)) → us ≡ first_values x.own (first_bound x) ++ bounds_from x.tree (first_bound x) → us ≡ semaphores_of x
  semaphores_whole us e =
      let k : first_bound x - (x.own + 1) ≡ semicolons x.tree = omega arith in
      let long : length (replicate {A = ℕ} (semicolons x.tree) 0) ≡ semicolons x.tree = length-replicate (semicolons x.tree) 0 in
      e
      ∙ ap (λ i. (x.own, 1) ∷ (numbered_values (x.own + 1) (replicate i 0) ++ bounds_from x.tree (first_bound x))) k
      ∙ ap (λ zs. (x.own, 1) ∷ (numbered_values (x.own + 1) (replicate (semicolons x.tree) 0) ++ zs)) (bounds_numbered x.tree (first_bound x) ∙ ap (λ i. numbered_values i (bounds_in x.tree)) (let z : first_bound x ≡ x.own + 1 + length (replicate {A = ℕ} (semicolons x.tree) 0) = omega arith in z))
      ∙ ap (λ zs. (x.own, 1) ∷ zs) (sym (numbered_append (x.own + 1) (replicate (semicolons x.tree) 0) (bounds_in x.tree)))

  pub ops_whole : WellFormed x.tree → (p n m u : ℕ) (before after : List OpCode) → p ≡ 0 → n ≡ x.own + 1 → m ≡ x.first → u ≡ first_bound x → before ≡ starts_in x.tree (x.own + 1) x.first (first_bound x) (P x.own)
      → after ≡ ended x.tree p n m u (V x.own) before → after ≡ ops_of x
  ops_whole wf p n m u before after ep en em eu es e =
      e
      ∙ ap (λ i. ended x.tree i n m u (V x.own) before) ep
      ∙ ap (λ i. ended x.tree 0 i m u (V x.own) before) en
      ∙ ap (λ i. ended x.tree 0 (x.own + 1) i u (V x.own) before) em
      ∙ ap (λ i. ended x.tree 0 (x.own + 1) x.first i (V x.own) before) eu
      ∙ ap (λ zs. ended x.tree 0 (x.own + 1) x.first (first_bound x) (V x.own) zs) es
      ∙ path_ops x wf
