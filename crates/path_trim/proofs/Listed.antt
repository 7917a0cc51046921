-- The lines of trimmed paths, one path after the other.
use Rattle.std.proofs.Common.{◌≡◌, ◌+◌, ◌<◌, ◌≤◌, ℕ, zero, suc, List, [], ◌∷◌, ◌++◌, length, map, take, drop, get_or, Option, Some, None, refl, sym, ap, ◌∙◌, append_assoc, arith}
use Rattle.std.proofs.Math.Numerals.{add-one}
use Rattle.std.proofs.Math.Seq.{drop-cons, take-append_seam, drop-append_seam}
use Rattle.std.proofs.lemmas.List.{append-nil, take_more, take_all, length-append, length-map, get_or-map}
use Rattle.std.proofs.lemmas.Grind.{flat_map-append}
use Rattle.path_model.specs.Trees.{Tree}
use Rattle.path_model.specs.Legal.{numbered}
use Rattle.path_model.specs.Machine.{braces}
use Rattle.path_model.specs.Flat.{Sited, semaphores_in, sited}
use Rattle.path_model.specs.Declarations.{Declaration}
use Rattle.path_model.specs.declared.ids.PathId.{PathId}
use Rattle.path_trim.specs.declared.table.Fate.{Fate}
use Rattle.path_trim.specs.declared.table.Fate.TheVariants.{SameAs, Stays}
use Rattle.path_trim.specs.declared.table.LeanPath.{LeanPath}
use Rattle.path_trim.specs.declared.table.Removed.{Removed}
use Rattle.path_trim.specs.Compared.{Compared, compared_after, compared, site_left, sites_left}
use Rattle.path_trim.specs.LeanTable.{lean_row}
use Rattle.path_trim.specs.LeanListing.{header, same_rest, removed_line, row_lines, path_lines, all_lines}
use Rattle.path_trim.specs.RemovedList.{values_removed, lost, all_lost}
use Rattle.path_trim.specs.Rows.{row_of, fate_by, fates_of}
use Rattle.path_trim.proofs.Walk.{Numbered, sites_numbered, nowhere}

-- the lines of the first k paths, and what is left for the others
pub record Listed {Y : Type 0} (d : Declaration) (xs : List Compared) (k : ℕ) (out : List ℕ) (kept : List (LeanPath Y)) (removed : List Removed) : Type 0 where
  pub text : out ≡ all_lines d (take k xs)
  pub table : map row_of kept ≡ map lean_row (sites_left (drop k xs))
  pub gone : removed ≡ all_lost (drop k xs)

-- no path
abbrev pub nothing_compared : Compared
nothing_compared = record { path = 0; site = nowhere.1; same = None }

compared_length : (earlier xs : List (ℕ × Sited)) → length (compared_after earlier xs) ≡ length xs
compared_length earlier [] = refl
compared_length earlier (x ∷ xs) = ap suc (compared_length (earlier ++ x ∷ []) xs)

path_in : (earlier xs : List (ℕ × Sited)) (n k : ℕ) → Numbered n xs → k < length xs → (get_or (compared_after earlier xs) k nothing_compared).path ≡ n + k
path_in earlier [] n k h l = absurd (omega arith)
path_in earlier (x ∷ xs) n zero h l = omega (arith, h.0)
path_in earlier (x ∷ xs) n (suc k) h l = omega (arith, path_in (earlier ++ x ∷ []) xs (n + 1) k h.1 (omega (arith, l)))

same_fate : (x : Sited) (o : Option ℕ) (q : PathId) → SameAs q ≡ fate_by x o → o ≡ Some q.0
same_fate x None q e = cc
same_fate x (Some p) q e = let r : q ≡ record { 0 = p } = cc in ap (λ (i : PathId). Some i.0) (sym r)

kept_fate : (x : Sited) (o : Option ℕ) (n : ℕ) → Stays n ≡ fate_by x o → (o ≡ None) × (n ≡ length (values_removed x))
kept_fate x None n e = (refl, cc)
kept_fate x (Some p) n e = cc

module _ (ss : List Tree) (fates : List Fate) (given : fates ≡ fates_of (compared ss)) (k : ℕ) (l : k < length fates) where
  sites_count : length (sited 0 0 (numbered 0 ss)) ≡ length fates
  sites_count =
      let n = ap length given in
      let m = length-map (compared ss) (λ (x : Compared). fate_by x.site x.same) in
      let j = compared_length [] (sited 0 0 (numbered 0 ss)) in
      omega arith

  pub inside : k < length (compared ss)
  inside = let n = sites_count in let j = compared_length [] (sited 0 0 (numbered 0 ss)) in omega (arith, l)

  pub path_here : (get_or (compared ss) k nothing_compared).path ≡ k
  path_here = let n = sites_count in let p = path_in [] (sited 0 0 (numbered 0 ss)) 0 k (sites_numbered ss 0 0 0) (omega (arith, l)) in omega arith

  fate_here : (f d : Fate) → get_or fates k d ≡ f → f ≡ fate_by (get_or (compared ss) k nothing_compared).site (get_or (compared ss) k nothing_compared).same
  fate_here f d e = sym e ∙ ap (λ fs. get_or fs k d) given ∙ get_or-map (λ (x : Compared). fate_by x.site x.same) (compared ss) k nothing_compared d inside

  -- a path whose tree an earlier one has
  pub same_here : (q : PathId) (d : Fate) → get_or fates k d ≡ SameAs q
      → get_or (compared ss) k nothing_compared ≡ record { path = k; site = (get_or (compared ss) k nothing_compared).site; same = Some q.0 }
  same_here q d e =
      let x = get_or (compared ss) k nothing_compared in
      let o : x.same ≡ Some q.0 = same_fate x.site x.same q (fate_here (SameAs q) d e) in
      ap (λ p. record { path = p; site = x.site; same = x.same }) path_here ∙ ap (λ z. record { path = k; site = x.site; same = z }) o

  -- a path that is kept
  pub kept_here : (n : ℕ) (d : Fate) → get_or fates k d ≡ Stays n
      → (get_or (compared ss) k nothing_compared ≡ record { path = k; site = (get_or (compared ss) k nothing_compared).site; same = None }) × (n ≡ length (values_removed (get_or (compared ss) k nothing_compared).site))
  kept_here n d e =
      let x = get_or (compared ss) k nothing_compared in
      let o = kept_fate x.site x.same n (fate_here (Stays n) d e) in
      (ap (λ p. record { path = p; site = x.site; same = x.same }) path_here ∙ ap (λ z. record { path = k; site = x.site; same = z }) o.0, o.1)

-- how many paths there are
pub few_fates : (ss : List Tree) (fates : List Fate) → fates ≡ fates_of (compared ss) → length ss ≤ 256 → length fates ≤ 256
few_fates ss fates given few =
    let n = ap length given in
    let m = length-map (compared ss) (λ (x : Compared). fate_by x.site x.same) in
    let j = compared_length [] (sited 0 0 (numbered 0 ss)) in
    let i = sites_length ss 0 0 0 in
    omega arith
  where
    sites_length : (ts : List Tree) (p a b : ℕ) → length (sited a b (numbered p ts)) ≡ length ts
    sites_length [] p a b = refl
    sites_length (t ∷ ts) p a b = ap suc (sites_length ts (p + 1) (a + semaphores_in t) (b + braces t))

module _ {Y : Type 0} (d : Declaration) (xs : List Compared) (k : ℕ) (l : k < length xs) (y : Compared) (here : get_or xs k nothing_compared ≡ y) (out : List ℕ) (kept : List (LeanPath Y)) (removed : List Removed) (so_far : Listed d xs k out kept removed) where
  front : take (k + 1) xs ≡ take k xs ++ y ∷ []
  front = take_more xs k nothing_compared l ∙ ap (λ z. take k xs ++ z ∷ []) here

  rest : drop k xs ≡ y ∷ drop (k + 1) xs
  rest = drop-cons xs k nothing_compared l ∙ ap (λ z. z ∷ drop (suc k) xs) here ∙ ap (λ n. y ∷ drop n xs) (sym (add-one k))

  pub removed_now : removed ≡ lost y.path y.site y.same ++ all_lost (drop (k + 1) xs)
  removed_now = so_far.gone ∙ ap all_lost rest

  pub rows_now : map row_of kept ≡ map lean_row (site_left y.path y.site y.same ++ sites_left (drop (k + 1) xs))
  rows_now = so_far.table ∙ ap (λ z. map lean_row (sites_left z)) rest

  text_now : (new : List ℕ) → new ≡ out ++ path_lines d y.path y.site y.same → new ≡ all_lines d (take (k + 1) xs)
  text_now new e =
      e ∙ ap (λ z. z ++ path_lines d y.path y.site y.same) so_far.text
      ∙ ap (λ z. all_lines d (take k xs) ++ z) (sym (append-nil (path_lines d y.path y.site y.same)))
      ∙ sym (flat_map-append (λ (x : Compared). path_lines d x.path x.site x.same) (take k xs) (y ∷ []))
      ∙ ap (all_lines d) (sym front)

module _ {Y : Type 0} (d : Declaration) (xs : List Compared) (k : ℕ) (l : k < length xs) (x : Sited) (out : List ℕ) (kept : List (LeanPath Y)) (removed : List Removed) (so_far : Listed d xs k out kept removed) where
  module _ (q : ℕ) (here : get_or xs k nothing_compared ≡ record { path = k; site = x; same = Some q }) where
    pub same_some : 1 ≤ length removed
    same_some = let n = ap length (removed_now d xs k l (record { path = k; site = x; same = Some q }) here out kept removed so_far) in omega arith

    pub same_listed : (mid new : List ℕ) (later : List Removed) → mid ≡ out ++ header d k → new ≡ mid ++ same_rest q → later ≡ drop 1 removed → Listed d xs (k + 1) new kept later
    same_listed mid new later m n r = record {
      text = text_now d xs k l (record { path = k; site = x; same = Some q }) here out kept removed so_far new (n ∙ ap (λ z. z ++ same_rest q) m ∙ append_assoc out (header d k) (same_rest q));
      table = rows_now d xs k l (record { path = k; site = x; same = Some q }) here out kept removed so_far;
      gone = r ∙ ap (drop 1) (removed_now d xs k l (record { path = k; site = x; same = Some q }) here out kept removed so_far);
    }

  module _ (here : get_or xs k nothing_compared ≡ record { path = k; site = x; same = None }) where
    lost_here : removed ≡ values_removed x ++ all_lost (drop (k + 1) xs)
    lost_here = removed_now d xs k l (record { path = k; site = x; same = None }) here out kept removed so_far

    row_here : map row_of kept ≡ lean_row (k, x) ∷ map lean_row (sites_left (drop (k + 1) xs))
    row_here = rows_now d xs k l (record { path = k; site = x; same = None }) here out kept removed so_far

    pub kept_enough : (n : ℕ) → n ≡ length (values_removed x) → n ≤ length removed
    kept_enough n e = let i = ap length lost_here in let j = length-append (values_removed x) (all_lost (drop (k + 1) xs)) in omega arith

    pub kept_some : 0 < length kept
    kept_some = let i = ap length row_here in let j = length-map kept (λ (p : LeanPath Y). row_of p) in omega arith

    pub kept_listed : (mid new : List ℕ) (n : ℕ) (own others : List Removed) (p : LeanPath Y) (later : List (LeanPath Y)) → mid ≡ out ++ header d k → n ≡ length (values_removed x)
        → own ≡ take n removed → others ≡ drop n removed → kept ≡ p ∷ later → new ≡ mid ++ 10 ∷ (removed_line own ++ row_lines d (row_of p)) → Listed d xs (k + 1) new later others
    kept_listed mid new n own others p later m count o r split t =
        let values : own ≡ values_removed x = o ∙ ap (λ i. take i removed) count ∙ ap (take (length (values_removed x))) lost_here ∙ take-append_seam (values_removed x) (all_lost (drop (k + 1) xs)) in
        let gone : others ≡ all_lost (drop (k + 1) xs) = r ∙ ap (λ i. drop i removed) count ∙ ap (drop (length (values_removed x))) lost_here ∙ drop-append_seam (values_removed x) (all_lost (drop (k + 1) xs)) in
        let rows : row_of p ∷ map row_of later ≡ lean_row (k, x) ∷ map lean_row (sites_left (drop (k + 1) xs)) = ap (map row_of) (sym split) ∙ row_here in
        let row : row_of p ≡ lean_row (k, x) = cc in
        let table : map row_of later ≡ map lean_row (sites_left (drop (k + 1) xs)) = cc in
        let text : new ≡ out ++ path_lines d k x None =
        t ∙ ap (λ z. z ++ 10 ∷ (removed_line own ++ row_lines d (row_of p))) m ∙ append_assoc out (header d k) (10 ∷ (removed_line own ++ row_lines d (row_of p)))
        ∙ ap (λ z. out ++ (header d k ++ 10 ∷ (removed_line z ++ row_lines d (row_of p)))) values
        ∙ ap (λ z. out ++ (header d k ++ 10 ∷ (removed_line (values_removed x) ++ row_lines d z))) row in
        record { text = text_now d xs k l (record { path = k; site = x; same = None }) here out kept removed so_far new text; table = table; gone = gone }

-- as many as were compared
pub compared_few : (ss : List Tree) (fates : List Fate) → fates ≡ fates_of (compared ss) → length (compared ss) ≡ length fates
compared_few ss fates given = let n = ap length given in let m = length-map (compared ss) (λ (x : Compared). fate_by x.site x.same) in omega arith

-- all paths
pub listed_all : {Y : Type 0} (d : Declaration) (xs : List Compared) (k : ℕ) (out : List ℕ) (kept : List (LeanPath Y)) (removed : List Removed) → Listed d xs k out kept removed → length xs ≤ k → out ≡ all_lines d xs
listed_all d xs k out kept removed so_far l = so_far.text ∙ ap (all_lines d) (take_all k xs l)
