-- The values of a gate are the numbers of its paths.
use Rattle.std.proofs.Common.{◌≡◌, ◌+◌, ◌<◌, ◌≤◌, ℕ, false, List, [], ◌∷◌, ◌++◌, length, map, get_or, take, drop, arith, refl, sym, ap, ◌∙◌, subst, ◌⊎◌, inl, inr}
use Rattle.std.specs.List.{sum_by}
use Rattle.std.proofs.lemmas.List.{length-map, get_or-map, length-take-le, length-drop, get_or-take, get_or-drop, take_more}
use Rattle.std.proofs.lemmas.Grind.{same_number_lists}
use Rattle.std.proofs.lemmas.Bool.{cases_lt}
use Rattle.path_model.specs.declared.history.Event.{Event}
use Rattle.path_model.specs.Trees.{Tree, WellFormed}
use Rattle.path_model.specs.Projection.{LegalOn}
use Rattle.path_model.specs.Machine.{semicolons, braces, opening}
use Rattle.path_model.specs.AmongOthers.{values_among}
use Rattle.path_model.specs.Guarantees.{PartsCount}
use Rattle.path_model.specs.Legal as legal
use Rattle.path_model.specs.Flat.{semaphores_in, Sited}
use Rattle.path_model.specs.Trimmed.{same_tree, lean_among}
use Rattle.path_model.proofs.CallerLemmas.{each_path_trims, each_value_is_a_count}
use Rattle.path_gate.specs.Sites.{kept_paths, Shows, HasPlaces}
use Rattle.path_gate.specs.Standings.{Standing, IsAt, HavePlaces}
use Rattle.path_state.specs.Standings.{stands_after}
use Rattle.path_state.proofs.CallerLemmas.{stands_long}
use Rattle.path_standings.proofs.Few.{every_at}
use Rattle.path_standings.proofs.Rows.{stands_from, kept_here}

none_or_some : (n : ℕ) → (n ≡ 0) ⊎ (0 < n)
none_or_some n = elim (cases_lt 0 n) [ inl some ↦ inr some | inr none ↦ inl (omega (arith, none)) ]

-- rows of the paths so far, and one more
pub told_more : (rows : List (List ℕ)) (row : List ℕ) (ss : List Tree) (n : ℕ) (base : Tree) (h : List Event) → n < length ss → rows ≡ take n (map (λ s. stands_after s h) ss)
    → row ≡ stands_after (get_or ss n base) h → rows ++ row ∷ [] ≡ take (n + 1) (map (λ s. stands_after s h) ss)
told_more rows row ss n base h l told is =
    let within : n < length (map (λ s. stands_after s h) ss) = omega (arith, l, length-map ss (λ s. stands_after s h)) in
    ap (λ r. r ++ row ∷ []) told ∙ ap (λ r. take n (map (λ s. stands_after s h) ss) ++ r ∷ []) (is ∙ sym (get_or-map (λ s. stands_after s h) ss n base [] l))
    ∙ sym (take_more (map (λ s. stands_after s h) ss) n [] within)

-- the row of an earlier path
pub told_before : (rows : List (List ℕ)) (ss : List Tree) (n i : ℕ) (base : Tree) (h : List Event) → n ≤ length ss → i < n → rows ≡ take n (map (λ s. stands_after s h) ss)
    → get_or rows i [] ≡ stands_after (get_or ss i base) h
told_before rows ss n i base h l m told =
    ap (λ r. get_or r i []) told ∙ get_or-take n (map (λ s. stands_after s h) ss) i [] m ∙ get_or-map (λ s. stands_after s h) ss i base [] (omega (arith, l, m))

-- a path whose tree no earlier path has
module _ (g : Standing) (ss : List Tree) (paths : g.paths ≡ legal.numbered 0 ss) (places : HavePlaces g) (base : Tree) (i : ℕ) (l : i < length ss)
    (apart : (j : ℕ) → j < i → same_tree (get_or ss i base) (get_or ss j base) ≡ false) where
  abbrev tree : Tree
  tree = get_or ss i base

  abbrev own : ℕ
  own = sum_by semaphores_in (take i ss)

  at_site : (P : Sited → Type 0) → legal.Every P (kept_paths g.paths) → P (record { tree = tree; own = 0 + own; first = 0 + sum_by braces (take i ss) })
  at_site P e = kept_here P base ss 0 0 0 [] i l refl apart (subst (λ xs. legal.Every P (kept_paths xs)) paths e)

  pub within : (own_is : ℕ) → own_is ≡ own → 0 < semicolons tree → own_is + 1 + semicolons tree ≤ length g.levels.semaphores
  within own_is same some =
      let placed = at_site (λ x. HasPlaces (length g.levels.semaphores) (length g.levels.counters) x) places in
      let last = placed.semaphores (semicolons tree) (omega arith) (λ _. some) in
      omega (arith, last, same)

  module _ (wf : WellFormed tree) (h : List Event) (legal_all : legal.Legal g.paths h) (at : IsAt g h) where
    legal_here : LegalOn tree h
    legal_here = every_at (λ s. LegalOn s h) ss 0 i base l (subst (λ xs. legal.Legal xs h) paths legal_all)

    counts : PartsCount tree 1 0 h (values_among tree (opening tree) h)
    counts = (each_value_is_a_count tree wf h legal_here).parts

    value_at : (k : ℕ) → k < semicolons tree → get_or g.levels.semaphores (own + (k + 1)) 0 ≡ (values_among tree (opening tree) h).semaphore (1 + k)
    value_at k m =
        let shown = at_site (λ x. Shows g.levels (lean_among x.tree (opening x.tree) h) x) at.values in
        let e = shown.semaphores (k + 1) (omega (arith, m)) (λ _. omega arith) in
        let t = (each_path_trims tree wf h).kept_values.semaphores (k + 1) (λ _. omega arith) in
        ap (λ q. get_or g.levels.semaphores q 0) (omega arith) ∙ e ∙ t ∙ ap (values_among tree (opening tree) h).semaphore (omega arith)

    pub row_is : (own_is : ℕ) → own_is ≡ own → take (semicolons tree) (drop (own_is + 1) g.levels.semaphores) ≡ stands_after tree h
    row_is own_is same = same_number_lists (take (semicolons tree) (drop (own_is + 1) g.levels.semaphores)) (stands_after tree h) (long ∙ sym (stands_long tree h))
        (λ k m. let low : k < semicolons tree = omega (arith, m, long) in
        get_or-take (semicolons tree) (drop (own_is + 1) g.levels.semaphores) k 0 low ∙ get_or-drop (own_is + 1) g.levels.semaphores k 0
        ∙ ap (λ q. get_or g.levels.semaphores q 0) (omega (arith, same)) ∙ value_at k low ∙ sym (stands_from tree 1 0 h (values_among tree (opening tree) h) counts k low))
      where
        long : length (take (semicolons tree) (drop (own_is + 1) g.levels.semaphores)) ≡ semicolons tree
        long = elim (none_or_some (semicolons tree)) [
          | inl none ↦ rw none refl
          | inr some ↦ length-take-le (semicolons tree) (drop (own_is + 1) g.levels.semaphores) (omega (arith, within own_is same some, length-drop (own_is + 1) g.levels.semaphores))
        ]
