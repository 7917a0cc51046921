-- The numbers of one path, and its place in the table.
use Rattle.std.proofs.Common.{◌≡◌, ◌||◌, ◌+◌, ◌-◌, ◌<◌, ◌≤◌, ℕ, zero, suc, cond, Bool, true, false, List, [], ◌∷◌, ◌++◌, length, get_or, take, arith, refl, sym, ap, ◌∙◌, subst, inl, inr, length-append}
use Rattle.std.specs.List.{sum_by}
use Rattle.std.proofs.lemmas.List.{append_assoc, get_or_append_left, get_or-append-add}
use Rattle.std.proofs.Math.Seq.{get_or-append_seam}
use Rattle.std.proofs.lemmas.List.Sums.{sum_by-cons}
use Rattle.std.proofs.lemmas.Bool.{cases_lt, cases_eq, cases_Bool, cond-true, cond-false}
use Rattle.path_model.specs.declared.history.Event.{Event}
use Rattle.path_model.specs.Trees.{Tree, op, seq, alt, burst}
use Rattle.path_model.specs.Machine.{semicolons, braces, Values}
use Rattle.path_model.specs.Executions.{entered, left}
use Rattle.path_model.specs.Guarantees.{PartsCount}
use Rattle.path_model.specs.Legal as legal
use Rattle.path_model.specs.Flat.{semaphores_in, Sited, sited}
use Rattle.path_model.specs.Trimmed.{same_tree, stands_in}
use Rattle.path_model.proofs.CallerLemmas.{same_tree_same}
use Rattle.path_gate.specs.Sites.{unlike}
use Rattle.path_state.specs.Standings.{stands_after}
use Rattle.path_state.proofs.CallerLemmas.{stands_long}

-- the k-th number is the value of the k-th `;`, if the first has the number n
pub stands_from : (t : Tree) (n m : ℕ) (h : List Event) (v : Values) → PartsCount t n m h v → (i : ℕ) → i < semicolons t → get_or (stands_after t h) i 0 ≡ v.semaphore (n + i)
stands_from (op a) n m h v k i l = absurd (omega (arith, l))
stands_from (burst bd t) n m h v k i l = stands_from t n (m + 1) h v k.0 i l
stands_from (alt s t) n m h v k i l = elim (cases_lt i (semicolons s)) [
  | inl low ↦ get_or_append_left (stands_after s h) (stands_after t h) 0 i (omega (arith, low, stands_long s h)) ∙ stands_from s n m h v k.0 i low
  | inr high ↦
      let j : ℕ = i - semicolons s in
      let there : i ≡ length (stands_after s h) + j = omega (arith, high, stands_long s h) in
      ap (λ x. get_or (stands_after s h ++ stands_after t h) x 0) there ∙ get_or-append-add (stands_after s h) (stands_after t h) j 0
      ∙ stands_from t (n + semicolons s) (m + braces s) h v k.1 j (omega (arith, high, l)) ∙ ap v.semaphore (omega (arith, high))
]
stands_from (seq s t) n m h v k i l =
    let between : ℕ = left s h - entered t h in
    let middle : between ≡ v.semaphore (n + semicolons s) = omega (arith, k.2) in
    elim (cases_lt i (semicolons s)) [
      | inl low ↦ get_or_append_left (stands_after s h) (between ∷ stands_after t h) 0 i (omega (arith, low, stands_long s h)) ∙ stands_from s n m h v k.0 i low
      | inr high ↦ elim (cases_eq i (semicolons s)) [
        | inl e ↦
            ap (λ x. get_or (stands_after s h ++ between ∷ stands_after t h) x 0) (omega (arith, e, stands_long s h)) ∙ get_or-append_seam (stands_after s h) between (stands_after t h) 0
            ∙ middle ∙ ap v.semaphore (omega (arith, e))
        | inr ne ↦
            let j : ℕ = i - semicolons s - 1 in
            let there : i ≡ length (stands_after s h ++ between ∷ []) + j = omega (arith, high, ne, stands_long s h, length-append (stands_after s h) (between ∷ [])) in
            ap (λ xs. get_or xs i 0) (sym (append_assoc (stands_after s h) (between ∷ []) (stands_after t h)))
            ∙ ap (λ x. get_or ((stands_after s h ++ between ∷ []) ++ stands_after t h) x 0) there ∙ get_or-append-add (stands_after s h ++ between ∷ []) (stands_after t h) j 0
            ∙ stands_from t (n + semicolons s + 1) (m + braces s) h v k.1 j (omega (arith, high, ne, l)) ∙ ap v.semaphore (omega (arith, high, ne))
      ]
    ]

-- the same place, written otherwise
pub moved : (P : Sited → Type 0) (t : Tree) (o p f g : ℕ) → o ≡ p → f ≡ g → P (record { tree = t; own = o; first = f }) → P (record { tree = t; own = p; first = g })
moved P t o p f g a b k = subst (λ q. P (record { tree = t; own = p; first = q })) b (subst (λ q. P (record { tree = t; own = q; first = f })) a k)

-- what holds of all kept paths holds of one whose tree no earlier path has; the numbers of its values follow those of the paths before
pub kept_here : (P : Sited → Type 0) (base : Tree) (ss : List Tree) (n k c : ℕ) (seen : List Tree) (i : ℕ) → i < length ss → stands_in (get_or ss i base) seen ≡ false
    → ((j : ℕ) → j < i → same_tree (get_or ss i base) (get_or ss j base) ≡ false) → legal.Every P (unlike seen (sited k c (legal.numbered n ss)))
    → P (record { tree = get_or ss i base; own = k + sum_by semaphores_in (take i ss); first = c + sum_by braces (take i ss) })
kept_here P base [] n k c seen i l new apart e = absurd (omega (arith, l))
kept_here P base (s ∷ ss) n k c seen zero l new apart e =
    let kept : legal.Every P ((n, record { tree = s; own = k; first = c }) ∷ unlike (s ∷ seen) (sited (k + semaphores_in s) (c + braces s) (legal.numbered (n + 1) ss))) = subst (legal.Every P) (cond-false (stands_in s seen) _ _ new) e in
    moved P s k (k + sum_by semaphores_in []) c (c + sum_by braces []) (omega arith) (omega arith) kept.0
kept_here P base (s ∷ ss) n k c seen (suc i) l new apart e =
    let rest : List (ℕ × Sited) = sited (k + semaphores_in s) (c + braces s) (legal.numbered (n + 1) ss) in
    let later : P (record { tree = get_or ss i base; own = k + semaphores_in s + sum_by semaphores_in (take i ss); first = c + braces s + sum_by braces (take i ss) })
    → P (record { tree = get_or ss i base; own = k + sum_by semaphores_in (s ∷ take i ss); first = c + sum_by braces (s ∷ take i ss) }) =
    moved P (get_or ss i base) _ _ _ _ (omega (arith, sum_by-cons semaphores_in s (take i ss))) (omega (arith, sum_by-cons braces s (take i ss))) in
    elim (stands_in s seen) as (λ d. legal.Every P (cond d (unlike seen rest) ((n, record { tree = s; own = k; first = c }) ∷ unlike (s ∷ seen) rest)) → P (record { tree = get_or ss i base; own = k + sum_by semaphores_in (s ∷ take i ss); first = c + sum_by braces (s ∷ take i ss) })) [
      | true ↦ λ q. later (kept_here P base ss (n + 1) (k + semaphores_in s) (c + braces s) seen i (omega (arith, l)) new (λ j m. apart (suc j) (omega (arith, m))) q)
      | false ↦ λ q. later (kept_here P base ss (n + 1) (k + semaphores_in s) (c + braces s) (s ∷ seen) i (omega (arith, l)) (rw (apart 0 (omega arith), new) refl) (λ j m. apart (suc j) (omega (arith, m))) q.1)
    ] e

true_false : true ≡ false → ⊥
true_false z = cc

neither : (a b : Bool) → a || b ≡ false → (a ≡ false) × (b ≡ false)
neither true b e = absurd (true_false e)
neither false b e = (refl, e)

apart_more : (t s : Tree) (ss : List Tree) (base : Tree) (i : ℕ) → same_tree t s ≡ false → ((j : ℕ) → j < i → same_tree t (get_or ss j base) ≡ false) → (j : ℕ) → j < suc i → same_tree t (get_or (s ∷ ss) j base) ≡ false
apart_more t s ss base i first rest zero m = first
apart_more t s ss base i first rest (suc j) m = rest j (omega (arith, m))

not_seen : (t s : Tree) (seen : List Tree) → stands_in s seen ≡ true → stands_in t seen ≡ false → same_tree t s ≡ false
not_seen t s seen seen_before unseen = elim (cases_Bool (same_tree t s)) [
  | inl same ↦ absurd (true_false (sym seen_before ∙ ap (λ u. stands_in u seen) (sym (same_tree_same t s same)) ∙ unseen))
  | inr other ↦ other
]

-- and what holds of each of those holds of all that are kept
pub kept_each : (P : Sited → Type 0) (base : Tree) (ss : List Tree) (n k c : ℕ) (seen : List Tree)
    → ((i : ℕ) → i < length ss → stands_in (get_or ss i base) seen ≡ false → ((j : ℕ) → j < i → same_tree (get_or ss i base) (get_or ss j base) ≡ false)
    → P (record { tree = get_or ss i base; own = k + sum_by semaphores_in (take i ss); first = c + sum_by braces (take i ss) })) → legal.Every P (unlike seen (sited k c (legal.numbered n ss)))
kept_each P base [] n k c seen f = tt
kept_each P base (s ∷ ss) n k c seen f =
    let later : (i : ℕ) → P (record { tree = get_or ss i base; own = k + sum_by semaphores_in (s ∷ take i ss); first = c + sum_by braces (s ∷ take i ss) })
    → P (record { tree = get_or ss i base; own = k + semaphores_in s + sum_by semaphores_in (take i ss); first = c + braces s + sum_by braces (take i ss) }) =
    λ i. moved P (get_or ss i base) _ _ _ _ (omega (arith, sum_by-cons semaphores_in s (take i ss))) (omega (arith, sum_by-cons braces s (take i ss))) in
    elim (cases_Bool (stands_in s seen)) [
      | inl known ↦ subst (legal.Every P) (sym (cond-true (stands_in s seen) _ _ known))
          (kept_each P base ss (n + 1) (k + semaphores_in s) (c + braces s) seen
          (λ i l new apart. later i (f (suc i) (omega (arith, l)) new (apart_more (get_or ss i base) s ss base i (not_seen (get_or ss i base) s seen known new) apart))))
      | inr unknown ↦ subst (legal.Every P) (sym (cond-false (stands_in s seen) _ _ unknown)) (
        moved P s (k + sum_by semaphores_in []) k (c + sum_by braces []) c (omega arith) (omega arith) (f zero (omega arith) unknown (λ j m. absurd (omega (arith, m)))),
        kept_each P base ss (n + 1) (k + semaphores_in s) (c + braces s) (s ∷ seen)
            (λ i l new apart.
            let both = neither (same_tree (get_or ss i base) s) (stands_in (get_or ss i base) seen) new in
            later i (f (suc i) (omega (arith, l)) both.1 (apart_more (get_or ss i base) s ss base i both.0 apart))),
      )
    ]

-- the numbers of a path end below those of the later ones
pub ends_below : (f : Tree → ℕ) (base : Tree) (ss : List Tree) (i n : ℕ) → i < n → n ≤ length ss → sum_by f (take i ss) + f (get_or ss i base) ≤ sum_by f (take n ss)
ends_below f base [] i n l m = absurd (omega (arith, l, m))
ends_below f base (s ∷ ss) i zero l m = absurd (omega (arith, l))
ends_below f base (s ∷ ss) zero (suc n) l m = omega (arith, sum_by-cons f s (take n ss))
ends_below f base (s ∷ ss) (suc i) (suc n) l m =
    omega (arith, sum_by-cons f s (take i ss), sum_by-cons f s (take n ss), ends_below f base ss i n (omega (arith, l)) (omega (arith, m)))

-- the same, with the numbers of the file
pub kept_site : (P : Sited → Type 0) (base : Tree) (ss : List Tree) (i : ℕ) → i < length ss → ((j : ℕ) → j < i → same_tree (get_or ss i base) (get_or ss j base) ≡ false) → legal.Every P (unlike [] (sited 0 0 (legal.numbered 0 ss)))
    → P (record { tree = get_or ss i base; own = sum_by semaphores_in (take i ss); first = sum_by braces (take i ss) })
kept_site P base ss i l apart e = moved P (get_or ss i base) _ _ _ _ (omega arith) (omega arith) (kept_here P base ss 0 0 0 [] i l refl apart e)

pub kept_sites : (P : Sited → Type 0) (base : Tree) (ss : List Tree)
    → ((i : ℕ) → i < length ss → ((j : ℕ) → j < i → same_tree (get_or ss i base) (get_or ss j base) ≡ false) → P (record { tree = get_or ss i base; own = sum_by semaphores_in (take i ss); first = sum_by braces (take i ss) }))
    → legal.Every P (unlike [] (sited 0 0 (legal.numbered 0 ss)))
kept_sites P base ss f = kept_each P base ss 0 0 0 [] (λ i l new apart. moved P (get_or ss i base) _ _ _ _ (omega arith) (omega arith) (f i l apart))
