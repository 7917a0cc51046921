-- The values of the paths so far, and those of one more.
use Rattle.std.proofs.Common.{◌≡◌, ◌+◌, ◌<◌, ◌≤◌, ℕ, true, List, take, length, get_or, arith, refl, sym, ap, ◌∙◌, subst, inl, inr}
use Rattle.std.specs.List.{sum_by}
use Rattle.std.proofs.lemmas.Bool.{cases_lt, cases_eq, eq-eqb, and_from}
use Rattle.path_model.specs.declared.ids.OpId.{OpId}
use Rattle.path_model.specs.Trees.{Bound, any, most, Tree, op, seq, alt, burst}
use Rattle.path_model.specs.Machine.{braces}
use Rattle.path_model.specs.Legal as legal
use Rattle.path_model.specs.Flat.{Sited, semaphores_in, bound_number}
use Rattle.path_model.specs.Trimmed.{same_bound, same_tree}
use Rattle.path_model.specs.Declarations.{Declaration, trees, paths_of}
use Rattle.path_model.proofs.CallerLemmas.{rank_low}
use Rattle.path_gate.specs.Levels.{Levels}
use Rattle.path_gate.specs.Sites.{kept_paths, HasPlaces, LeavesSemaphore, LeavesCounter}
use Rattle.path_standings.specs.Told.{tree_at, site_at, IsFirst, progress_of, row_at}
use Rattle.path_standings.specs.Misfits.{PathCanStand}
use Rattle.path_standings.specs.Written.{ShowsStanding, WritesPath, WritesPaths}
use Rattle.path_standings.proofs.Few.{many}
use Rattle.path_standings.proofs.Fits.{true_false}
use Rattle.path_standings.proofs.Rows.{kept_site, ends_below}
use Rattle.path_decl.specs.Lawful.{Lawful}

same_bounds : (b : Bound) → same_bound b b ≡ true
same_bounds any = refl
same_bounds (most n) = eq-eqb n n refl

-- a tree is the same as itself
pub same_self : (s : Tree) → same_tree s s ≡ true
same_self (op a) = eq-eqb a.0 a.0 refl
same_self (seq s t) = and_from (same_tree s s) (same_tree t t) (same_self s) (same_self t)
same_self (alt s t) = and_from (same_tree s s) (same_tree t t) (same_self s) (same_self t)
same_self (burst b s) = and_from (same_bound b b) (same_tree s s) (same_bounds b) (same_self s)

-- a path with the tree of an earlier one isn't kept
pub not_first : (d : Declaration) (n i : ℕ) → i < n → tree_at d i ≡ tree_at d n → IsFirst d n → ⊥
not_first d n i l same first = true_false (sym (same_self (tree_at d n)) ∙ ap (same_tree (tree_at d n)) (sym same) ∙ first i l)

-- where earlier paths with one tree stand alike, one that stands as one of them stands as each
pub alike : (d : Declaration) (counts : List ℕ) (rows : List (List ℕ)) (n e : ℕ) → e < n → tree_at d e ≡ tree_at d n → row_at rows e ≡ row_at rows n → ((j : ℕ) → j < n → PathCanStand d counts rows j)
    → (j : ℕ) → j < n → tree_at d j ≡ tree_at d n → row_at rows j ≡ row_at rows n
alike d counts rows n e l same equal before j m t = elim (cases_lt j e) [
  | inl below ↦ (before e l).same j below (t ∙ sym same) ∙ equal
  | inr past ↦ elim (cases_eq j e) [
    | inl here ↦ ap (row_at rows) here ∙ equal
    | inr apart ↦ sym ((before j m).same e (omega (arith, past, apart)) (same ∙ sym t)) ∙ equal
  ]
]

-- and one whose tree no earlier path has stands as each that has
pub alone : (d : Declaration) (rows : List (List ℕ)) (n : ℕ) → IsFirst d n → (j : ℕ) → j < n → tree_at d j ≡ tree_at d n → row_at rows j ≡ row_at rows n
alone d rows n first j l same = absurd (not_first d n j l same first)

-- the values of a path stay where those of a later one are written
still_shows : (progress : OpId → ℕ) (row : List ℕ) (x : Sited) (old new : Levels) → length new.semaphores ≡ length old.semaphores → length new.counters ≡ length old.counters
    → ((j : ℕ) → j < x.own + semaphores_in x.tree → get_or new.semaphores j 0 ≡ get_or old.semaphores j 0) → ((j : ℕ) → j < x.first + braces x.tree → get_or new.counters j 0 ≡ get_or old.counters j 0)
    → ShowsStanding old progress row x → ShowsStanding new progress row x
still_shows progress row x old new long counters_long below counters_below shows w v places =
    let there : HasPlaces (length old.semaphores) (length old.counters) x = subst (λ n. HasPlaces n (length old.counters) x) long (subst (λ m. HasPlaces (length new.semaphores) m x) counters_long places) in
    let s = shows w v there in
    record {
      semaphores = λ q l keeps. below (x.own + q) (omega (arith, l)) ∙ s.semaphores q l keeps;
      counters = λ c l keeps. counters_below (x.first + c) (omega (arith, l)) ∙ s.counters c l keeps;
      limits = λ c h. below (bound_number x c) (let r = rank_low x.tree 0 c h in omega (arith, r)) ∙ s.limits c h;
    }

module _ (d : Declaration) (lawful : Lawful d) (counts : List ℕ) (rows : List (List ℕ)) (n : ℕ) (within : n < length d.paths) (old mid : Levels) (so : WritesPaths d counts rows n old mid) where
  -- one that isn't kept
  pub writes_same : (IsFirst d n → ⊥) → WritesPaths d counts rows (n + 1) old mid
  writes_same other = record {
    semaphores = so.semaphores;
    counters = so.counters;
    shows = λ i l first. elim (cases_lt i n) [
      | inl below ↦ so.shows i below first
      | inr past ↦ absurd (other (subst (IsFirst d) (let here : i ≡ n = omega (arith, l, past) in here) first))
    ];
    other_semaphores = so.other_semaphores;
    other_counters = so.other_counters;
  }

  -- and one that is
  module _ (new : Levels) (first : IsFirst d n) (writes : WritesPath mid new (progress_of counts) (row_at rows n) (site_at d n)) where
    ends : (i : ℕ) → i < n → (sum_by semaphores_in (take i (trees d)) + semaphores_in (tree_at d i) ≤ sum_by semaphores_in (take n (trees d))) × (sum_by braces (take i (trees d)) + braces (tree_at d i) ≤ sum_by braces (take n (trees d)))
    ends i l =
        let m : n ≤ length (trees d) = omega (arith, within, many d lawful) in
        (ends_below semaphores_in (op (record { 0 = 0 })) (trees d) i n l m, ends_below braces (op (record { 0 = 0 })) (trees d) i n l m)

    leaves_semaphore : (j : ℕ) → j < sum_by semaphores_in (take n (trees d)) → LeavesSemaphore j (site_at d n)
    leaves_semaphore j l = record { own = λ q a k is. omega (arith, l, is); limits = λ c h is. omega (arith, l, is) }

    leaves_counter : (j : ℕ) → j < sum_by braces (take n (trees d)) → LeavesCounter j (site_at d n)
    leaves_counter j l = record { own = λ c a k is. omega (arith, l, is) }

    before : (i : ℕ) → i < n → IsFirst d i → ShowsStanding new (progress_of counts) (row_at rows i) (site_at d i)
    before i l kept =
        let e = ends i l in
        still_shows (progress_of counts) (row_at rows i) (site_at d i) mid new writes.semaphores writes.counters
        (λ j m. writes.other_semaphores j (leaves_semaphore j (let a = e.0 in omega (arith, m, a))))
        (λ j m. writes.other_counters j (leaves_counter j (let a = e.1 in omega (arith, m, a)))) (so.shows i l kept)

    at_site : (P : Sited → Type 0) → legal.Every P (kept_paths (paths_of d)) → P (site_at d n)
    at_site P e = kept_site P (op (record { 0 = 0 })) (trees d) n (omega (arith, within, many d lawful)) first e

    pub writes_more : WritesPaths d counts rows (n + 1) old new
    writes_more = record {
      semaphores = writes.semaphores ∙ so.semaphores;
      counters = writes.counters ∙ so.counters;
      shows = λ i l kept. elim (cases_lt i n) [
        | inl below ↦ before i below kept
        | inr past ↦ (let here : n ≡ i = omega (arith, l, past) in subst (λ j. ShowsStanding new (progress_of counts) (row_at rows j) (site_at d j)) here writes.shows)
      ];
      other_semaphores = λ i free. writes.other_semaphores i (at_site (LeavesSemaphore i) free) ∙ so.other_semaphores i free;
      other_counters = λ i free. writes.other_counters i (at_site (LeavesCounter i) free) ∙ so.other_counters i free;
    }

-- nothing is written for no paths
pub writes_none : (d : Declaration) (counts : List ℕ) (rows : List (List ℕ)) (old : Levels) → WritesPaths d counts rows 0 old old
writes_none d counts rows old = record {
  semaphores = refl;
  counters = refl;
  shows = λ i l first. absurd (omega (arith, l));
  other_semaphores = λ i free. refl;
  other_counters = λ i free. refl;
}
