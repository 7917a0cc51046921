-- What is written for a path shows the values that it has where it stands so.
use Rattle.std.proofs.Common.{◌≡◌, ◌⊎◌, ◌+◌, ◌-◌, ◌<◌, ◌≤◌, ℕ, zero, suc, true, false, List, [], ◌∷◌, length, get_or, arith, refl, sym, ap, ◌∙◌, inl, inr}
use Rattle.std.proofs.lemmas.Bool.{cases_lt, cases_eq}
use Rattle.path_model.specs.declared.ids.OpId.{OpId}
use Rattle.path_model.specs.Machine.{semicolons, braces, Values}
use Rattle.path_model.specs.Flat.{Sited, counted_braces, HasBound, rank, bound_number}
use Rattle.path_model.specs.Trimmed.{is_burst, KeepsSemaphore, KeepsCounter}
use Rattle.path_model.proofs.CallerLemmas.{rank_low}
use Rattle.path_gate.specs.Levels.{levels}
use Rattle.path_gate.specs.Sites.{HasPlaces, LeavesSemaphore, LeavesCounter}
use Rattle.path_state.specs.Pasts.{underway, CanStand}
use Rattle.path_state.specs.Values.{ValuesStand}
use Rattle.path_standings.specs.Numbers.{spares, tallies}
use Rattle.path_standings.specs.Written.{WritesFrom, WritesPath}
use Rattle.path_standings.proofs.Fits.{true_false, spares_long, tallies_long}
use Rattle.path_standings.proofs.Ranks.{bound_of, row_value, tally_value, spare_value}

module _ (x : Sited) (progress : OpId → ℕ) (row : List ℕ) (can : CanStand x.tree progress row) (old one two : List ℕ)
    (first : WritesFrom old one (x.own + 1) row) (second : WritesFrom one two (x.own + 1 + length row) (spares x.tree 0 progress row)) where
  left_long : length (spares x.tree 0 progress row) ≡ counted_braces x.tree
  left_long = spares_long progress row x.tree 0

  two_long : length two ≡ length old
  two_long = second.long ∙ first.long

  -- the semaphores of `;`, and those of bounds
  inner_shown : (w : Values) → ValuesStand x.tree progress row w → (k : ℕ) → k < semicolons x.tree → x.own + 1 + k < length two → get_or two (x.own + 1 + k) 0 ≡ w.semaphore (k + 1)
  inner_shown w v k l in_table =
      second.others (x.own + 1 + k) (inl (let p = can.places in omega (arith, l, p)))
      ∙ first.written k (let p = can.places in omega (arith, l, p)) (omega (arith, in_table, two_long))
      ∙ sym (row_value progress row w x.tree 0 0 v.parts k (omega arith) (omega (arith, l)))

  bound_shown : (w : Values) → ValuesStand x.tree progress row w → (c : ℕ) → HasBound x.tree 0 c → bound_number x c < length two → get_or two (bound_number x c) 0 ≡ w.bound c
  bound_shown w v c h in_table =
      let p = can.places in
      let low = rank_low x.tree 0 c h in
      let same : bound_number x c ≡ x.own + 1 + length row + rank x.tree 0 c = omega (arith, p) in
      ap (λ i. get_or two i 0) same ∙ second.written (rank x.tree 0 c) (omega (arith, low, left_long)) (let f = first.long in omega (arith, in_table, same, two_long, f))
      ∙ sym (spare_value progress row w x.tree 0 0 v.parts c h)

  -- what the path doesn't keep is as it was
  others_left : (i : ℕ) → LeavesSemaphore i x → get_or two i 0 ≡ get_or old i 0
  others_left i leaves = second.others i (beyond (cases_lt i (x.own + 1 + length row)) (cases_lt i (x.own + 1 + length row + length (spares x.tree 0 progress row)))) ∙ first.others i (apart (cases_lt i (x.own + 1)) (cases_lt i (x.own + 1 + length row)))
    where
      apart : (i < x.own + 1) ⊎ (x.own + 1 ≤ i) → (i < x.own + 1 + length row) ⊎ (x.own + 1 + length row ≤ i) → (i < x.own + 1) ⊎ (x.own + 1 + length row ≤ i)
      apart (inl low) b = inl low
      apart (inr high) (inr past) = inr past
      apart (inr high) (inl within) =
          absurd (leaves.own (i - x.own) (let p = can.places in omega (arith, within, high, p)) (λ _. omega (arith, high)) (omega (arith, high)))

      beyond : (i < x.own + 1 + length row) ⊎ (x.own + 1 + length row ≤ i) → (i < x.own + 1 + length row + length (spares x.tree 0 progress row)) ⊎ (x.own + 1 + length row + length (spares x.tree 0 progress row) ≤ i)
          → (i < x.own + 1 + length row) ⊎ (x.own + 1 + length row + length (spares x.tree 0 progress row) ≤ i)
      beyond (inl low) b = inl low
      beyond (inr high) (inr past) = inr past
      beyond (inr high) (inl within) =
          let b = bound_of x.tree 0 (i - (x.own + 1 + length row)) (omega (arith, within, high, left_long)) in
          absurd (leaves.limits b.0 b.1.0 (let p = can.places in let r = b.1.1 in omega (arith, high, p, r)))

  -- one pair of braces: its counter and the path's own semaphore are gone
  pub whole_written : (cs : List ℕ) → is_burst x.tree ≡ true → WritesPath (levels old cs) (levels two cs) progress row x
  whole_written cs whole = record {
    semaphores = two_long;
    counters = refl;
    shows = λ w v places. record {
      semaphores = λ q l keeps. at w v places q l keeps;
      counters = λ c l keeps. absurd (true_false (sym whole ∙ keeps));
      limits = λ c h. bound_shown w v c h (places.limits c h);
    };
    other_semaphores = others_left;
    other_counters = λ i leaves. refl;
  }
    where
      at : (w : Values) → ValuesStand x.tree progress row w → HasPlaces (length two) (length cs) x → (q : ℕ) → q ≤ semicolons x.tree → KeepsSemaphore x.tree q → get_or two (x.own + q) 0 ≡ w.semaphore q
      at w v places zero l keeps = absurd (let k = keeps whole in omega (arith, k))
      at w v places (suc k) l keeps =
          let here = places.semaphores (suc k) l keeps in
          ap (λ i. get_or two i 0) (omega arith) ∙ inner_shown w v k (omega (arith, l)) (omega (arith, here)) ∙ ap w.semaphore (omega arith)

  -- and all other paths keep both
  module _ (three cs counters : List ℕ) (third : WritesFrom two three x.own ((1 - underway x.tree 0 progress row) ∷ [])) (fourth : WritesFrom cs counters x.first (tallies x.tree 0 progress row)) (other : is_burst x.tree ≡ false) where
    three_long : length three ≡ length two
    three_long = third.long

    behind_own : (i : ℕ) → x.own < i → get_or three i 0 ≡ get_or two i 0
    behind_own i l = third.others i (inr (omega (arith, l)))

    own_left : (i : ℕ) → LeavesSemaphore i x → (i < x.own) ⊎ (x.own + 1 ≤ i)
    own_left i leaves = elim (cases_eq i x.own) [
      | inl same ↦ absurd (leaves.own 0 (omega arith) (λ whole. absurd (true_false (sym whole ∙ other))) (omega (arith, same)))
      | inr apart ↦ elim (cases_lt i x.own) [ inl low ↦ inl low | inr high ↦ inr (omega (arith, high, apart)) ]
    ]

    tally_left : (i : ℕ) → LeavesCounter i x → (i < x.first) ⊎ (x.first + length (tallies x.tree 0 progress row) ≤ i)
    tally_left i leaves = elim (cases_lt i x.first) [
      | inl low ↦ inl low
      | inr high ↦ elim (cases_lt i (x.first + length (tallies x.tree 0 progress row))) [
        | inl within ↦ absurd (leaves.own (i - x.first) (omega (arith, high, within, tallies_long progress row x.tree 0)) other (omega (arith, high)))
        | inr past ↦ inr past
      ]
    ]

    at_all : (w : Values) → ValuesStand x.tree progress row w → HasPlaces (length three) (length counters) x → (q : ℕ) → q ≤ semicolons x.tree → KeepsSemaphore x.tree q → get_or three (x.own + q) 0 ≡ w.semaphore q
    at_all w v places zero l keeps =
        let here = places.semaphores zero l keeps in
        third.written 0 (omega arith) (omega (arith, here, three_long)) ∙ (let own = v.own in omega (arith, own))
    at_all w v places (suc k) l keeps =
        let here = places.semaphores (suc k) l keeps in
        behind_own (x.own + suc k) (omega arith) ∙ ap (λ i. get_or two i 0) (omega arith) ∙ inner_shown w v k (omega (arith, l)) (omega (arith, here, three_long)) ∙ ap w.semaphore (omega arith)

    counter_at : (w : Values) → ValuesStand x.tree progress row w → HasPlaces (length three) (length counters) x → (c : ℕ) → c < braces x.tree → KeepsCounter x.tree c → get_or counters (x.first + c) 0 ≡ w.counter c
    counter_at w v places c l keeps =
        let here = places.counters c l keeps in
        fourth.written c (omega (arith, l, tallies_long progress row x.tree 0)) (let f = fourth.long in omega (arith, here, f))
        ∙ sym (tally_value progress row w x.tree 0 0 v.parts c l) ∙ ap w.counter (omega arith)

    pub other_written : WritesPath (levels old cs) (levels three counters) progress row x
    other_written = record {
      semaphores = three_long ∙ two_long;
      counters = fourth.long;
      shows = λ w v places. record {
        semaphores = at_all w v places;
        counters = counter_at w v places;
        limits = λ c h. behind_own (bound_number x c) (omega arith) ∙ bound_shown w v c h (let p = places.limits c h in omega (arith, p, three_long));
      };
      other_semaphores = λ i leaves. third.others i (own_left i leaves) ∙ others_left i leaves;
      other_counters = λ i leaves. fourth.others i (tally_left i leaves);
    }
