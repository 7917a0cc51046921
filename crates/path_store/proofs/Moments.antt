-- How a run of calls of a device goes on.
use Rattle.std.proofs.Common.{inl, inr, ⊎_elim, ℕ, List, arith}
use Rattle.path_store.specs.Devices.{Elapses, IsUntouched, LeavesOnly}

module _ {D : Type 0} (moment : D → ℕ) (left_since : D → ℕ → List ℕ → Type 0) where
  -- before the first call
  pub started : (old : D) (P : List ℕ → Type 0) → ((c : List ℕ) → left_since old (moment old) c → P c) → LeavesOnly moment left_since old old P
  started old P here = record { later = omega arith; each = here; before = λ t c le left. inl left }

  -- one call more, after which a crash leaves what has P
  pub goes_on : (old mid new : D) (P may_leave : List ℕ → Type 0) → LeavesOnly moment left_since old mid P → Elapses (moment mid) (moment new) (left_since mid) (left_since new) may_leave
      → ((c : List ℕ) → may_leave c → P c) → LeavesOnly moment left_since old new P
  goes_on old mid new P may_leave so_far time here = record {
    later = omega (arith, so_far.later, time.later);
    each = λ c left. ⊎_elim (so_far.each c) (here c) (time.nothing_else (moment old) c so_far.later left);
    before = λ t c le left. ⊎_elim (so_far.before t c le) (λ now. inr (here c now)) (time.nothing_else t c (omega (arith, le, so_far.later)) left);
  }

  -- one run behind another
  pub joined : (old mid new : D) (P : List ℕ → Type 0) → LeavesOnly moment left_since old mid P → LeavesOnly moment left_since mid new P → LeavesOnly moment left_since old new P
  joined old mid new P first second = record {
    later = omega (arith, first.later, second.later);
    each = λ c left. ⊎_elim (first.each c) (λ p. p) (second.before (moment old) c first.later left);
    before = λ t c le left. ⊎_elim (first.before t c le) (λ p. inr p) (second.before t c (omega (arith, le, first.later)) left);
  }

  -- what has P has Q
  pub weaker : (old new : D) (P Q : List ℕ → Type 0) → ((c : List ℕ) → P c → Q c) → LeavesOnly moment left_since old new P → LeavesOnly moment left_since old new Q
  weaker old new P Q to run = record {
    later = run.later;
    each = λ c left. to c (run.each c left);
    before = λ t c le left. ⊎_elim (λ past. inl past) (λ p. inr (to c p)) (run.before t c le left);
  }

-- a read changes nothing, whatever the file is
module _ {D : Type 0} (holds may_leave : D → List ℕ → Type 0) (moment : D → ℕ) (left_since : D → ℕ → List ℕ → Type 0)
    (only_now : (file : D) (c : List ℕ) → left_since file (moment file) c → may_leave file c) where
  pub untouched_same : (file : D) → IsUntouched holds may_leave moment left_since file file
  untouched_same file = record { read = λ b held. held; left = λ c left. left; any_moment = started moment left_since file (may_leave file) (only_now file) }

  pub read_untouched : (old mid : D) → ((b : List ℕ) → holds old b → holds mid b) → ((c : List ℕ) → may_leave mid c → may_leave old c)
      → Elapses (moment old) (moment mid) (left_since old) (left_since mid) (may_leave mid) → IsUntouched holds may_leave moment left_since old mid
  read_untouched old mid read crash time = record {
    read = read;
    left = crash;
    any_moment = goes_on moment left_since old old mid (may_leave old) (may_leave mid) (started moment left_since old (may_leave old) (only_now old)) time crash;
  }
