-- What an event within a tree does to the values, be it a start or a finish, and that the trees beside it hold what they held.
use Rattle.std.proofs.Common.{◌≡◌, ◌⊎◌, ◌<◌, ◌≤◌, ◌+◌, ℕ, List, [], ◌∷◌, ◌++◌, refl, sym, ◌∙◌, inl, inr, arith}
use Rattle.std.proofs.lemmas.Bool.{eq-eqb, ne_eqb, cond-true, cond-false}
use Rattle.path_model.specs.declared.history.Event.{Event}
use Rattle.path_model.specs.Trees.{Bound, any, most, Tree, op, seq, alt, burst, NoBraces}
use Rattle.path_model.specs.BurstCounts.{Spare}
use Rattle.path_model.specs.Machine.{semicolons, braces, Values, put}
use Rattle.path_model.proofs.Counts.{count, count-append, Foreign, foreign_count}
use Rattle.path_model.proofs.Same.{foreign_left, inn_before, out_before}
use Rattle.path_model.proofs.Upward.{Holds}

abbrev pub Out : ℕ → ℕ → ℕ → Type 0
Out n k q = (q < n) ⊎ (n + k ≤ q)

abbrev pub In : ℕ → ℕ → ℕ → Type 0
In n k q = (n ≤ q) × (q < n + k)

-- equal but at the semaphores n to n + k and the counters m to m + j
pub record Agree (n k m j : ℕ) (v w : Values) : Type 0 where
  pub semaphores : (q : ℕ) → Out n k q → v.semaphore q ≡ w.semaphore q
  pub counters : (c : ℕ) → Out m j c → v.counter c ≡ w.counter c
  pub limits : (c : ℕ) → Out m j c → v.bound c ≡ w.bound c

pub Agree_refl : (n k m j : ℕ) (v : Values) → Agree n k m j v v
Agree_refl n k m j v = record { semaphores = λ q o. refl; counters = λ c o. refl; limits = λ c o. refl }

pub Agree_wider : {n k m j n' k' m' j' : ℕ} {v w : Values} → ((q : ℕ) → Out n' k' q → Out n k q) → ((c : ℕ) → Out m' j' c → Out m j c) → Agree n k m j v w → Agree n' k' m' j' v w
Agree_wider f g a = record { semaphores = λ q o. a.semaphores q (f q o); counters = λ c o. a.counters c (g c o); limits = λ c o. a.limits c (g c o) }

pub flat_braces : (s : Tree) → NoBraces s → braces s ≡ 0
flat_braces (op b) f = refl
flat_braces (seq s t) f = omega (arith, flat_braces s f.0, flat_braces t f.1)
flat_braces (alt s t) f = omega (arith, flat_braces s f.0, flat_braces t f.1)
flat_braces (burst bd s) f = absurd f

pub spare_same : (b : Bound) (x y c d : ℕ) → x ≡ y → c ≡ d → Spare b x c → Spare b y d
spare_same any x y c d p q h = tt
spare_same (most n) x y c d p q h = omega (arith, p, q, h)

pub put_same : (f : ℕ → ℕ) (k x : ℕ) → put f k x k ≡ x
put_same f k x = cond-true _ _ _ (eq-eqb k k refl)

pub put_other : (f : ℕ → ℕ) (k x i : ℕ) → (i ≡ k → ⊥) → put f k x i ≡ f i
put_other f k x i n = cond-false _ _ _ (ne_eqb i k n)

-- events and values that don't touch a tree
pub holds_frame : (s : Tree) (n m : ℕ) (h u : List Event) (v w : Values) → Foreign s u → ((q : ℕ) → In n (semicolons s) q → w.semaphore q ≡ v.semaphore q) → ((c : ℕ) → In m (braces s) c → w.counter c ≡ v.counter c) → ((c : ℕ) → In m (braces s) c → w.bound c ≡ v.bound c) → Holds s n m h v → Holds s n m (h ++ u) w
holds_frame (op b) n m h u v w f g k l H = tt
holds_frame (seq s t) n m h u v w f g k l H =
    let fs = foreign_left s (seq s t) u (λ a. inl) f in
    let ft = foreign_left t (seq s t) u (λ a. inr) f in (
      holds_frame s n m h u v w fs (λ q i. g q (omega (arith, i), omega (arith, i))) (λ c i. k c (omega (arith, i), omega (arith, i))) (λ c i. l c (omega (arith, i), omega (arith, i))) H.0,
      holds_frame t (n + semicolons s + 1) (m + braces s) h u v w ft (λ q i. g q (omega (arith, i), omega (arith, i))) (λ c i. k c (omega (arith, i), omega (arith, i))) (λ c i. l c (omega (arith, i), omega (arith, i))) H.1,
      omega (arith, H.2, g (n + semicolons s) (omega arith, omega arith), inn_before t h u ft, out_before s h u fs),
    )
holds_frame (alt s t) n m h u v w f g k l H =
    let fs = foreign_left s (alt s t) u (λ a. inl) f in
    let ft = foreign_left t (alt s t) u (λ a. inr) f in (
      holds_frame s n m h u v w fs (λ q i. g q (omega (arith, i), omega (arith, i))) (λ c i. k c (omega (arith, i), omega (arith, i))) (λ c i. l c (omega (arith, i), omega (arith, i))) H.0,
      holds_frame t (n + semicolons s) (m + braces s) h u v w ft (λ q i. g q (omega (arith, i), omega (arith, i))) (λ c i. k c (omega (arith, i), omega (arith, i))) (λ c i. l c (omega (arith, i), omega (arith, i))) H.1,
    )
holds_frame (burst bd s) n m h u v w f g k l H =
    let fs = foreign_left s (burst bd s) u (λ a x. x) f in (
      holds_frame s n (m + 1) h u v w fs g (λ c i. k c (omega (arith, i), omega (arith, i))) (λ c i. l c (omega (arith, i), omega (arith, i))) H.0,
      omega (arith, H.1, k m (omega arith, omega arith), count-append s 0 h u, foreign_count s (count s 0 h) u fs),
      spare_same bd (v.bound m) (w.bound m) (count s 0 h) (count s 0 (h ++ u)) (sym (l m (omega arith, omega arith))) (sym (count-append s 0 h u ∙ foreign_count s (count s 0 h) u fs)) H.2,
    )

-- the numbers i to i + k have none of n to n + l, and are all among them
abbrev pub Apart : ℕ → ℕ → ℕ → ℕ → Type 0
Apart i k n l = (i + k ≤ n) ⊎ (n + l ≤ i)

abbrev pub Among : ℕ → ℕ → ℕ → ℕ → Type 0
Among i k n l = (n ≤ i) × (i + k ≤ n + l)

out_apart : {i n : ℕ} (k l : ℕ) → Apart i k n l → (q : ℕ) → In i k q → Out n l q
out_apart k l (inl a) q w = inl (omega (arith, a, w))
out_apart k l (inr a) q w = inr (omega (arith, a, w))

pub out_among : {i n : ℕ} (k l : ℕ) → Among i k n l → (q : ℕ) → Out n l q → Out i k q
out_among k l a q (inl w) = inl (omega (arith, a, w))
out_among k l a q (inr w) = inr (omega (arith, a, w))

pub out_unlike : {n q : ℕ} (k : ℕ) → Out n k q → (p : ℕ) → In n k p → p ≡ q → ⊥
out_unlike k (inl o) p w z = omega (arith, o, w, z)
out_unlike k (inr o) p w z = omega (arith, o, w, z)

pub in_unlike : {n q : ℕ} (k : ℕ) → In n k q → (p : ℕ) → Out n k p → p ≡ q → ⊥
in_unlike k w p (inl o) z = omega (arith, o, w, z)
in_unlike k w p (inr o) z = omega (arith, o, w, z)

-- all semaphores but q are equal, and all counters and bounds
abbrev pub OneSemaphore : ℕ → Values → Values → Type 0
OneSemaphore q v x = (p : ℕ) → (p ≡ q → ⊥) → x.semaphore p ≡ v.semaphore p

abbrev pub SameBraces : Values → Values → Type 0
SameBraces v x = (d : ℕ) → (x.counter d ≡ v.counter d) × (x.bound d ≡ v.bound d)

-- What the event e does within a tree: either it isn't counted, and outside the tree's own numbers the values v stay; or it is, and
-- they become x, which is what the term above the tree makes of v.
abbrev pub Effect : (Tree → List Event → ℕ) → Tree → ℕ → ℕ → List Event → Event → Values → Values → Values → Type 0
Effect counted s n m h e v x w =
    ((counted s (h ++ e ∷ []) ≡ counted s h) × Agree n (semicolons s) m (braces s) w v)
    ⊎ ((counted s (h ++ e ∷ []) ≡ counted s h + 1) × Agree n (semicolons s) m (braces s) w x)

pub record Moved (counted : Tree → List Event → ℕ) (s : Tree) (n m : ℕ) (h : List Event) (e : Event) (v x w : Values) : Type 0 where
  pub holds : Holds s n m (h ++ e ∷ []) w
  pub effect : Effect counted s n m h e v x w

module _ (counted : Tree → List Event → ℕ) (s : Tree) (n m : ℕ) (h : List Event) (e : Event) (v x w : Values) (k : Effect counted s n m h e v x w) where
  -- a tree around it, which is counted as often more, has the same effect
  pub around : (b : Tree) (i j : ℕ) → Among n (semicolons s) i (semicolons b) → Among m (braces s) j (braces b) → counted b (h ++ e ∷ []) + counted s h ≡ counted s (h ++ e ∷ []) + counted b h → Effect counted b i j h e v x w
  around b i j sems pairs c = elim k [
    | inl y ↦ inl (omega (arith, c, y.0), Agree_wider (out_among _ _ sems) (out_among _ _ pairs) y.1)
    | inr y ↦ inr (omega (arith, c, y.0), Agree_wider (out_among _ _ sems) (out_among _ _ pairs) y.1)
  ]

  module _ (q : ℕ) (one : OneSemaphore q v x) where
    pub semaphore_kept : (p : ℕ) → Out n (semicolons s) p → (p ≡ q → ⊥) → w.semaphore p ≡ v.semaphore p
    semaphore_kept p o z = elim k [ inl y ↦ y.1.semaphores p o | inr y ↦ y.1.semaphores p o ∙ one p z ]

    counter_kept : SameBraces v x → (d : ℕ) → Out m (braces s) d → w.counter d ≡ v.counter d
    counter_kept f d o = elim k [ inl y ↦ y.1.counters d o | inr y ↦ y.1.counters d o ∙ (f d).0 ]

    bound_kept : SameBraces v x → (d : ℕ) → Out m (braces s) d → w.bound d ≡ v.bound d
    bound_kept f d o = elim k [ inl y ↦ y.1.limits d o | inr y ↦ y.1.limits d o ∙ (f d).1 ]

    -- a tree beside it that hasn't the semaphore q holds what it held
    pub beside : (t : Tree) (i j : ℕ) → Apart i (semicolons t) n (semicolons s) → Apart j (braces t) m (braces s) → Out i (semicolons t) q → NoBraces t ⊎ SameBraces v x → Foreign t (e ∷ []) → Holds t i j h v → Holds t i j (h ++ e ∷ []) w
    beside t i j sems pairs o c f H = holds_frame t i j h (e ∷ []) v w f (λ p y. semaphore_kept p (out_apart _ _ sems p y) (out_unlike _ o p y)) counters limits H
      where
        counters : (d : ℕ) → In j (braces t) d → w.counter d ≡ v.counter d
        counters d y = elim c [ inl g ↦ absurd (omega (arith, y, flat_braces t g)) | inr g ↦ counter_kept g d (out_apart _ _ pairs d y) ]

        limits : (d : ℕ) → In j (braces t) d → w.bound d ≡ v.bound d
        limits d y = elim c [ inl g ↦ absurd (omega (arith, y, flat_braces t g)) | inr g ↦ bound_kept g d (out_apart _ _ pairs d y) ]

    -- outside a tree around it that has the semaphore q, nothing changes
    pub inside : (b : Tree) (i j : ℕ) → Among n (semicolons s) i (semicolons b) → Among m (braces s) j (braces b) → In i (semicolons b) q → SameBraces v x → Agree i (semicolons b) j (braces b) w v
    inside b i j sems pairs y f = record {
      semaphores = λ p o. semaphore_kept p (out_among _ _ sems p o) (in_unlike _ y p o);
      counters = λ d o. counter_kept f d (out_among _ _ pairs d o);
      limits = λ d o. bound_kept f d (out_among _ _ pairs d o);
    }

-- an event in one operand of a comma
module _ (counted : Tree → List Event → ℕ) (s t : Tree) (n m : ℕ) (h : List Event) (e : Event) (v x w : Values) (q : ℕ) (one : OneSemaphore q v x) where
  pub alt_left : counted (alt s t) (h ++ e ∷ []) + counted s h ≡ counted s (h ++ e ∷ []) + counted (alt s t) h → NoBraces (alt s t) ⊎ SameBraces v x → Out n (semicolons (alt s t)) q → Holds (alt s t) n m h v → Foreign t (e ∷ []) → Moved counted s n m h e v x w → Moved counted (alt s t) n m h e v x w
  alt_left more c o H none r = record {
    holds = (r.holds, beside counted s n m h e v x w r.effect q one t (n + semicolons s) (m + braces s) (inr (omega arith)) (inr (omega arith)) o' c' none H.1);
    effect = around counted s n m h e v x w r.effect (alt s t) n m (omega arith, omega arith) (omega arith, omega arith) more;
  }
    where
      o' : Out (n + semicolons s) (semicolons t) q
      o' = elim o [ inl y ↦ inl (omega (arith, y)) | inr y ↦ inr (omega (arith, y)) ]

      c' : NoBraces t ⊎ SameBraces v x
      c' = elim c [ inl f ↦ inl f.1 | inr g ↦ inr g ]

  pub alt_right : counted (alt s t) (h ++ e ∷ []) + counted t h ≡ counted t (h ++ e ∷ []) + counted (alt s t) h → NoBraces (alt s t) ⊎ SameBraces v x → Out n (semicolons (alt s t)) q → Holds (alt s t) n m h v → Foreign s (e ∷ []) → Moved counted t (n + semicolons s) (m + braces s) h e v x w → Moved counted (alt s t) n m h e v x w
  alt_right more c o H none r = record {
    holds = (beside counted t (n + semicolons s) (m + braces s) h e v x w r.effect q one s n m (inl (omega arith)) (inl (omega arith)) o' c' none H.0, r.holds);
    effect = around counted t (n + semicolons s) (m + braces s) h e v x w r.effect (alt s t) n m (omega arith, omega arith) (omega arith, omega arith) more;
  }
    where
      o' : Out n (semicolons s) q
      o' = elim o [ inl y ↦ inl y | inr y ↦ inr (omega (arith, y)) ]

      c' : NoBraces s ⊎ SameBraces v x
      c' = elim c [ inl f ↦ inl f.0 | inr g ↦ inr g ]
