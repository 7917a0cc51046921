-- A start keeps each value equal to its difference of counts.
use Rattle.std.proofs.Common.{◌≡◌, ◌⊎◌, ◌==◌, if◌then◌else◌, ◌<◌, ◌+◌, ◌-◌, ℕ, List, [], ◌∷◌, ◌++◌, refl, sym, ap, ◌∙◌, subst, inl, inr, arith}
use Rattle.std.proofs.lemmas.Bool.{eq-eqb, ne_eqb, cond-true, cond-false, cond_both}
use Rattle.path_model.specs.declared.ids.OpId.{OpId}
use Rattle.path_model.specs.declared.history.Event.{Event}
use Rattle.path_model.specs.declared.history.Event.TheVariants.{Began}
use Rattle.path_model.specs.Trees.{Bound, any, most, BoundAdmits, Tree, op, seq, alt, burst, Names, NoRepeats, NoBraces, NoNesting}
use Rattle.path_model.proofs.Counts.{entry, exit, count, opens, inn, out, May, ins-append, count-append, opens-append, May-names, Foreign}
use Rattle.path_model.proofs.Same.{inn_before, out_before}
use Rattle.std.proofs.lemmas.Bool.{cases_lt}
use Rattle.path_model.specs.BurstCounts.{Spare}
use Rattle.path_model.specs.Machine.{Plain, through, add_one, take_one, semicolons, braces, Above, LeftOf, RightOf, Within, above, waits_on, prologue_below, Values, started}
use Rattle.path_model.proofs.Crowd.{inn_more, began_exit}
use Rattle.path_model.proofs.Path.{flat_fits}
use Rattle.path_model.proofs.Steady.{out_began, inn_step}
use Rattle.path_model.proofs.Upward.{path_left, path_right, path_one, path_other, path_in, Holds, Clear}
use Rattle.path_model.proofs.Moves.{Out, Agree, Agree_refl, Agree_wider, spare_same, put_same, put_other, out_among, out_unlike, in_unlike, OneSemaphore, SameBraces, Effect, Moved, around, semaphore_kept, beside, inside, alt_left, alt_right}

started_one : (up : List Above) (v : Values) → OneSemaphore (waits_on up) v (started (prologue_below up) v)
started_one [] v q n = cond-false _ _ _ (ne_eqb q 0 n)
started_one (RightOf x ∷ up) v q n = cond-false _ _ _ (ne_eqb q x n)
started_one (LeftOf x ∷ up) v q n = started_one up v q n
started_one (Within any c ∷ up) v q n =
    cond_both (v.counter c == 0) (take_one v.semaphore (waits_on up)) v.semaphore (λ f. f q ≡ v.semaphore q) (λ _. cond-false _ _ _ (ne_eqb q (waits_on up) n)) (λ _. refl)
started_one (Within (most k) c ∷ up) v q n =
    cond_both (v.counter c == 0) (take_one v.semaphore (waits_on up)) v.semaphore (λ f. f q ≡ v.semaphore q) (λ _. cond-false _ _ _ (ne_eqb q (waits_on up) n)) (λ _. refl)

-- through braces, whatever their bound
pub through_semaphore : (b : Bound) (m q : ℕ) (v : Values) → (started (through b m q) v).semaphore ≡ (if v.counter m == 0 then take_one v.semaphore q else v.semaphore)
through_semaphore any m q v = refl
through_semaphore (most n) m q v = refl

pub through_counter : (b : Bound) (m q : ℕ) (v : Values) → (started (through b m q) v).counter ≡ add_one v.counter m
through_counter any m q v = refl
through_counter (most n) m q v = refl

pub through_bound : (b : Bound) (m q : ℕ) (v : Values) (d : ℕ) → (d ≡ m → ⊥) → (started (through b m q) v).bound d ≡ v.bound d
through_bound any m q v d n = refl
through_bound (most k) m q v d n = put_other v.bound m _ d n

pub through_spare : (b : Bound) (m q : ℕ) (v : Values) (c : ℕ) → Spare b (v.bound m) c → BoundAdmits b c → Spare b ((started (through b m q) v).bound m) (c + 1)
through_spare any m q v c h r = tt
through_spare (most n) m q v c h r = let z = put_same v.bound m (v.bound m - 1) in omega (arith, z, h, r)

started_braces : (up : List Above) (v : Values) → Clear up → SameBraces v (started (prologue_below up) v)
started_braces up v e d = subst (λ x. ((started x v).counter d ≡ v.counter d) × ((started x v).bound d ≡ v.bound d)) (sym e) (refl, refl)

-- what a start within the tree does to the values
abbrev pub StartOk : Tree → ℕ → ℕ → List Above → List Event → OpId → Values → Values → Type 0
StartOk s n m up h a v w = Moved inn s n m h (Began a) v (started (prologue_below up) v) w

module _ (s t : Tree) (n m : ℕ) (up : List Above) (h : List Event) (a : OpId) (v w : Values) where
  seq_left : NoBraces (seq s t) ⊎ Clear up → Out n (semicolons (seq s t)) (waits_on up) → Holds (seq s t) n m h v → (Names t a → ⊥) → StartOk s n m (LeftOf (n + semicolons s) ∷ up) h a v w → StartOk (seq s t) n m up h a v w
  seq_left c o H away r = record { holds = (r.holds, there, here); effect = around inn s n m h (Began a) v x w r.effect (seq s t) n m (omega arith, omega arith) (omega arith, omega arith) refl }
    where
      x : Values
      x = started (prologue_below up) v

      none : Foreign t (Began a ∷ [])
      none = (away, tt)

      c' : NoBraces t ⊎ SameBraces v x
      c' = elim c [ inl f ↦ inl f.1 | inr g ↦ inr (started_braces up v g) ]

      o' : Out (n + semicolons s + 1) (semicolons t) (waits_on up)
      o' = elim o [ inl l ↦ inl (omega (arith, l)) | inr l ↦ inr (omega (arith, l)) ]

      there : Holds t (n + semicolons s + 1) (m + braces s) (h ++ Began a ∷ []) w
      there = beside inn s n m h (Began a) v x w r.effect (waits_on up) (started_one up v) t (n + semicolons s + 1) (m + braces s) (inr (omega arith)) (inr (omega arith)) o' c' none H.1

      same : w.semaphore (n + semicolons s) ≡ v.semaphore (n + semicolons s)
      same = semaphore_kept inn s n m h (Began a) v x w r.effect (waits_on up) (started_one up v) (n + semicolons s) (inr (omega arith)) (out_unlike _ o (n + semicolons s) (omega arith, omega arith))

      here : w.semaphore (n + semicolons s) + inn t (h ++ Began a ∷ []) ≡ out s (h ++ Began a ∷ [])
      here = omega (arith, same, H.2, inn_before t h (Began a ∷ []) none, out_began s h a)

  seq_right : Holds (seq s t) n m h v → (Names s a → ⊥) → (inn t (h ++ Began a ∷ []) ≡ inn t h) ⊎ (inn t h < out s h) → StartOk t (n + semicolons s + 1) (m + braces s) (RightOf (n + semicolons s) ∷ up) h a v w → StartOk (seq s t) n m up h a v w
  seq_right H away may r = record { holds = (there, r.holds, here r.effect); effect = inl (inn_before s h (Began a ∷ []) none, apart) }
    where
      own : ℕ
      own = n + semicolons s

      x : Values
      x = started (Plain own) v

      none : Foreign s (Began a ∷ [])
      none = (away, tt)

      one : OneSemaphore own v x
      one = started_one (RightOf own ∷ up) v

      there : Holds s n m (h ++ Began a ∷ []) w
      there = beside inn t (own + 1) (m + braces s) h (Began a) v x w r.effect own one s n m (inl (omega arith)) (inl (omega arith)) (inr (omega arith)) (inr (λ d. (refl, refl))) none H.0

      here : Effect inn t (own + 1) (m + braces s) h (Began a) v x w → w.semaphore own + inn t (h ++ Began a ∷ []) ≡ out s (h ++ Began a ∷ [])
      here (inl e) = omega (arith, e.0, e.1.semaphores own (inl (omega arith)), H.2, out_before s h (Began a ∷ []) none)
      here (inr e) = elim may [
        | inl q ↦ absurd (omega (arith, q, e.0))
        | inr l ↦ omega (arith, e.0, l, e.1.semaphores own (inl (omega arith)), put_same v.semaphore own (v.semaphore own - 1), H.2, out_before s h (Began a ∷ []) none)
      ]

      apart : Agree n (semicolons (seq s t)) m (braces (seq s t)) w v
      apart = inside inn t (own + 1) (m + braces s) h (Began a) v x w r.effect own one (seq s t) n m (omega arith, omega arith) (omega arith, omega arith) (omega arith, omega arith) (λ d. (refl, refl))

module _ (bd : Bound) (s : Tree) (n m : ℕ) (up : List Above) (h : List Event) (a : OpId) (v w : Values) where
  in_braces : NoBraces s → Clear up → Holds (burst bd s) n m h v → (inn s (h ++ Began a ∷ []) ≡ inn s h) ⊎ BoundAdmits bd (count s 0 h) → StartOk s n (m + 1) (Within bd m ∷ up) h a v w → StartOk (burst bd s) n m up h a v w
  in_braces f c H may r = record { holds = (r.holds, here r.effect, spare r.effect); effect = eff r.effect }
    where
      e : Event
      e = Began a

      more : inn s (h ++ e ∷ []) ≡ inn s h + entry s e
      more = inn_more s f h e

      now : count s 0 (h ++ e ∷ []) ≡ count s 0 h + entry s e - exit s e
      now = count-append s 0 h (e ∷ [])

      out_zero : exit s e ≡ 0
      out_zero = began_exit s a

      here : Effect inn s n (m + 1) h e v (started (through bd m (waits_on up)) v) w → w.counter m ≡ count s 0 (h ++ e ∷ [])
      here (inl k) = omega (arith, k.0, more, now, out_zero, H.1, k.1.counters m (inl (omega arith)))
      here (inr k) = omega (arith, k.0, more, now, out_zero, H.1, k.1.counters m (inl (omega arith)), ap (λ g. g m) (through_counter bd m (waits_on up) v), put_same v.counter m (v.counter m + 1))

      spare : Effect inn s n (m + 1) h e v (started (through bd m (waits_on up)) v) w → Spare bd (w.bound m) (count s 0 (h ++ e ∷ []))
      spare (inl k) = spare_same bd (v.bound m) (w.bound m) (count s 0 h) (count s 0 (h ++ e ∷ [])) (sym (k.1.limits m (inl (omega arith)))) (omega (arith, k.0, more, now, out_zero)) H.2
      spare (inr k) = elim may [
        | inl x ↦ absurd (omega (arith, k.0, x))
        | inr x ↦ spare_same bd _ (w.bound m) (count s 0 h + 1) (count s 0 (h ++ e ∷ [])) (sym (k.1.limits m (inl (omega arith)))) (omega (arith, k.0, more, now, out_zero)) (through_spare bd m (waits_on up) v (count s 0 h) H.2 x)
      ]

      opened : (x : ℕ) → (if count s 0 h == 0 then entry s e else 0) ≡ x → opens s 0 (h ++ e ∷ []) ≡ opens s 0 h + x
      opened x z = omega (arith, opens-append s 0 h (e ∷ []), z)

      wide : (d : ℕ) → Out m (braces s + 1) d → Out (m + 1) (braces s) d
      wide = out_among _ _ (omega arith, omega arith)

      unlike : (d : ℕ) → Out m (braces s + 1) d → d ≡ m → ⊥
      unlike = in_unlike _ (omega arith, omega arith)

      eff : Effect inn s n (m + 1) h e v (started (through bd m (waits_on up)) v) w → Effect inn (burst bd s) n m h e v (started (prologue_below up) v) w
      eff (inl k) = inl (
        (let g = opened 0 (cond_both (count s 0 h == 0) _ _ (λ x. x ≡ 0) (λ _. omega (arith, k.0, more)) (λ _. refl)) in omega (arith, g)),
        Agree_wider (λ q o. o) wide k.1,
      )
      eff (inr k) = elim (cases_lt 0 (count s 0 h)) [
        | inl l ↦ inl (
          (let g = opened 0 (cond-false _ _ _ (ne_eqb (count s 0 h) 0 (λ z. omega (arith, l, z)))) in omega (arith, g)),
          record {
            semaphores = λ q o. k.1.semaphores q o ∙ ap (λ g. g q) (through_semaphore bd m (waits_on up) v) ∙ ap (λ g. g q) (cond-false (v.counter m == 0) (take_one v.semaphore (waits_on up)) v.semaphore (ne_eqb (v.counter m) 0 (λ z. omega (arith, l, z, H.1))));
            counters = λ d o. k.1.counters d (wide d o) ∙ ap (λ g. g d) (through_counter bd m (waits_on up) v) ∙ put_other v.counter m (v.counter m + 1) d (unlike d o);
            limits = λ d o. k.1.limits d (wide d o) ∙ through_bound bd m (waits_on up) v d (unlike d o);
          },
        )
        | inr l ↦ inr (
          opened 1 (cond-true (count s 0 h == 0) (entry s e) 0 (eq-eqb (count s 0 h) 0 (omega (arith, l))) ∙ omega (arith, k.0, more)),
          record {
            semaphores = λ q o. k.1.semaphores q o ∙ ap (λ g. g q) (through_semaphore bd m (waits_on up) v) ∙ ap (λ g. g q) (cond-true (v.counter m == 0) (take_one v.semaphore (waits_on up)) v.semaphore (eq-eqb (v.counter m) 0 (omega (arith, l, H.1)))) ∙ sym (ap (λ x. (started x v).semaphore q) c);
            counters = λ d o. k.1.counters d (wide d o) ∙ ap (λ g. g d) (through_counter bd m (waits_on up) v) ∙ put_other v.counter m (v.counter m + 1) d (unlike d o) ∙ sym (started_braces up v c d).0;
            limits = λ d o. k.1.limits d (wide d o) ∙ through_bound bd m (waits_on up) v d (unlike d o) ∙ sym (started_braces up v c d).1;
          },
        )
      ]

pub start_ok : (s : Tree) → NoRepeats s → NoNesting s → (n m : ℕ) (a : OpId) (up : List Above) → NoBraces s ⊎ Clear up → Out n (semicolons s) (waits_on up) → Names s a → (h : List Event) (v : Values) → Holds s n m h v → (p : Type 0) → May s h (Began a) p → StartOk s n m up h a v (started (prologue_below (above s n m a ++ up)) v)
start_ok (op b) nr nn n m a up c o k h v H p q = record {
  holds = tt;
  effect = inr ((let e : ◌≡◌ {A = ℕ} (entry (op b) (Began a)) 1 = cond-true _ _ _ (eq-eqb a.0 b.0 (ap (λ x. x.0) k)) in omega (arith, ins-append (op b) h (Began a ∷ []), e)), Agree_refl n 0 m 0 _);
}
start_ok (seq s t) nr nn n m a up c o (inl k) h v H p q =
    let away : Names t a → ⊥ = nr.2 a k in
    let c' : NoBraces s ⊎ Clear up = elim c [ inl f ↦ inl f.0 | inr g ↦ inr g ] in
    let o' : Out n (semicolons s) (waits_on up) = elim o [ inl l ↦ inl l | inr l ↦ inr (omega (arith, l)) ] in
    let q' : May s h (Began a) p = elim q [ inl x ↦ x | inr x ↦ absurd (away (May-names t h (Began a) _ x)) ] in
    let r = start_ok s nr.0 nn.0 n m a (LeftOf (n + semicolons s) ∷ up) c' o' k h v H.0 p q' in
    subst (λ l. StartOk (seq s t) n m up h a v (started (prologue_below l) v)) (sym (path_left s t n m a up k)) (seq_left s t n m up h a v _ c o H away r)
start_ok (seq s t) nr nn n m a up c o (inr k) h v H p q =
    let away : Names s a → ⊥ = λ x. nr.2 a x k in
    let q' : May t h (Began a) (inn t h < out s h) = elim q [ inl x ↦ absurd (away (May-names s h (Began a) _ x)) | inr x ↦ x ] in
    let r = start_ok t nr.1 nn.1 (n + semicolons s + 1) (m + braces s) a (RightOf (n + semicolons s) ∷ up) (inr refl) (inl (omega arith)) k h v H.1 (inn t h < out s h) q' in
    subst (λ l. StartOk (seq s t) n m up h a v (started (prologue_below l) v)) (sym (path_right s t n m a up away)) (seq_right s t n m up h a v _ H away (inn_step t nr.1 nn.1 h (Began a) q') r)
start_ok (alt s t) nr nn n m a up c o (inl k) h v H p q =
    let away : Names t a → ⊥ = nr.2 a k in
    let c' : NoBraces s ⊎ Clear up = elim c [ inl f ↦ inl f.0 | inr g ↦ inr g ] in
    let o' : Out n (semicolons s) (waits_on up) = elim o [ inl l ↦ inl l | inr l ↦ inr (omega (arith, l)) ] in
    let q' : May s h (Began a) p = elim q [ inl x ↦ x | inr x ↦ absurd (away (May-names t h (Began a) _ x)) ] in
    let r = start_ok s nr.0 nn.0 n m a up c' o' k h v H.0 p q' in
    let b : NoBraces (alt s t) ⊎ SameBraces v (started (prologue_below up) v) = elim c [ inl f ↦ inl f | inr g ↦ inr (started_braces up v g) ] in
    subst (λ l. StartOk (alt s t) n m up h a v (started (prologue_below l) v)) (sym (path_one s t n m a up k)) (alt_left inn s t n m h (Began a) v (started (prologue_below up) v) _ (waits_on up) (started_one up v) (omega (arith, inn_before t h (Began a ∷ []) (away, tt))) b o H (away, tt) r)
start_ok (alt s t) nr nn n m a up c o (inr k) h v H p q =
    let away : Names s a → ⊥ = λ x. nr.2 a x k in
    let c' : NoBraces t ⊎ Clear up = elim c [ inl f ↦ inl f.1 | inr g ↦ inr g ] in
    let o' : Out (n + semicolons s) (semicolons t) (waits_on up) = elim o [ inl l ↦ inl (omega (arith, l)) | inr l ↦ inr (omega (arith, l)) ] in
    let q' : May t h (Began a) p = elim q [ inl x ↦ absurd (away (May-names s h (Began a) _ x)) | inr x ↦ x ] in
    let r = start_ok t nr.1 nn.1 (n + semicolons s) (m + braces s) a up c' o' k h v H.1 p q' in
    let b : NoBraces (alt s t) ⊎ SameBraces v (started (prologue_below up) v) = elim c [ inl f ↦ inl f | inr g ↦ inr (started_braces up v g) ] in
    subst (λ l. StartOk (alt s t) n m up h a v (started (prologue_below l) v)) (sym (path_other s t n m a up away)) (alt_right inn s t n m h (Began a) v (started (prologue_below up) v) _ (waits_on up) (started_one up v) (omega (arith, inn_before s h (Began a ∷ []) (away, tt))) b o H (away, tt) r)
start_ok (burst bd s) nr nn n m a up (inl f) o k h v H p q = absurd f
start_ok (burst bd s) nr nn n m a up (inr c) o k h v H p q =
    let r = start_ok s nr (flat_fits s nn.0) n (m + 1) a (Within bd m ∷ up) (inl nn.0) o k h v H.0 _ q in
    subst (λ l. StartOk (burst bd s) n m up h a v (started (prologue_below l) v)) (sym (path_in bd s n m a up)) (in_braces bd s n m up h a v _ nn.0 c H (elim (inn_step s nr (flat_fits s nn.0) h (Began a) q) [ inl x ↦ inl x | inr x ↦ inr x.1 ]) r)
