-- A finish keeps each value equal to its difference of counts.
use Rattle.std.proofs.Common.{◌≡◌, ◌⊎◌, ◌==◌, if◌then◌else◌, ◌<◌, ◌≤◌, ◌+◌, ◌-◌, ℕ, List, [], ◌∷◌, ◌++◌, refl, sym, ap, ◌∙◌, subst, inl, inr, arith}
use Rattle.std.proofs.lemmas.Bool.{eq-eqb, ne_eqb, cond-true, cond-false, cond_both}
use Rattle.path_model.specs.declared.ids.OpId.{OpId}
use Rattle.path_model.specs.declared.history.Event.{Event}
use Rattle.path_model.specs.declared.history.Event.TheVariants.{Ended}
use Rattle.path_model.specs.Trees.{Bound, any, most, Tree, op, seq, alt, burst, Names, NoRepeats, NoBraces, NoNesting}
use Rattle.path_model.proofs.Counts.{entry, exit, count, closes, inn, out, outs-append, count-append, closes-append, Foreign}
use Rattle.path_model.proofs.Same.{inn_before, out_before}
use Rattle.std.proofs.lemmas.Bool.{cases_lt}
use Rattle.path_model.specs.BurstCounts.{Spare}
use Rattle.path_model.specs.Machine.{through, add_one, take_one, semicolons, braces, Above, LeftOf, RightOf, Within, above, Plain, signals, epilogue_below, Values, finished}
use Rattle.path_model.proofs.Crowd.{out_more, sane_out}
use Rattle.path_model.proofs.Path.{flat_fits}
use Rattle.path_model.proofs.Steady.{ended_entry, inn_ended, Steady}
use Rattle.path_model.proofs.Upward.{path_left, path_right, path_one, path_other, path_in, Holds}
use Rattle.path_model.proofs.Moves.{Out, Agree, Agree_refl, Agree_wider, spare_same, put_same, put_other, out_among, out_unlike, in_unlike, OneSemaphore, SameBraces, Effect, Moved, around, semaphore_kept, beside, inside, alt_left, alt_right}

abbrev pub ClearBack : List Above → Type 0
ClearBack up = epilogue_below up ≡ Plain (signals up)

finished_one : (up : List Above) (v : Values) → OneSemaphore (signals up) v (finished (epilogue_below up) v)
finished_one [] v q n = cond-false _ _ _ (ne_eqb q 0 n)
finished_one (LeftOf x ∷ up) v q n = cond-false _ _ _ (ne_eqb q x n)
finished_one (RightOf x ∷ up) v q n = finished_one up v q n
finished_one (Within any c ∷ up) v q n =
    cond_both (v.counter c == 1) (add_one v.semaphore (signals up)) v.semaphore (λ f. f q ≡ v.semaphore q) (λ _. cond-false _ _ _ (ne_eqb q (signals up) n)) (λ _. refl)
finished_one (Within (most k) c ∷ up) v q n =
    cond_both (v.counter c == 1) (add_one v.semaphore (signals up)) v.semaphore (λ f. f q ≡ v.semaphore q) (λ _. cond-false _ _ _ (ne_eqb q (signals up) n)) (λ _. refl)

-- through braces, whatever their bound
pub through_semaphore : (b : Bound) (m q : ℕ) (v : Values) → (finished (through b m q) v).semaphore ≡ (if v.counter m == 1 then add_one v.semaphore q else v.semaphore)
through_semaphore any m q v = refl
through_semaphore (most n) m q v = refl

pub through_counter : (b : Bound) (m q : ℕ) (v : Values) → (finished (through b m q) v).counter ≡ take_one v.counter m
through_counter any m q v = refl
through_counter (most n) m q v = refl

pub through_bound : (b : Bound) (m q : ℕ) (v : Values) (d : ℕ) → (d ≡ m → ⊥) → (finished (through b m q) v).bound d ≡ v.bound d
through_bound any m q v d n = refl
through_bound (most k) m q v d n = put_other v.bound m _ d n

pub through_spare : (b : Bound) (m q : ℕ) (v : Values) (c : ℕ) → Spare b (v.bound m) c → 0 < c → Spare b ((finished (through b m q) v).bound m) (c - 1)
through_spare any m q v c h r = tt
through_spare (most n) m q v c h r = let z = put_same v.bound m (v.bound m + 1) in omega (arith, z, h, r)

finished_braces : (up : List Above) (v : Values) → ClearBack up → SameBraces v (finished (epilogue_below up) v)
finished_braces up v e d = subst (λ x. ((finished x v).counter d ≡ v.counter d) × ((finished x v).bound d ≡ v.bound d)) (sym e) (refl, refl)

-- what a finish within the tree does to the values
abbrev pub FinishOk : Tree → ℕ → ℕ → List Above → List Event → OpId → Values → Values → Type 0
FinishOk s n m up h a v w = Moved out s n m h (Ended a) v (finished (epilogue_below up) v) w

module _ (s t : Tree) (n m : ℕ) (up : List Above) (h : List Event) (a : OpId) (v w : Values) where
  seq_right : NoBraces (seq s t) ⊎ ClearBack up → Out n (semicolons (seq s t)) (signals up) → Holds (seq s t) n m h v → (Names s a → ⊥) → FinishOk t (n + semicolons s + 1) (m + braces s) (RightOf (n + semicolons s) ∷ up) h a v w → FinishOk (seq s t) n m up h a v w
  seq_right c o H away r = record { holds = (there, r.holds, here); effect = around out t (n + semicolons s + 1) (m + braces s) h (Ended a) v x w r.effect (seq s t) n m (omega arith, omega arith) (omega arith, omega arith) refl }
    where
      x : Values
      x = finished (epilogue_below up) v

      none : Foreign s (Ended a ∷ [])
      none = (away, tt)

      c' : NoBraces s ⊎ SameBraces v x
      c' = elim c [ inl f ↦ inl f.0 | inr g ↦ inr (finished_braces up v g) ]

      o' : Out n (semicolons s) (signals up)
      o' = elim o [ inl l ↦ inl l | inr l ↦ inr (omega (arith, l)) ]

      there : Holds s n m (h ++ Ended a ∷ []) w
      there = beside out t (n + semicolons s + 1) (m + braces s) h (Ended a) v x w r.effect (signals up) (finished_one up v) s n m (inl (omega arith)) (inl (omega arith)) o' c' none H.0

      same : w.semaphore (n + semicolons s) ≡ v.semaphore (n + semicolons s)
      same = semaphore_kept out t (n + semicolons s + 1) (m + braces s) h (Ended a) v x w r.effect (signals up) (finished_one up v) (n + semicolons s) (inl (omega arith)) (out_unlike _ o (n + semicolons s) (omega arith, omega arith))

      here : w.semaphore (n + semicolons s) + inn t (h ++ Ended a ∷ []) ≡ out s (h ++ Ended a ∷ [])
      here = omega (arith, same, H.2, out_before s h (Ended a ∷ []) none, inn_ended t h a)

  seq_left : Holds (seq s t) n m h v → (Names t a → ⊥) → FinishOk s n m (LeftOf (n + semicolons s) ∷ up) h a v w → FinishOk (seq s t) n m up h a v w
  seq_left H away r = record { holds = (r.holds, there, here r.effect); effect = inl (out_before t h (Ended a ∷ []) none, apart) }
    where
      own : ℕ
      own = n + semicolons s

      x : Values
      x = finished (Plain own) v

      none : Foreign t (Ended a ∷ [])
      none = (away, tt)

      one : OneSemaphore own v x
      one = finished_one (LeftOf own ∷ up) v

      there : Holds t (own + 1) (m + braces s) (h ++ Ended a ∷ []) w
      there = beside out s n m h (Ended a) v x w r.effect own one t (own + 1) (m + braces s) (inr (omega arith)) (inr (omega arith)) (inl (omega arith)) (inr (λ d. (refl, refl))) none H.1

      here : Effect out s n m h (Ended a) v x w → w.semaphore own + inn t (h ++ Ended a ∷ []) ≡ out s (h ++ Ended a ∷ [])
      here (inl e) = omega (arith, e.0, e.1.semaphores own (inr (omega arith)), H.2, inn_before t h (Ended a ∷ []) none)
      here (inr e) = omega (arith, e.0, e.1.semaphores own (inr (omega arith)), put_same v.semaphore own (v.semaphore own + 1), H.2, inn_before t h (Ended a ∷ []) none)

      apart : Agree n (semicolons (seq s t)) m (braces (seq s t)) w v
      apart = inside out s n m h (Ended a) v x w r.effect own one (seq s t) n m (omega arith, omega arith) (omega arith, omega arith) (omega arith, omega arith) (λ d. (refl, refl))

module _ (bd : Bound) (s : Tree) (n m : ℕ) (up : List Above) (h : List Event) (a : OpId) (v w : Values) where
  in_braces : NoBraces s → ClearBack up → Holds (burst bd s) n m h v → Steady (burst bd s) h → Steady (burst bd s) (h ++ Ended a ∷ []) → FinishOk s n (m + 1) (Within bd m ∷ up) h a v w → FinishOk (burst bd s) n m up h a v w
  in_braces f c H before after r = record { holds = (r.holds, here r.effect, spare r.effect); effect = eff r.effect }
    where
      e : Event
      e = Ended a

      more : out s (h ++ e ∷ []) ≡ out s h + exit s e
      more = out_more s f h e

      now : count s 0 (h ++ e ∷ []) ≡ count s 0 h + entry s e - exit s e
      now = count-append s 0 h (e ∷ [])

      in_zero : entry s e ≡ 0
      in_zero = ended_entry s a

      enough : out s (h ++ e ∷ []) ≤ inn s (h ++ e ∷ [])
      enough = sane_out s f (h ++ e ∷ []) after.0

      some : exit s e ≡ 1 → 0 < count s 0 h
      some z = omega (arith, z, more, enough, before.1, inn_ended s h a)

      here : Effect out s n (m + 1) h e v (finished (through bd m (signals up)) v) w → w.counter m ≡ count s 0 (h ++ e ∷ [])
      here (inl k) = omega (arith, k.0, more, now, in_zero, H.1, k.1.counters m (inl (omega arith)))
      here (inr k) = omega (arith, k.0, more, now, in_zero, H.1, k.1.counters m (inl (omega arith)), ap (λ g. g m) (through_counter bd m (signals up) v), put_same v.counter m (v.counter m - 1))

      spare : Effect out s n (m + 1) h e v (finished (through bd m (signals up)) v) w → Spare bd (w.bound m) (count s 0 (h ++ e ∷ []))
      spare (inl k) = spare_same bd (v.bound m) (w.bound m) (count s 0 h) (count s 0 (h ++ e ∷ [])) (sym (k.1.limits m (inl (omega arith)))) (omega (arith, k.0, more, now, in_zero)) H.2
      spare (inr k) = spare_same bd _ (w.bound m) (count s 0 h - 1) (count s 0 (h ++ e ∷ [])) (sym (k.1.limits m (inl (omega arith)))) (omega (arith, k.0, more, now, in_zero)) (through_spare bd m (signals up) v (count s 0 h) H.2 (some (omega (arith, k.0, more))))

      closed : (x : ℕ) → (if count s 0 h + entry s e - exit s e == 0 then exit s e else 0) ≡ x → closes s 0 (h ++ e ∷ []) ≡ closes s 0 h + x
      closed x z = omega (arith, closes-append s 0 h (e ∷ []), z)

      wide : (d : ℕ) → Out m (braces s + 1) d → Out (m + 1) (braces s) d
      wide = out_among _ _ (omega arith, omega arith)

      unlike : (d : ℕ) → Out m (braces s + 1) d → d ≡ m → ⊥
      unlike = in_unlike _ (omega arith, omega arith)

      eff : Effect out s n (m + 1) h e v (finished (through bd m (signals up)) v) w → Effect out (burst bd s) n m h e v (finished (epilogue_below up) v) w
      eff (inl k) = inl (
        (let g = closed 0 (cond_both (count s 0 h + entry s e - exit s e == 0) _ _ (λ x. x ≡ 0) (λ _. omega (arith, k.0, more)) (λ _. refl)) in omega (arith, g)),
        Agree_wider (λ q o. o) wide k.1,
      )
      eff (inr k) = elim (cases_lt 1 (count s 0 h)) [
        | inl l ↦ inl (
          (let g = closed 0 (cond-false _ _ _ (ne_eqb (count s 0 h + entry s e - exit s e) 0 (λ z. omega (arith, l, z, k.0, more)))) in omega (arith, g)),
          record {
            semaphores = λ q o. k.1.semaphores q o ∙ ap (λ g. g q) (through_semaphore bd m (signals up) v) ∙ ap (λ g. g q) (cond-false (v.counter m == 1) (add_one v.semaphore (signals up)) v.semaphore (ne_eqb (v.counter m) 1 (λ z. omega (arith, l, z, H.1))));
            counters = λ d o. k.1.counters d (wide d o) ∙ ap (λ g. g d) (through_counter bd m (signals up) v) ∙ put_other v.counter m (v.counter m - 1) d (unlike d o);
            limits = λ d o. k.1.limits d (wide d o) ∙ through_bound bd m (signals up) v d (unlike d o);
          },
        )
        | inr l ↦ inr (
          (let one : exit s e ≡ 1 = omega (arith, k.0, more) in
              let g = closed 1 (cond-true (count s 0 h + entry s e - exit s e == 0) (exit s e) 0 (eq-eqb (count s 0 h + entry s e - exit s e) 0 (omega (arith, l, one, in_zero))) ∙ one) in
              g),
          (let one : exit s e ≡ 1 = omega (arith, k.0, more) in
              let single : v.counter m ≡ 1 = omega (arith, l, some one, H.1) in
              record {
                semaphores = λ q o. k.1.semaphores q o ∙ ap (λ g. g q) (through_semaphore bd m (signals up) v) ∙ ap (λ g. g q) (cond-true (v.counter m == 1) (add_one v.semaphore (signals up)) v.semaphore (eq-eqb (v.counter m) 1 single)) ∙ sym (ap (λ x. (finished x v).semaphore q) c);
                counters = λ d o. k.1.counters d (wide d o) ∙ ap (λ g. g d) (through_counter bd m (signals up) v) ∙ put_other v.counter m (v.counter m - 1) d (unlike d o) ∙ sym (finished_braces up v c d).0;
                limits = λ d o. k.1.limits d (wide d o) ∙ through_bound bd m (signals up) v d (unlike d o) ∙ sym (finished_braces up v c d).1;
              }),
        )
      ]

steady_flat : (s : Tree) → NoBraces s → (h : List Event) → Steady s h
steady_flat (op b) f h = tt
steady_flat (seq s t) f h = (steady_flat s f.0 h, steady_flat t f.1 h)
steady_flat (alt s t) f h = (steady_flat s f.0 h, steady_flat t f.1 h)
steady_flat (burst bd s) f h = absurd f

pub finish_ok : (s : Tree) → NoRepeats s → NoNesting s → (n m : ℕ) (a : OpId) (up : List Above) → NoBraces s ⊎ ClearBack up → Out n (semicolons s) (signals up) → Names s a → (h : List Event) (v : Values) → Holds s n m h v → Steady s h → Steady s (h ++ Ended a ∷ []) → FinishOk s n m up h a v (finished (epilogue_below (above s n m a ++ up)) v)
finish_ok (op b) nr nn n m a up c o k h v H x y = record {
  holds = tt;
  effect = inr ((let e : ◌≡◌ {A = ℕ} (exit (op b) (Ended a)) 1 = cond-true _ _ _ (eq-eqb a.0 b.0 (ap (λ z. z.0) k)) in omega (arith, outs-append (op b) h (Ended a ∷ []), e)), Agree_refl n 0 m 0 _);
}
finish_ok (seq s t) nr nn n m a up c o (inl k) h v H x y =
    let away : Names t a → ⊥ = nr.2 a k in
    let r = finish_ok s nr.0 nn.0 n m a (LeftOf (n + semicolons s) ∷ up) (inr refl) (inr (omega arith)) k h v H.0 x.0 y.0 in
    subst (λ l. FinishOk (seq s t) n m up h a v (finished (epilogue_below l) v)) (sym (path_left s t n m a up k)) (seq_left s t n m up h a v _ H away r)
finish_ok (seq s t) nr nn n m a up c o (inr k) h v H x y =
    let away : Names s a → ⊥ = λ z. nr.2 a z k in
    let c' : NoBraces t ⊎ ClearBack up = elim c [ inl f ↦ inl f.1 | inr g ↦ inr g ] in
    let o' : Out (n + semicolons s + 1) (semicolons t) (signals up) = elim o [ inl l ↦ inl (omega (arith, l)) | inr l ↦ inr (omega (arith, l)) ] in
    let r = finish_ok t nr.1 nn.1 (n + semicolons s + 1) (m + braces s) a (RightOf (n + semicolons s) ∷ up) c' o' k h v H.1 x.1 y.1 in
    subst (λ l. FinishOk (seq s t) n m up h a v (finished (epilogue_below l) v)) (sym (path_right s t n m a up away)) (seq_right s t n m up h a v _ c o H away r)
finish_ok (alt s t) nr nn n m a up c o (inl k) h v H x y =
    let away : Names t a → ⊥ = nr.2 a k in
    let c' : NoBraces s ⊎ ClearBack up = elim c [ inl f ↦ inl f.0 | inr g ↦ inr g ] in
    let o' : Out n (semicolons s) (signals up) = elim o [ inl l ↦ inl l | inr l ↦ inr (omega (arith, l)) ] in
    let r = finish_ok s nr.0 nn.0 n m a up c' o' k h v H.0 x.0 y.0 in
    let b : NoBraces (alt s t) ⊎ SameBraces v (finished (epilogue_below up) v) = elim c [ inl f ↦ inl f | inr g ↦ inr (finished_braces up v g) ] in
    subst (λ l. FinishOk (alt s t) n m up h a v (finished (epilogue_below l) v)) (sym (path_one s t n m a up k)) (alt_left out s t n m h (Ended a) v (finished (epilogue_below up) v) _ (signals up) (finished_one up v) (omega (arith, out_before t h (Ended a ∷ []) (away, tt))) b o H (away, tt) r)
finish_ok (alt s t) nr nn n m a up c o (inr k) h v H x y =
    let away : Names s a → ⊥ = λ z. nr.2 a z k in
    let c' : NoBraces t ⊎ ClearBack up = elim c [ inl f ↦ inl f.1 | inr g ↦ inr g ] in
    let o' : Out (n + semicolons s) (semicolons t) (signals up) = elim o [ inl l ↦ inl (omega (arith, l)) | inr l ↦ inr (omega (arith, l)) ] in
    let r = finish_ok t nr.1 nn.1 (n + semicolons s) (m + braces s) a up c' o' k h v H.1 x.1 y.1 in
    let b : NoBraces (alt s t) ⊎ SameBraces v (finished (epilogue_below up) v) = elim c [ inl f ↦ inl f | inr g ↦ inr (finished_braces up v g) ] in
    subst (λ l. FinishOk (alt s t) n m up h a v (finished (epilogue_below l) v)) (sym (path_other s t n m a up away)) (alt_right out s t n m h (Ended a) v (finished (epilogue_below up) v) _ (signals up) (finished_one up v) (omega (arith, out_before s h (Ended a ∷ []) (away, tt))) b o H (away, tt) r)
finish_ok (burst bd s) nr nn n m a up (inl f) o k h v H x y = absurd f
finish_ok (burst bd s) nr nn n m a up (inr c) o k h v H x y =
    let r = finish_ok s nr (flat_fits s nn.0) n (m + 1) a (Within bd m ∷ up) (inl nn.0) o k h v H.0 (steady_flat s nn.0 h) (steady_flat s nn.0 _) in
    subst (λ l. FinishOk (burst bd s) n m up h a v (finished (epilogue_below l) v)) (sym (path_in bd s n m a up)) (in_braces bd s n m up h a v _ nn.0 c H x y r)
