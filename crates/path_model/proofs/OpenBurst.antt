-- The counter shows the open burst, and the values count the labels of each of its part labellings.
use Rattle.std.proofs.Common.{◌≡◌, ◌≢◌, ◌⊎◌, ◌<◌, ◌≤◌, ◌+◌, ℕ, List, [], ◌∷◌, ◌++◌, refl, sym, ap, ◌∙◌, subst, inl, inr, arith}
use Rattle.std.proofs.lemmas.List.{append-nil, append_assoc}
use Rattle.path_model.specs.declared.ids.OpId.{OpId}
use Rattle.path_model.specs.declared.history.Event.{Event}
use Rattle.path_model.specs.declared.history.Event.TheVariants.{Began}
use Rattle.path_model.specs.Trees.{Bound, BoundAdmits, Tree, op, seq, alt, burst, Names, NoRepeats, NoBraces, NoNesting, has, WellFormed}
use Rattle.path_model.specs.Histories.{op_of}
use Rattle.path_model.specs.Words.{IsWord}
use Rattle.path_model.specs.Behaviour.{IsFront, IsPartLabelling, Behaves}
use Rattle.path_model.proofs.Lists.{not_nil, last_parts, cons_nil}
use Rattle.path_model.proofs.Counts.{count, inn, out, May, ins-append, outs-append, Foreign, Named, foreign_count}
use Rattle.path_model.proofs.Same.{Balanced, Same, May_same, Same_sym, May_weaken, Balanced_nil, count_after, Same_after, Same_balanced, Balanced_append, foreign_balanced, Starts, May_split, May_nothing}
use Rattle.std.proofs.Common.{◌↔◌}
use Rattle.std.proofs.lemmas.Bool.{cases_lt}
use Rattle.path_model.specs.Machine.{semicolons, Above, Within, above, Plain, through, waits_on, prologue_below, prologue, Values, Passes, values_after, CanPass}
use Rattle.path_model.proofs.Crowd.{sane_out}
use Rattle.path_model.proofs.Steady.{Steady}
use Rattle.std.proofs.Common.{length, length-append}
use Rattle.std.proofs.lemmas.Bool.{cases_Bool, true≢false}
use Rattle.path_model.specs.Labellings.{events_of}
use Rattle.path_model.specs.BurstCounts.{Inside, itself, seq_first, seq_second, alt_first, alt_second, Many, InUse, Unfinished, StandsAt, OpenBurst, Spare, Counts, EachLabellingCounts}
use Rattle.path_model.specs.BurstCounts
use Rattle.path_model.proofs.Lists.{cons_same}
use Rattle.path_model.proofs.Solo.{Solo, alone, on, named_solo, solo_front, Meets, seq_parts, SeqParts, alt_parts, apart_foreign, apart_swap}
use Rattle.path_model.proofs.Crowd.{start_entry, start_exit, crowd_front, crowd_count}
use Rattle.path_model.proofs.Burst.{Lasting, lasting, closed_word, burst_meets}
use Rattle.path_model.proofs.Path.{flat_fits, meets, Live, start, step, live_front, behaves_live, Parts, parts, solo_next}
use Rattle.path_model.proofs.Steady.{live_steady}
use Rattle.path_model.proofs.Upward.{Holds, pass_may, through_passes, has_names, names_has, path_in}
use Rattle.path_model.proofs.OnePath.{rooted}
use Rattle.path_model.proofs.Moves.{spare_same}
use Rattle.path_model.proofs.Sums.{nil_or}
use Rattle.path_model.proofs.Labelled.{inside_names, inside_flat, inside_once, inside_fits, inside_balanced, inside_foreign, unfinished_many, standing_many}
use Rattle.path_model.proofs.Labelled
use Rattle.path_model.proofs.InsideParts.{inside_steady, holds_inside, inside_may, inside_above, start_term, other_term, plain_through}

named_last : (s : Tree) (x : List Event) (e : Event) → Named s (x ++ e ∷ []) → Names s (op_of e)
named_last s [] e n = n.0
named_last s (d ∷ x) e n = named_last s x e n.1

suffix_split : (a b c d : List Event) → a ++ b ≡ c ++ d → length d ≤ length b → (x : List Event) × (b ≡ x ++ d) × (c ≡ a ++ x)
suffix_split [] b c d h l = (c, h, refl)
suffix_split (e ∷ a) b [] d h l = absurd (omega (arith, l, ap length h, length-append a b))
suffix_split (e ∷ a) b (g ∷ c) d h l =
    let q = cons_same _ _ _ _ h in
    let r = suffix_split a b c d q.1 l in
    (r.0, r.1, (let z = r.2 in let y = q.0 in cc))

inn_flat : (s : Tree) → NoBraces s → (x y : List Event) → inn s (x ++ y) ≡ inn s x + inn s y
inn_flat (op b) f x y = ins-append (op b) x y
inn_flat (seq s t) f x y = inn_flat s f.0 x y
inn_flat (alt s t) f x y = omega (arith, inn_flat s f.0 x y, inn_flat t f.1 x y)
inn_flat (burst bd s) f x y = absurd f

out_flat : (s : Tree) → NoBraces s → (x y : List Event) → out s (x ++ y) ≡ out s x + out s y
out_flat (op b) f x y = outs-append (op b) x y
out_flat (seq s t) f x y = out_flat t f.1 x y
out_flat (alt s t) f x y = omega (arith, out_flat s f.0 x y, out_flat t f.1 x y)
out_flat (burst bd s) f x y = absurd f

module _ (bd : Bound) (b : Tree) (i j : ℕ) where
  -- while the braces are open the next event of one execution is within them
  abbrev StaysIn : Tree → Type 0
  StaysIn s = (v x : List Event) (e : Event) → Solo s v → v ≡ x ++ e ∷ [] → 0 < count b 0 x → Names b (op_of e)

  no_count : (x : List Event) → Foreign b x → 0 < count b 0 x → ⊥
  no_count x f l = omega (arith, l, foreign_count b 0 x f)

  stay_seq_first : (s u : Tree) (n m : ℕ) → Inside (burst bd b) i j s n m → NoRepeats (seq s u) → NoNesting (seq s u) → StaysIn s → StaysIn (seq s u)
  stay_seq_first s u n m k nr nn rec v x e r h l = go (seq_parts s u nr.2 ms mu r)
    where
      ms : Meets s
      ms = meets s nr.0 nn.0

      mu : Meets u
      mu = meets u nr.1 nn.1

      go : SeqParts s u nr.2 ms mu v → Names b (op_of e)
      go (inl q) = rec v x e q h l
      go (inr (y, z, q, wy, rz)) = elim (last_parts y z x e (sym q ∙ h)) [
        | inl p ↦ rec y x e (ms.whole y wy) p.1 l
        | inr p ↦
            let away : Foreign b p.0 = inside_foreign p.0 k (apart_foreign u s p.0 (apart_swap s u nr.2) (named_solo u (solo_front u rz p.0 (e ∷ []) p.1))) in
            let zero_y : count b 0 y ≡ 0 = (inside_balanced y k (ms.balanced y wy)).1 in
            absurd (omega (arith, l, ap (count b 0) p.2, count_after b y p.0 zero_y, foreign_count b 0 p.0 away))
      ]

  stay_seq_second : (s u : Tree) (n m : ℕ) → Inside (burst bd b) i j u n m → NoRepeats (seq s u) → NoNesting (seq s u) → StaysIn u → StaysIn (seq s u)
  stay_seq_second s u n m k nr nn rec v x e r h l = go (seq_parts s u nr.2 ms mu r)
    where
      ms : Meets s
      ms = meets s nr.0 nn.0

      mu : Meets u
      mu = meets u nr.1 nn.1

      away : (y : List Event) → Solo s y → Foreign b y
      away y q = inside_foreign y k (apart_foreign s u y nr.2 (named_solo s q))

      go : SeqParts s u nr.2 ms mu v → Names b (op_of e)
      go (inl q) = absurd (no_count x (away x (solo_front s q x (e ∷ []) h)) l)
      go (inr (y, z, q, wy, rz)) = elim (last_parts y z x e (sym q ∙ h)) [
        | inl p ↦ absurd (no_count x (away x (solo_front s (ms.whole y wy) x (e ∷ []) p.1)) l)
        | inr p ↦ rec z p.0 e rz p.1 (omega (arith, l, ap (count b 0) p.2, count_after b y p.0 (foreign_count b 0 y (away y (ms.whole y wy)))))
      ]

  stay_alt_first : (s u : Tree) (n m : ℕ) → Inside (burst bd b) i j s n m → NoRepeats (alt s u) → NoNesting (alt s u) → StaysIn s → StaysIn (alt s u)
  stay_alt_first s u n m k nr nn rec v x e r h l = elim (alt_parts s u nr.2 (meets s nr.0 nn.0) (meets u nr.1 nn.1) r) [
    | inl q ↦ rec v x e q h l
    | inr q ↦ absurd (no_count x (inside_foreign x k (apart_foreign u s x (apart_swap s u nr.2) (named_solo u (solo_front u q x (e ∷ []) h)))) l)
  ]

  stay_alt_second : (s u : Tree) (n m : ℕ) → Inside (burst bd b) i j u n m → NoRepeats (alt s u) → NoNesting (alt s u) → StaysIn u → StaysIn (alt s u)
  stay_alt_second s u n m k nr nn rec v x e r h l = elim (alt_parts s u nr.2 (meets s nr.0 nn.0) (meets u nr.1 nn.1) r) [
    | inl q ↦ absurd (no_count x (inside_foreign x k (apart_foreign s u x nr.2 (named_solo s (solo_front s q x (e ∷ []) h)))) l)
    | inr q ↦ rec v x e q h l
  ]

  stay_in : {s : Tree} {n m : ℕ} → Inside (burst bd b) i j s n m → NoRepeats s → NoNesting s → StaysIn s
  stay_in itself nr nn v x e r h l = named_last (burst bd b) x e (subst (Named (burst bd b)) h (named_solo (burst bd b) r))
  stay_in (seq_first s u n m k) nr nn v x e r h l = stay_seq_first s u n m k nr nn (λ v x e r h l. stay_in k nr.0 nn.0 v x e r h l) v x e r h l
  stay_in (seq_second s u n m k) nr nn v x e r h l = stay_seq_second s u _ _ k nr nn (λ v x e r h l. stay_in k nr.1 nn.1 v x e r h l) v x e r h l
  stay_in (alt_first s u n m k) nr nn v x e r h l = stay_alt_first s u n m k nr nn (λ v x e r h l. stay_in k nr.0 nn.0 v x e r h l) v x e r h l
  stay_in (alt_second s u n m k) nr nn v x e r h l = stay_alt_second s u _ _ k nr nn (λ v x e r h l. stay_in k nr.1 nn.1 v x e r h l) v x e r h l
  stay_in (BurstCounts.in_braces be s n m k) nr nn v x e r h l = absurd (inside_flat k nn.0)

-- the braces are closed, or have been open since some event
record Since (bd : Bound) (b : Tree) (h : List Event) : Type 0 where
  before : List Event
  last : List Event
  joined : h ≡ before ++ last
  balanced : Balanced (burst bd b) before
  solo : Solo (burst bd b) last
  some : last ≢ []
  is_open : 0 < count b 0 last

module _ (bd : Bound) (b : Tree) (i j : ℕ) (s : Tree) (at : Inside (burst bd b) i j s 1 0) (nr : NoRepeats s) (nn : NoNesting s) where
  flat : NoBraces b
  flat = (inside_fits at nn).0

  room : BoundAdmits bd 0
  room = (inside_fits at nn).1

  once : NoRepeats b
  once = inside_once at nr

  mb : Meets b
  mb = meets b once (flat_fits b flat)

  mbb : Meets (burst bd b)
  mbb = burst_meets bd b flat once mb room

  run_step : (w v : List Event) (e : Event) → Live s w → May s w e (inn s w ≤ out s w) → v ≡ w ++ e ∷ [] → Balanced (burst bd b) w ⊎ Since bd b w → Balanced (burst bd b) v ⊎ Since bd b v
  run_step w v e r m h (inl c) = elim (cases_Bool (has b (op_of e))) [
    | inl k ↦ inr (begin (names_has b (op_of e) k))
    | inr k ↦ inl (subst (Balanced (burst bd b)) (sym h) (Balanced_append (burst bd b) w (e ∷ []) c (foreign_balanced (burst bd b) (e ∷ []) (λ x. true≢false (sym (has_names b (op_of e) x) ∙ k), tt))))
  ]
    where
      begin : Names b (op_of e) → Since bd b v
      begin k = go (May_split (burst bd b) [] e (May_same (burst bd b) w [] e (λ x. x) (Same_balanced (burst bd b) w c) (inside_may at nr w e _ k m)))
        where
          go : May (burst bd b) [] e ⊥ ⊎ (Unit {0} × Starts (burst bd b) e) → Since bd b v
          go (inl x) = absurd (May_nothing (burst bd b) e x)
          go (inr x) = record {
            before = w;
            last = e ∷ [];
            joined = h;
            balanced = c;
            solo = on [] e alone (May_weaken (burst bd b) [] e (λ _. refl) (mbb.begin e x.1)) refl;
            some = cons_nil e [];
            is_open = omega (arith, start_entry b once e x.1, start_exit b e x.1);
          }
  run_step w v e r m h (inr o) = elim (cases_lt 0 (count b 0 (o.last ++ e ∷ []))) [
    | inl l ↦ inr (record { before = o.before; last = o.last ++ e ∷ []; joined = whole; balanced = o.balanced; solo = solo; some = not_nil o.last e; is_open = l })
    | inr l ↦ inl (subst (Balanced (burst bd b)) (sym whole) (Balanced_append (burst bd b) o.before (o.last ++ e ∷ []) o.balanced (closed l)))
  ]
    where
      ms : Meets s
      ms = meets s nr nn

      p : Parts s ms w
      p = parts s ms r

      whole : v ≡ o.before ++ (o.last ++ e ∷ [])
      whole = h ∙ ap (λ u. u ++ e ∷ []) o.joined ∙ append_assoc o.before o.last (e ∷ [])

      now : 0 < count b 0 p.last
      now = omega (arith, o.is_open, ap (count b 0) o.joined, count_after b o.before o.last o.balanced.1, ap (count b 0) p.joined, count_after b p.over p.last (inside_balanced p.over at p.balanced).1)

      within : Names b (op_of e)
      within = stay_in bd b i j at nr nn (p.last ++ e ∷ []) p.last e (solo_next s ms w e m p) refl now

      solo : Solo (burst bd b) (o.last ++ e ∷ [])
      solo = on o.last e o.solo (May_same b w o.last e (λ (x : (Unit {0} ⊎ (0 < count b 0 w)) × BoundAdmits bd (count b 0 w)). (inr o.is_open, subst (BoundAdmits bd) same.1 x.1)) same.0 (inside_may at nr w e _ within m)) refl
        where
          same : Same (burst bd b) w o.last
          same = subst (λ u. Same (burst bd b) u o.last) (sym o.joined) (Same_after (burst bd b) o.before o.last o.balanced)

      closed : count b 0 (o.last ++ e ∷ []) ≤ 0 → Balanced (burst bd b) (o.last ++ e ∷ [])
      closed l = elim (lasting bd b flat once mb solo) [
        | inl z ↦ absurd (not_nil o.last e z)
        | inr a ↦ mbb.balanced _ (closed_word bd b flat once mb _ a (omega (arith, l)))
      ]

  run_state : {h : List Event} → Live s h → Balanced (burst bd b) h ⊎ Since bd b h
  run_state start = inl (Balanced_nil (burst bd b))
  run_state (step w e {v = v} r m h) = run_step w v e r m h (run_state r)

  not_flat : NoBraces (burst bd b) → ⊥
  not_flat f = f

  steady_b : {h : List Event} → Live s h → Steady (burst bd b) h
  steady_b {h} r = inside_steady h at not_flat nn (live_steady s nr nn r)

  module _ (h w : List Event) (r : Live s h) (ob : OpenBurst bd b h w) where
    ob_solo : Solo (burst bd b) w
    ob_solo = solo_front (burst bd b) (mbb.whole _ ob.front.1) w ob.front.0 refl

    ob_lasting : Lasting bd b flat once mb w
    ob_lasting = elim (lasting bd b flat once mb ob_solo) [ inl z ↦ absurd (ob.some z) | inr a ↦ a ]

    ob_open : 0 < count b 0 w
    ob_open = elim ob_lasting.state [ inl k ↦ k.0 | inr k ↦ absurd (ob.proper (closed_word bd b flat once mb w ob_lasting k.0)) ]

    ob_count : count b 0 w + out b w ≡ inn b w
    ob_count = crowd_count b flat once ob_lasting.crowd

    steady_before : Steady (burst bd b) ob.before
    steady_before = steady_b (live_front s r ob.before w ob.joined)

    before_left : out b ob.before ≤ inn b ob.before
    before_left = sane_out b flat ob.before steady_before.0

    -- before the open burst the braces were closed
    pub ob_balanced : Balanced (burst bd b) ob.before
    ob_balanced = elim (run_state r) [
      | inl c ↦ absurd (
          let q = steady_b r in
          omega (arith, q.1, c.1, ob_open, ob_count, before_left, ap (inn b) ob.joined, ap (out b) ob.joined, inn_flat b flat ob.before w, out_flat b flat ob.before w)
          )
      | inr o ↦ since o
    ]
      where
        since : Since bd b h → Balanced (burst bd b) ob.before
        since o = go (nil_or cut.0)
          where
            front : IsFront (IsWord (burst bd b)) o.last
            front = mbb.finish o.last o.solo

            proper : IsWord (burst bd b) o.last → ⊥
            proper k = let z = (mbb.balanced o.last k).1 in omega (arith, z, o.is_open)

            cut : (x : List Event) × (w ≡ x ++ o.last) × (o.before ≡ ob.before ++ x)
            cut = suffix_split ob.before w o.before o.last (sym ob.joined ∙ o.joined) (ob.longest o.before o.last o.joined o.some front proper)

            go : (cut.0 ≡ []) ⊎ (cut.0 ≢ []) → Balanced (burst bd b) ob.before
            go (inl z) = subst (Balanced (burst bd b)) (cut.2 ∙ ap (λ u. ob.before ++ u) z ∙ append-nil ob.before) o.balanced
            go (inr z) = absurd (
                let l = ob_lasting.before cut.0 o.last cut.1 z o.some in
                let c = crowd_count b flat once (crowd_front b ob_lasting.crowd cut.0 o.last cut.1) in
                let q = steady_b (live_front s r o.before o.last o.joined) in
                omega (arith, l, c, q.1, o.balanced.1, before_left, ap (inn b) cut.2, ap (out b) cut.2, inn_flat b flat ob.before cut.0, out_flat b flat ob.before cut.0)
                )

    ob_same : Same (burst bd b) h w
    ob_same = subst (λ u. Same (burst bd b) u w) (sym ob.joined) (Same_after (burst bd b) ob.before w ob_balanced)

    abbrev v : Values
    v = values_after s h

    H : Holds (burst bd b) i j h v
    H = holds_inside h v at (rooted s nr nn r).holds

    ups : (up' : List Above) × ((a : OpId) → Names (burst bd b) a → above s 1 0 a ++ [] ≡ above (burst bd b) i j a ++ up')
    ups = inside_above at nr []

    term_of : (a : OpId) → Names b a → prologue s a ≡ prologue_below (above b i (j + 1) a ++ Within bd j ∷ ups.0)
    term_of a k = ap prologue_below (sym (append-nil (above s 1 0 a)) ∙ ups.1 a k ∙ path_in bd b i j a ups.0)

    passes : (a : OpId) → Names b a → CanPass s h a ↔ May b h (Began a) (Passes (through bd j (waits_on ups.0)) v)
    passes a k = (λ c. q.0 (subst (λ x. Passes x v) (term_of a k) c), λ m. subst (λ x. Passes x v) (sym (term_of a k)) (q.1 m))
      where
        q : Passes (prologue_below (above b i (j + 1) a ++ Within bd j ∷ ups.0)) v ↔ May b h (Began a) (Passes (through bd j (waits_on ups.0)) v)
        q = pass_may b once (flat_fits b flat) i (j + 1) a (Within bd j ∷ ups.0) (inl flat) k h v H.0

    module _ (ls : List (ℕ × Event)) (e : events_of ls ≡ w) (pl : IsPartLabelling b ls) where
      counted : Counts s b bd i j h ls
      counted = record { counter = counter; spare = spare; room = may_begin; semaphores = semaphores; goes_on = goes_on; only_in_use = only_in_use; begins = begins }
        where
          counter : Many (Unfinished b ls) (v.counter j)
          counter = unfinished_many b flat once ls pl (v.counter j) (omega (arith, H.1, ob_same.1, ob_count, ap (inn b) e, ap (out b) e))

          spare : Spare bd (v.bound j) (v.counter j)
          spare = spare_same bd (v.bound j) (v.bound j) (count b 0 h) (v.counter j) refl (sym H.1) H.2

          may_begin : (a : OpId) (q : ℕ) → prologue s a ≡ through bd j q → CanPass s h a ↔ BoundAdmits bd (v.counter j)
          may_begin a q p = (λ c. (t.0 (subst (λ x. Passes x v) p c)).1, λ r. subst (λ x. Passes x v) (sym p) (t.1 (inl (omega (arith, H.1, ob_same.1, ob_open)), r)))
            where
              t : Passes (through bd j q) v ↔ (((0 < v.counter j) ⊎ (0 < v.semaphore q)) × BoundAdmits bd (v.counter j))
              t = through_passes bd j q v (v.counter j) spare

          semaphores : (l r : Tree) (n m : ℕ) → Inside (seq l r) n m b i (j + 1) → Many (StandsAt l r ls) (v.semaphore (n + semicolons l))
          semaphores l r' n m k = standing_many b flat once ls pl l r' n m i (j + 1) k (v.semaphore (n + semicolons l)) (omega (arith, (holds_inside h v k H.0).2, same.2, ap (inn r') e, ap (out l) e))
            where
              same : Same (seq l r') h w
              same = subst (λ u. Same (seq l r') u w) (sym ob.joined) (Same_after (seq l r') ob.before w (inside_balanced ob.before k ob_balanced.0))

          not_first : (a : OpId) (q : ℕ) → Names b a → prologue s a ≡ Plain q → Starts b (Began a) → ⊥
          not_first a q k p st = plain_through bd q j (waits_on ups.0) (sym p ∙ term_of a k ∙ start_term b once flat i (j + 1) a (Within bd j ∷ ups.0) st)

          goes_on : (a : OpId) (q : ℕ) → Names b a → prologue s a ≡ Plain q → CanPass s h a ↔ ((k : ℕ) × InUse ls k × IsPartLabelling b (ls ++ (k, Began a) ∷ []))
          goes_on a q k p = (λ c. g.0 (to c), λ x. (passes a k).1 (from (g.1 x)))
            where
              g : May b (events_of ls) (Began a) ⊥ ↔ ((k : ℕ) × InUse ls k × IsPartLabelling b (ls ++ (k, Began a) ∷ []))
              g = Labelled.goes_on b flat once ls pl (Began a)

              to : CanPass s h a → May b (events_of ls) (Began a) ⊥
              to c = elim (May_split b h (Began a) ((passes a k).0 c)) [
                | inl m ↦ subst (λ u. May b u (Began a) ⊥) (sym e) (May_same b h w (Began a) (λ x. x) ob_same.0 m)
                | inr x ↦ absurd (not_first a q k p x.1)
              ]

              from : May b (events_of ls) (Began a) ⊥ → May b h (Began a) (Passes (through bd j (waits_on ups.0)) v)
              from m = May_same b w h (Began a) absurd (Same_sym b h w ob_same.0) (subst (λ u. May b u (Began a) ⊥) e m)

          only_in_use : (a : OpId) (q : ℕ) → Names b a → prologue s a ≡ Plain q → (k : ℕ) → IsPartLabelling b (ls ++ (k, Began a) ∷ []) → InUse ls k
          only_in_use a q k p = Labelled.only_in_use b flat once ls pl (Began a) (not_first a q k p)

          begins : (a : OpId) (q : ℕ) → Names b a → prologue s a ≡ through bd j q → (k : ℕ) → (InUse ls k → ⊥) → IsPartLabelling b (ls ++ (k, Began a) ∷ [])
          begins a q k p = Labelled.begins b flat once ls pl (Began a) (elim (other_term b once flat i (j + 1) a (Within bd j ∷ ups.0) k) [
            | inl st ↦ st
            | inr x ↦ absurd (plain_through bd x.0 j q (sym x.1 ∙ sym (term_of a k) ∙ p))
          ])

module _ (bd : Bound) (b : Tree) (i j : ℕ) (s : Tree) (at : Inside (burst bd b) i j s 1 0) (nr : NoRepeats s) (nn : NoNesting s) (h : List Event) (r : Live s h) where
  held : Holds (burst bd b) i j h (values_after s h)
  held = holds_inside h _ at (rooted s nr nn r).holds

  since_open : Since bd b h → (w : List Event) × OpenBurst bd b h w
  since_open o = (o.last, record { before = o.before; joined = o.joined; some = o.some; front = (m).finish o.last o.solo; proper = proper; longest = longest })
    where
      m : Meets (burst bd b)
      m = mbb bd b i j s at nr nn

      fl : NoBraces b
      fl = flat bd b i j s at nr nn

      on_ : NoRepeats b
      on_ = once bd b i j s at nr nn

      proper : IsWord (burst bd b) o.last → ⊥
      proper k = let z = (m.balanced o.last k).1 in omega (arith, z, o.is_open)

      longest : (u x : List Event) → h ≡ u ++ x → x ≢ [] → IsFront (IsWord (burst bd b)) x → (IsWord (burst bd b) x → ⊥) → length x ≤ length o.last
      longest u x q sx fx px = elim (cases_lt (length o.last) (length x)) [ inr l ↦ l | inl l ↦ absurd (longer l) ]
        where
          longer : length o.last < length x → ⊥
          longer l = go (nil_or cut.0)
            where
              cut : (y : List Event) × (x ≡ y ++ o.last) × (o.before ≡ u ++ y)
              cut = suffix_split u x o.before o.last (sym q ∙ o.joined) (omega (arith, l))

              solo : Solo (burst bd b) x
              solo = solo_front (burst bd b) (m.whole _ fx.1) x fx.0 refl

              a : Lasting bd b fl on_ (mb bd b i j s at nr nn) x
              a = elim (lasting bd b fl on_ (mb bd b i j s at nr nn) solo) [ inl z ↦ absurd (sx z) | inr k ↦ k ]

              go : (cut.0 ≡ []) ⊎ (cut.0 ≢ []) → ⊥
              go (inl z) = omega (arith, l, ap length (cut.1 ∙ ap (λ v. v ++ o.last) z))
              go (inr z) =
                  let k = a.before cut.0 o.last cut.1 z o.some in
                  let c = crowd_count b fl on_ (crowd_front b a.crowd cut.0 o.last cut.1) in
                  let st = steady_b bd b i j s at nr nn (live_front s r o.before o.last o.joined) in
                  let su = steady_b bd b i j s at nr nn (live_front s r u x q) in
                  omega (arith, k, c, st.1, o.balanced.1, sane_out b fl u su.0, ap (inn b) cut.2, ap (out b) cut.2, inn_flat b fl u cut.0, out_flat b fl u cut.0)

  tells : (0 < (values_after s h).counter j) ↔ ((w : List Event) × OpenBurst bd b h w)
  tells = (to, from)
    where
      to : 0 < (values_after s h).counter j → (w : List Event) × OpenBurst bd b h w
      to l = elim (run_state bd b i j s at nr nn r) [ inl c ↦ absurd (omega (arith, l, held.1, c.1)) | inr o ↦ since_open o ]

      from : ((w : List Event) × OpenBurst bd b h w) → 0 < (values_after s h).counter j
      from (w, ob) = omega (arith, held.1, (ob_same bd b i j s at nr nn h w r ob).1, ob_open bd b i j s at nr nn h w r ob)

pub counters_tell_open_braces : (s : Tree) → WellFormed s → (bd : Bound) (b : Tree) (i j : ℕ) → Inside (burst bd b) i j s 1 0 → (h : List Event) → Behaves s h → (0 < (values_after s h).counter j) ↔ ((w : List Event) × OpenBurst bd b h w)
counters_tell_open_braces s wf bd b i j at h k = tells bd b i j s at wf.names_once wf.not_nested h (behaves_live s (meets s wf.names_once wf.not_nested) h k)

pub each_labelling_counts : (s : Tree) → WellFormed s → (bd : Bound) (b : Tree) (i j : ℕ) → Inside (burst bd b) i j s 1 0 → (h w : List Event) → Behaves s h → OpenBurst bd b h w → (ls : List (ℕ × Event)) → events_of ls ≡ w → IsPartLabelling b ls → Counts s b bd i j h ls
each_labelling_counts s wf bd b i j at h w k ob ls e pl =
    counted bd b i j s at wf.names_once wf.not_nested h w (behaves_live s (meets s wf.names_once wf.not_nested) h k) ob ls e pl
