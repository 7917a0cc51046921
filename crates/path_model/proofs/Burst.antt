-- Words of braces: overlapping executions until none is in progress.
use Rattle.std.proofs.Common.{◌≡◌, ◌≢◌, ◌⊎◌, ◌==◌, if◌then◌else◌, ◌<◌, ◌≤◌, ◌+◌, ◌-◌, ℕ, List, [], ◌∷◌, ◌++◌, refl, sym, ap, ◌∙◌, subst, inl, inr, arith}
use Rattle.std.proofs.lemmas.List.{append-nil, append_assoc}
use Rattle.std.proofs.lemmas.Bool.{eqb-true, eq-eqb, ne_eqb, cond-true, cond-false, cond_both}
use Rattle.path_model.specs.declared.history.Event.{Event}
use Rattle.path_model.specs.declared.history.Event.TheVariants.{Began, Ended}
use Rattle.path_model.specs.Trees.{Tree, op, seq, alt, burst, Names, NoRepeats, NoBraces, Bound, BoundAdmits}
use Rattle.path_model.specs.Histories.{op_of}
use Rattle.path_model.specs.Words.{IsWord}
use Rattle.path_model.specs.Behaviour.{IsFront}
use Rattle.path_model.proofs.Lists.{not_nil, last_parts, nil_parts, cons_nil}
use Rattle.path_model.proofs.Counts.{entry, exit, count, opens, closes, inn, out, May, ins-append, count-append, opens-append, closes-append, foreign_exit}
use Rattle.path_model.proofs.Same.{Balanced, May_weaken, inn_nil, out_nil, Balanced_nil, Starts, start_may, May_split, May_nothing, balanced_stuck}
use Rattle.std.proofs.lemmas.Bool.{cases_lt, cases_Bool}
use Rattle.path_model.specs.Labellings.{IsShuffle, events_of, EachLabel, WithinBound}
use Rattle.path_model.proofs.Solo.{Solo, alone, on, Stage, Meets, word_some}
use Rattle.path_model.proofs.Crowd.{Merge, empty, merge_swap, merge_append, inn_merge, out_merge, inn_more, sane_out, stay_entry, start_entry, start_exit, Crowd, idle, more, crowd_front, crowd_sane, crowd_count, crowd_last, Balanced_merge, Mix, nothing, adding, crowd_mix, mix_crowd}
use Rattle.path_model.proofs.Labels.{labels_mix, mix_labels}
use Rattle.path_model.proofs.Rooms.{Fits, room_fits, fits_room, fits_less}
use Rattle.path_model.proofs.RunsAcross.{within, fits_within}

exit_names : (s : Tree) (e : Event) → 0 < exit s e → Names s (op_of e)
exit_names (op b) (Began a) h = absurd (omega (arith, h))
exit_names (op b) (Ended a) h = elim (cases_Bool (a.0 == b.0)) [
  | inl q ↦ ap (λ n. record { 0 = n }) (eqb-true a.0 b.0 q)
  | inr q ↦ let z : ◌≡◌ {A = ℕ} (if a.0 == b.0 then 1 else 0) 0 = cond-false _ _ _ q in absurd (omega (arith, h, z))
]
exit_names (seq s t) e h = inr (exit_names t e h)
exit_names (alt s t) e h = elim (cases_lt 0 (exit s e)) [ inl l ↦ inl (exit_names s e l) | inr l ↦ inr (exit_names t e (omega (arith, h, l))) ]
exit_names (burst bd s) e h = exit_names s e h

exit_one : (s : Tree) → NoRepeats s → (e : Event) → exit s e ≤ 1
exit_one (op b) n (Began a) = omega arith
exit_one (op b) n (Ended a) = cond_both (a.0 == b.0) _ _ (λ x. x ≤ 1) (λ _. omega arith) (λ _. omega arith)
exit_one (seq s t) n e = exit_one t n.1 e
exit_one (alt s t) n e = elim (cases_lt 0 (exit s e)) [
  | inl l ↦ omega (arith, exit_one s n.0 e, foreign_exit t e (λ k. n.2 (op_of e) (exit_names s e l) k))
  | inr l ↦ omega (arith, exit_one t n.1 e, l)
]
exit_one (burst bd s) n e = exit_one s n e

inn_flat : (s : Tree) → NoBraces s → (x y : List Event) → inn s x ≤ inn s (x ++ y)
inn_flat (op b) f x y = omega (arith, ins-append (op b) x y)
inn_flat (seq s t) f x y = inn_flat s f.0 x y
inn_flat (alt s t) f x y = omega (arith, inn_flat s f.0 x y, inn_flat t f.1 x y)
inn_flat (burst bd s) f x y = absurd f

nil_or : (w : List Event) → (w ≡ []) ⊎ (w ≢ [])
nil_or [] = inl refl
nil_or (e ∷ w) = inr (cons_nil e w)

module _ (bd : Bound) (s : Tree) (f : NoBraces s) (n : NoRepeats s) (ms : Meets s) where
  mix_whole : {w : List Event} → Mix (IsWord s) w → Mix (Solo s) w
  mix_whole nothing = nothing
  mix_whole (adding x y h some b g) = adding x y (ms.whole x h) some (mix_whole b) g

  mix_even : {w : List Event} → Mix (IsWord s) w → inn s w ≡ out s w
  mix_even nothing = inn_nil s ∙ sym (out_nil s)
  mix_even (adding x y {w} h some b g) = omega (arith, mix_even b, ms.entered x h, ms.left x h, inn_merge s f g, out_merge s f g)

  pub mix_balanced : {w : List Event} → Mix (IsWord s) w → Balanced s w
  mix_balanced nothing = Balanced_nil s
  mix_balanced (adding x y h some b g) = Balanced_merge s f g (ms.balanced x h) (mix_balanced b)

  -- no more was left than entered
  mix_left : {w : List Event} → Mix (Solo s) w → out s w ≤ inn s w
  mix_left {w} b = sane_out s f w (crowd_sane s f n (mix_crowd s f n b))

  -- where as much was left as entered, each execution is whole
  mix_done : {w : List Event} → Mix (Solo s) w → inn s w ≡ out s w → Mix (IsWord s) w
  mix_done nothing h = nothing
  mix_done (adding x y {w} r some b g) h = go (λ k. mix_done b k) (ms.stage x r)
    where
      go : (inn s y ≡ out s y → Mix (IsWord s) y) → Stage s x → Mix (IsWord s) w
      go rec (inl z) = absurd (some z)
      go rec (inr (inl z)) = absurd (omega (arith, h, z.1, z.2, mix_left b, inn_merge s f g, out_merge s f g))
      go rec (inr (inr z)) = adding x y z some (rec (omega (arith, h, ms.entered x z, ms.left x z, inn_merge s f g, out_merge s f g))) g

  mix_finish : {w : List Event} → Mix (Solo s) w → (z : List Event) × Mix (IsWord s) (w ++ z) × (inn s (w ++ z) ≡ inn s w)
  mix_finish nothing = ([], nothing, refl)
  mix_finish (adding x y {w} r some b g) = go (ms.finish x r) (mix_finish b)
    where
      entered : Stage s x → inn s x ≡ 1
      entered (inl z) = absurd (some z)
      entered (inr (inl z)) = z.1
      entered (inr (inr z)) = ms.entered x z

      go : IsFront (IsWord s) x → (z : List Event) × Mix (IsWord s) (y ++ z) × (inn s (y ++ z) ≡ inn s y) → (z : List Event) × Mix (IsWord s) (w ++ z) × (inn s (w ++ z) ≡ inn s w)
      go (u, hx) (z, by, same) = (u ++ z, adding (x ++ u) (y ++ z) hx (λ k. some (nil_parts x u k).0) by both, omega (arith, inn_merge s f both, inn_merge s f g, same, ms.entered _ hx, entered (ms.stage x r)))
        where
          one : Merge (x ++ u) y (w ++ u)
          one = merge_append x y w u g

          both : Merge (x ++ u) (y ++ z) (w ++ (u ++ z))
          both = subst (Merge (x ++ u) (y ++ z)) (append_assoc w u z) (merge_swap (merge_append y (x ++ u) (w ++ u) z (merge_swap one)))

  mix_count : {w : List Event} → Mix (IsWord s) w → count s 0 w ≡ 0
  mix_count b = omega (arith, mix_even b, crowd_count s f n (mix_crowd s f n (mix_whole b)))

  pub even_mix : {w : List Event} → Crowd s w → count s 0 w ≡ 0 → Mix (IsWord s) w
  even_mix {w} r h = mix_done (crowd_mix s f r) (omega (arith, crowd_count s f n r, h))

  pub shuffle_count : (w : List Event) → IsShuffle (IsWord s) w → count s 0 w ≡ 0
  shuffle_count w h = mix_count (labels_mix (IsWord s) w h)

  -- the braces are open, or were closed by the last event
  pub record Lasting (w : List Event) : Type 0 where
    pub some : w ≢ []
    pub crowd : Crowd s w
    pub opened : opens s 0 w ≡ 1
    pub state : ((0 < count s 0 w) × (closes s 0 w ≡ 0)) ⊎ ((count s 0 w ≡ 0) × (closes s 0 w ≡ 1))
    pub before : (x y : List Event) → w ≡ x ++ y → x ≢ [] → y ≢ [] → 0 < count s 0 x
    pub fits : (x y : List Event) → w ≡ x ++ y → Fits bd (count s 0 x)

  first_event : (e : Event) → Starts s e → BoundAdmits bd 0 → Lasting (e ∷ [])
  first_event e h room = record {
    some = cons_nil e [];
    crowd = more [] e idle (start_may s f [] e h tt) refl;
    opened = omega (arith, i);
    state = inl (omega (arith, i, o), omega (arith, c));
    before = alone_before;
    fits = alone_fits;
  }
    where
      alone_fits : (x y : List Event) → e ∷ [] ≡ x ++ y → Fits bd (count s 0 x)
      alone_fits x y q = elim (last_parts x y [] e (sym q)) [
        | inl p ↦ subst (λ u. Fits bd (count s 0 u)) (sym p.1) (room_fits bd 0 _ room (omega (arith, start_entry s n e h, start_exit s e h)))
        | inr p ↦ subst (λ u. Fits bd (count s 0 u)) (sym (nil_parts x p.0 (sym p.2)).0) (room_fits bd 0 _ room (omega arith))
      ]

      i : entry s e ≡ 1
      i = start_entry s n e h

      o : exit s e ≡ 0
      o = start_exit s e h

      c : ◌≡◌ {A = ℕ} (if 0 + entry s e - exit s e == 0 then exit s e else 0) 0
      c = cond_both (0 + entry s e - exit s e == 0) _ _ (λ x. x ≡ 0) (λ _. o) (λ _. refl)

      alone_before : (x y : List Event) → e ∷ [] ≡ x ++ y → x ≢ [] → y ≢ [] → 0 < count s 0 x
      alone_before x y q sx sy = elim (last_parts x y [] e (sym q)) [ inl p ↦ absurd (sy p.0) | inr p ↦ absurd (sx (nil_parts x p.0 (sym p.2)).0) ]

  next_event : (w : List Event) (e : Event) → Lasting w → 0 < count s 0 w → Crowd s (w ++ e ∷ []) → Fits bd (count s 0 (w ++ e ∷ [])) → Lasting (w ++ e ∷ [])
  next_event w e a l r fit = record {
    some = not_nil w e;
    crowd = r;
    opened = omega (arith, opens-append s 0 w (e ∷ []), a.opened, zero_in);
    state = state;
    before = before;
    fits = fits;
  }
    where
      fits : (x y : List Event) → w ++ e ∷ [] ≡ x ++ y → Fits bd (count s 0 x)
      fits x y q = elim (last_parts x y w e (sym q)) [
        | inl p ↦ subst (λ u. Fits bd (count s 0 u)) (sym p.1) fit
        | inr p ↦ a.fits x p.0 p.2
      ]

      c : ℕ
      c = count s 0 w

      now : count s 0 (w ++ e ∷ []) ≡ count s 0 w + entry s e - exit s e
      now = count-append s 0 w (e ∷ [])

      zero_in : ◌≡◌ {A = ℕ} (if count s 0 w == 0 then entry s e else 0) 0
      zero_in = cond-false _ _ _ (ne_eqb (count s 0 w) 0 (λ h. omega (arith, h, l)))

      shut : closes s 0 w ≡ 0
      shut = elim a.state [ inl h ↦ h.1 | inr h ↦ absurd (omega (arith, l, h.0)) ]

      state : ((0 < count s 0 (w ++ e ∷ [])) × (closes s 0 (w ++ e ∷ []) ≡ 0)) ⊎ ((count s 0 (w ++ e ∷ []) ≡ 0) × (closes s 0 (w ++ e ∷ []) ≡ 1))
      state = elim (cases_lt 0 (count s 0 w + entry s e - exit s e)) [
        | inl h ↦ inl (
          omega (arith, h, now),
          (let z : ◌≡◌ {A = ℕ} (if count s 0 w + entry s e - exit s e == 0 then exit s e else 0) 0 = cond-false _ _ _ (ne_eqb (count s 0 w + entry s e - exit s e) 0 (λ k. omega (arith, h, k))) in
              omega (arith, closes-append s 0 w (e ∷ []), shut, z)),
        )
        | inr h ↦ inr (
          omega (arith, h, now),
          (let z : (if count s 0 w + entry s e - exit s e == 0 then exit s e else 0) ≡ exit s e = cond-true _ _ _ (eq-eqb (count s 0 w + entry s e - exit s e) 0 (omega (arith, h))) in
              omega (arith, closes-append s 0 w (e ∷ []), shut, z, exit_one s n e, h, l)),
        )
      ]

      before : (x y : List Event) → w ++ e ∷ [] ≡ x ++ y → x ≢ [] → y ≢ [] → 0 < count s 0 x
      before x y q sx sy = elim (last_parts x y w e (sym q)) [
        | inl p ↦ absurd (sy p.0)
        | inr p ↦ elim (nil_or p.0) [
          | inl z ↦ let g : w ≡ x = p.2 ∙ ap (λ u. x ++ u) z ∙ append-nil x in subst (λ u. 0 < count s 0 u) g l
          | inr z ↦ a.before x p.0 p.2 sx z
        ]
      ]

  -- an event that begins nothing doesn't raise the count
  fits_stay : (w : List Event) (e : Event) → Fits bd (count s 0 w) → entry s e ≡ 0 → Fits bd (count s 0 (w ++ e ∷ []))
  fits_stay w e k z = fits_less bd _ _ k (omega (arith, count-append s 0 w (e ∷ []), z))

  fits_start : (w : List Event) (e : Event) → BoundAdmits bd (count s 0 w) → Starts s e → Fits bd (count s 0 (w ++ e ∷ []))
  fits_start w e k h = room_fits bd _ _ k (omega (arith, count-append s 0 w (e ∷ []), start_entry s n e h))

  burst_step : (w v : List Event) (e : Event) → v ≡ w ++ e ∷ [] → May s w e (((w ≡ []) ⊎ (0 < count s 0 w)) × BoundAdmits bd (count s 0 w)) → (w ≡ []) ⊎ Lasting w → Lasting v
  burst_step w v e h m (inl z) = go (May_split s w e m)
    where
      go : (May s w e ⊥ ⊎ ((((w ≡ []) ⊎ (0 < count s 0 w)) × BoundAdmits bd (count s 0 w)) × Starts s e)) → Lasting v
      go (inl k) = absurd (balanced_stuck s w e (subst (Balanced s) (sym z) (Balanced_nil s)) k)
      go (inr ((x, r), k)) = subst Lasting (sym (h ∙ ap (λ u. u ++ e ∷ []) z)) (first_event e k (subst (λ u. BoundAdmits bd (count s 0 u)) z r))
  burst_step w v e h m (inr a) = elim a.state [
    | inl k ↦ subst Lasting (sym h) (next_event w e a k.0 (more w e a.crowd (May_weaken s w e (λ _. tt) m) refl) (fit (May_split s w e m)))
    | inr k ↦ absurd (balanced_stuck s w e (mix_balanced (even_mix a.crowd k.0)) (May_weaken s w e (λ (x : ((w ≡ []) ⊎ (0 < count s 0 w)) × BoundAdmits bd (count s 0 w)). no k.0 x.0) m))
  ]
    where
      no : count s 0 w ≡ 0 → (w ≡ []) ⊎ (0 < count s 0 w) → ⊥
      no z (inl x) = a.some x
      no z (inr l) = omega (arith, l, z)

      fit : (May s w e ⊥ ⊎ ((((w ≡ []) ⊎ (0 < count s 0 w)) × BoundAdmits bd (count s 0 w)) × Starts s e)) → Fits bd (count s 0 (w ++ e ∷ []))
      fit (inl k) = fits_stay w e (a.fits w [] (sym (append-nil w))) (stay_entry s f n w e k)
      fit (inr ((x, r), k)) = fits_start w e r k

  pub lasting : {w : List Event} → Solo (burst bd s) w → (w ≡ []) ⊎ Lasting w
  lasting alone = inl refl
  lasting (on w e {v = v} r m h) = inr (burst_step w v e h m (lasting r))

  pub closed_word : (w : List Event) → Lasting w → count s 0 w ≡ 0 → IsWord (burst bd s) w
  closed_word w a z = record {
    shuffle = go (mix_labels (IsWord s) (even_mix a.crowd z));
    some = a.some;
    first = λ x y q sx sy h. let l = a.before x y q sx sy in omega (arith, l, shuffle_count x h);
  }
    where
      go : IsShuffle (IsWord s) w → (ls : List (ℕ × Event)) × (events_of ls ≡ w) × EachLabel (IsWord s) ls × WithinBound bd ls
      go (ls, e, each) = (ls, e, each, within s f n ms bd w a.fits ls e each)

  -- goes on, beginning nothing, until the braces close
  scan : (z w : List Event) → Solo (burst bd s) w → Lasting w → 0 < count s 0 w → Crowd s (w ++ z) → count s 0 (w ++ z) ≡ 0 → inn s (w ++ z) ≤ inn s w → IsFront (IsWord (burst bd s)) w
  scan [] w r a l c h still = absurd (omega (arith, l, h, ap (count s 0) (append-nil w)))
  scan (e ∷ z) w r a l c h still = go (λ p. scan z (w ++ e ∷ []) r' a' p (subst (Crowd s) split c) (sym (ap (count s 0) split) ∙ h) (omega (arith, still, ap (inn s) split, inn_more s f w e))) a'.state
    where
      split : w ++ (e ∷ z) ≡ (w ++ e ∷ []) ++ z
      split = sym (append_assoc w (e ∷ []) z)

      c' : Crowd s (w ++ e ∷ [])
      c' = crowd_front s c (w ++ e ∷ []) z split

      none : entry s e ≡ 0
      none = omega (arith, still, ap (inn s) split, inn_flat s f (w ++ e ∷ []) z, inn_more s f w e)

      m : May s w e ⊥
      m = elim (May_split s w e (crowd_last s c' w e refl).1) [ inl k ↦ k | inr k ↦ absurd (omega (arith, none, start_entry s n e k.1)) ]

      r' : Solo (burst bd s) (w ++ e ∷ [])
      r' = on w e r (May_weaken s w e absurd m) refl

      a' : Lasting (w ++ e ∷ [])
      a' = next_event w e a l c' (fits_stay w e (a.fits w [] (sym (append-nil w))) none)

      go : (0 < count s 0 (w ++ e ∷ []) → IsFront (IsWord (burst bd s)) (w ++ e ∷ [])) → ((0 < count s 0 (w ++ e ∷ [])) × (closes s 0 (w ++ e ∷ []) ≡ 0)) ⊎ ((count s 0 (w ++ e ∷ []) ≡ 0) × (closes s 0 (w ++ e ∷ []) ≡ 1)) → IsFront (IsWord (burst bd s)) w
      go rec (inl k) = let (u, hu) = rec k.0 in (e ∷ u, subst (IsWord (burst bd s)) (append_assoc w (e ∷ []) u) hu)
      go rec (inr k) = (e ∷ [], closed_word (w ++ e ∷ []) a' k.0)

  pub from_nothing : BoundAdmits bd 0 → IsFront (IsWord (burst bd s)) []
  from_nothing room = go one.0 one.1
    where
      one : IsFront (IsWord s) []
      one = ms.finish [] alone

      go : (w : List Event) → IsWord s w → IsFront (IsWord (burst bd s)) []
      go [] h = absurd (word_some s ms [] h refl)
      go (e ∷ z) h = elim (May_split s [] e m) [
        | inl k ↦ absurd (May_nothing s e k)
        | inr k ↦ let (u, hu) = scan z (e ∷ []) (on [] e alone (start_may s f [] e k.1 (inl refl, room)) refl) (first_event e k.1 room) (now k.1) c (mix_count whole) (omega (arith, ms.entered (e ∷ z) h, inn_more s f [] e, start_entry s n e k.1)) in (e ∷ u, hu)
      ]
        where
          whole : Mix (IsWord s) (e ∷ z)
          whole = adding (e ∷ z) [] h (cons_nil e z) nothing right_nil
            where
              right_nil : Merge (e ∷ z) [] (e ∷ z)
              right_nil = merge_append [] [] [] (e ∷ z) empty

          c : Crowd s (e ∷ z)
          c = mix_crowd s f n (mix_whole whole)

          m : May s [] e (Unit {0})
          m = (crowd_last s (crowd_front s c (e ∷ []) z refl) [] e refl).1

          now : Starts s e → 0 < count s 0 (e ∷ [])
          now k = omega (arith, start_entry s n e k, start_exit s e k)

  pub burst_finish : BoundAdmits bd 0 → (w : List Event) → Solo (burst bd s) w → (w ≡ []) ⊎ Lasting w → IsFront (IsWord (burst bd s)) w
  burst_finish room w r (inl z) = subst (IsFront (IsWord (burst bd s))) (sym z) (from_nothing room)
  burst_finish room w r (inr a) = go a.state (mix_finish (crowd_mix s f a.crowd))
    where
      go : ((0 < count s 0 w) × (closes s 0 w ≡ 0)) ⊎ ((count s 0 w ≡ 0) × (closes s 0 w ≡ 1)) → (z : List Event) × Mix (IsWord s) (w ++ z) × (inn s (w ++ z) ≡ inn s w) → IsFront (IsWord (burst bd s)) w
      go (inl k) (z, b, same) = scan z w r a k.0 (mix_crowd s f n (mix_whole b)) (mix_count b) (omega (arith, same))
      go (inr k) q = ([], subst (IsWord (burst bd s)) (sym (append-nil w)) (closed_word w a k.0))

  crowd_burst : {v : List Event} → Crowd s v → ((x y : List Event) → v ≡ x ++ y → x ≢ [] → y ≢ [] → 0 < count s 0 x) → ((x y : List Event) → v ≡ x ++ y → Fits bd (count s 0 x)) → Solo (burst bd s) v
  crowd_burst idle before fits = alone
  crowd_burst (more w e {v = v} r m h) before fits = on w e (crowd_burst r shorter fit) (go (May_split s w e m)) h
    where
      shorter : (x y : List Event) → w ≡ x ++ y → x ≢ [] → y ≢ [] → 0 < count s 0 x
      shorter x y q sx sy = before x (y ++ e ∷ []) (h ∙ ap (λ u. u ++ e ∷ []) q ∙ append_assoc x y (e ∷ [])) sx (not_nil y e)

      fit : (x y : List Event) → w ≡ x ++ y → Fits bd (count s 0 x)
      fit x y q = fits x (y ++ e ∷ []) (h ∙ ap (λ u. u ++ e ∷ []) q ∙ append_assoc x y (e ∷ []))

      is_open : (w ≡ []) ⊎ (0 < count s 0 w)
      is_open = elim (nil_or w) [ inl z ↦ inl z | inr z ↦ inr (before w (e ∷ []) h z (cons_nil e [])) ]

      go : (May s w e ⊥ ⊎ (Unit {0} × Starts s e)) → May s w e (((w ≡ []) ⊎ (0 < count s 0 w)) × BoundAdmits bd (count s 0 w))
      go (inl k) = May_weaken s w e absurd k
      go (inr k) = start_may s f w e k.1 (is_open, fits_room bd _ _ (fits v [] (sym (append-nil v))) (omega (arith, ap (count s 0) h, count-append s 0 w (e ∷ []), start_entry s n e k.1, start_exit s e k.1)))

  forget : {w : List Event} → IsWord (burst bd s) w → IsShuffle (IsWord s) w
  forget h = (h.shuffle.0, h.shuffle.1, h.shuffle.2)

  burst_whole : (w : List Event) → IsWord (burst bd s) w → Solo (burst bd s) w
  burst_whole w h = crowd_burst c before (fits_within s f n ms bd w h.shuffle.0 h.shuffle.1 h.shuffle.2 h.shuffle.3)
    where
      c : Crowd s w
      c = mix_crowd s f n (mix_whole (labels_mix (IsWord s) w (forget h)))

      before : (x y : List Event) → w ≡ x ++ y → x ≢ [] → y ≢ [] → 0 < count s 0 x
      before x y q sx sy = elim (cases_lt 0 (count s 0 x)) [
        | inl l ↦ l
        | inr l ↦ absurd (h.first x y q sx sy (mix_labels (IsWord s) (even_mix (crowd_front s c x y q) (omega (arith, l)))))
      ]

  pub burst_lasting : (w : List Event) → IsWord (burst bd s) w → Lasting w × (count s 0 w ≡ 0) × (closes s 0 w ≡ 1)
  burst_lasting w h = go (lasting (burst_whole w h))
    where
      z : count s 0 w ≡ 0
      z = shuffle_count w (forget h)

      go : (w ≡ []) ⊎ Lasting w → Lasting w × (count s 0 w ≡ 0) × (closes s 0 w ≡ 1)
      go (inl k) = absurd (h.some k)
      go (inr a) = elim a.state [ inl k ↦ absurd (omega (arith, k.0, z)) | inr k ↦ (a, z, k.1) ]

  pub burst_meets : BoundAdmits bd 0 → Meets (burst bd s)
  burst_meets room = record {
    whole = burst_whole;
    balanced = λ w h. let b = burst_lasting w h in (mix_balanced (even_mix b.0.crowd b.1), b.1);
    entered = λ w h. (burst_lasting w h).0.opened;
    left = λ w h. (burst_lasting w h).2;
    stage = λ w r. stage w (lasting r);
    finish = λ w r. burst_finish room w r (lasting r);
    begin = λ e k. start_may s f [] e k (inl tt, room);
  }
    where
      stage : (w : List Event) → (w ≡ []) ⊎ Lasting w → Stage (burst bd s) w
      stage w (inl z) = inl z
      stage w (inr a) = elim a.state [ inl k ↦ inr (inl (a.some, a.opened, k.1)) | inr k ↦ inr (inr (closed_word w a k.0)) ]
