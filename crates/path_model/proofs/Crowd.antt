-- Overlapping executions of a tree without braces, merged event by event.
use Rattle.std.proofs.Common.{◌≡◌, ◌≢◌, ◌⊎◌, ◌==◌, ◌<◌, ◌≤◌, ◌+◌, List, [], ◌∷◌, ◌++◌, refl, sym, ap, ◌∙◌, subst, inl, inr, arith}
use Rattle.std.proofs.lemmas.List.{append-nil, append_assoc}
use Rattle.std.proofs.lemmas.Bool.{eq-eqb, cond-true, cond_both}
use Rattle.path_model.specs.declared.ids.OpId.{OpId}
use Rattle.path_model.specs.declared.history.Event.{Event}
use Rattle.path_model.specs.declared.history.Event.TheVariants.{Began, Ended}
use Rattle.path_model.specs.Trees.{Tree, op, seq, alt, burst, Names, NoRepeats, NoBraces}
use Rattle.path_model.specs.Histories.{op_of}
use Rattle.path_model.proofs.Lists.{not_nil, last_parts, nil_parts, cons_nil, last_same}
use Rattle.path_model.proofs.Counts.{entry, exit, ins, outs, count, inn, out, May, ins-append, outs-append, count-append, May-names, Foreign, foreign_entry}
use Rattle.path_model.proofs.Same.{Balanced, May_weaken, inn_nil, out_nil, foreign_left, inn_before, out_before, Starts, start_may, May_split, May_nothing}
use Rattle.std.proofs.lemmas.Bool.{cases_lt}
use Rattle.path_model.proofs.Solo.{Solo, alone, on}

-- a list is two lists, merged
pub data Merge : List Event → List Event → List Event → Type 0 where
  empty : Merge [] [] []
  first : (x y w : List Event) (e : Event) {v u : List Event} → Merge x y w → v ≡ x ++ e ∷ [] → u ≡ w ++ e ∷ [] → Merge v y u
  second : (x y w : List Event) (e : Event) {v u : List Event} → Merge x y w → v ≡ y ++ e ∷ [] → u ≡ w ++ e ∷ [] → Merge x v u

pub merge_swap : {x y w : List Event} → Merge x y w → Merge y x w
merge_swap empty = empty
merge_swap (first x y w e m h k) = second y x w e (merge_swap m) h k
merge_swap (second x y w e m h k) = first y x w e (merge_swap m) h k

pub merge_on : (u w : List Event) → Merge [] u u → Merge [] (u ++ w) (u ++ w)
merge_on u [] m = subst (λ v. Merge [] v v) (sym (append-nil u)) m
merge_on u (e ∷ w) m = subst (λ v. Merge [] v v) (append_assoc u (e ∷ []) w) (merge_on (u ++ e ∷ []) w (second [] u u e m refl refl))

pub merge_right : (w : List Event) → Merge [] w w
merge_right w = merge_on [] w empty

pub merge_append : (x y w z : List Event) → Merge x y w → Merge (x ++ z) y (w ++ z)
merge_append x y w [] m = subst (λ v. Merge v y (w ++ [])) (sym (append-nil x)) (subst (λ v. Merge x y v) (sym (append-nil w)) m)
merge_append x y w (e ∷ z) m =
    let r = merge_append (x ++ e ∷ []) y (w ++ e ∷ []) z (first x y w e m refl refl) in
    subst (λ v. Merge v y (w ++ e ∷ z)) (append_assoc x (e ∷ []) z) (subst (λ v. Merge ((x ++ e ∷ []) ++ z) y v) (append_assoc w (e ∷ []) z) r)

pub ins_merge : (s : Tree) {x y w : List Event} → Merge x y w → ins s w ≡ ins s x + ins s y
ins_merge s empty = omega arith
ins_merge s (first x y w e m h k) =
    omega (arith, ins_merge s m, ap (ins s) h, ap (ins s) k, ins-append s x (e ∷ []), ins-append s w (e ∷ []))
ins_merge s (second x y w e m h k) =
    omega (arith, ins_merge s m, ap (ins s) h, ap (ins s) k, ins-append s y (e ∷ []), ins-append s w (e ∷ []))

pub outs_merge : (s : Tree) {x y w : List Event} → Merge x y w → outs s w ≡ outs s x + outs s y
outs_merge s empty = omega arith
outs_merge s (first x y w e m h k) =
    omega (arith, outs_merge s m, ap (outs s) h, ap (outs s) k, outs-append s x (e ∷ []), outs-append s w (e ∷ []))
outs_merge s (second x y w e m h k) =
    omega (arith, outs_merge s m, ap (outs s) h, ap (outs s) k, outs-append s y (e ∷ []), outs-append s w (e ∷ []))

pub inn_merge : (s : Tree) → NoBraces s → {x y w : List Event} → Merge x y w → inn s w ≡ inn s x + inn s y
inn_merge (op b) f m = ins_merge (op b) m
inn_merge (seq s t) f m = inn_merge s f.0 m
inn_merge (alt s t) f {x} {y} {w} m = omega (arith, inn_merge s f.0 m, inn_merge t f.1 m)
inn_merge (burst bd s) f m = absurd f

pub out_merge : (s : Tree) → NoBraces s → {x y w : List Event} → Merge x y w → out s w ≡ out s x + out s y
out_merge (op b) f m = outs_merge (op b) m
out_merge (seq s t) f m = out_merge t f.1 m
out_merge (alt s t) f {x} {y} {w} m = omega (arith, out_merge s f.0 m, out_merge t f.1 m)
out_merge (burst bd s) f m = absurd f

pub inn_more : (s : Tree) → NoBraces s → (w : List Event) (e : Event) → inn s (w ++ e ∷ []) ≡ inn s w + entry s e
inn_more (op b) f w e = omega (arith, ins-append (op b) w (e ∷ []))
inn_more (seq s t) f w e = inn_more s f.0 w e
inn_more (alt s t) f w e = omega (arith, inn_more s f.0 w e, inn_more t f.1 w e)
inn_more (burst bd s) f w e = absurd f

pub out_more : (s : Tree) → NoBraces s → (w : List Event) (e : Event) → out s (w ++ e ∷ []) ≡ out s w + exit s e
out_more (op b) f w e = omega (arith, outs-append (op b) w (e ∷ []))
out_more (seq s t) f w e = out_more t f.1 w e
out_more (alt s t) f w e = omega (arith, out_more s f.0 w e, out_more t f.1 w e)
out_more (burst bd s) f w e = absurd f

-- no semaphore was taken more often than it was given, and no operation ended more often than it began
abbrev pub Sane : Tree → List Event → Type 0
Sane (op b) w = outs (op b) w ≤ ins (op b) w
Sane (seq s t) w = Sane s w × Sane t w × (inn t w ≤ out s w)
Sane (alt s t) w = Sane s w × Sane t w
Sane (burst bd s) w = Sane s w

pub sane_out : (s : Tree) → NoBraces s → (w : List Event) → Sane s w → out s w ≤ inn s w
sane_out (op b) f w h = h
sane_out (seq s t) f w h = omega (arith, sane_out s f.0 w h.0, sane_out t f.1 w h.1, h.2)
sane_out (alt s t) f w h = omega (arith, sane_out s f.0 w h.0, sane_out t f.1 w h.1)
sane_out (burst bd s) f w h = absurd f

pub sane_nil : (s : Tree) → Sane s []
sane_nil (op b) = omega arith
sane_nil (seq s t) = (sane_nil s, sane_nil t, omega (arith, inn_nil t, out_nil s))
sane_nil (alt s t) = (sane_nil s, sane_nil t)
sane_nil (burst bd s) = sane_nil s

pub sane_foreign : (s : Tree) (w u : List Event) → Foreign s u → Sane s w → Sane s (w ++ u)
sane_foreign (op b) w u f h = omega (arith, inn_before (op b) w u f, out_before (op b) w u f, h)
sane_foreign (seq s t) w u f h =
    let fs = foreign_left s (seq s t) u (λ a. inl) f in
    let ft = foreign_left t (seq s t) u (λ a. inr) f in
    (sane_foreign s w u fs h.0, sane_foreign t w u ft h.1, omega (arith, inn_before t w u ft, out_before s w u fs, h.2))
sane_foreign (alt s t) w u f h =
    (sane_foreign s w u (foreign_left s (alt s t) u (λ a. inl) f) h.0, sane_foreign t w u (foreign_left t (alt s t) u (λ a. inr) f) h.1)
sane_foreign (burst bd s) w u f h = sane_foreign s w u (foreign_left s (burst bd s) u (λ a n. n) f) h

-- what follows without an entry doesn't begin the tree
pub stay_entry : (s : Tree) → NoBraces s → NoRepeats s → (w : List Event) (e : Event) → May s w e ⊥ → entry s e ≡ 0
stay_entry (op b) f n w (Began a) m = absurd m.1
stay_entry (op b) f n w (Ended a) m = refl
stay_entry (seq s t) f n w e (inl m) = stay_entry s f.0 n.0 w e m
stay_entry (seq s t) f n w e (inr m) = foreign_entry s e (λ k. n.2 (op_of e) k (May-names t w e _ m))
stay_entry (alt s t) f n w e (inl m) = omega (arith, stay_entry s f.0 n.0 w e m, foreign_entry t e (λ k. n.2 (op_of e) (May-names s w e _ m) k))
stay_entry (alt s t) f n w e (inr m) = omega (arith, stay_entry t f.1 n.1 w e m, foreign_entry s e (λ k. n.2 (op_of e) k (May-names t w e _ m)))
stay_entry (burst bd s) f n w e m = absurd f

pub starts_names : (s : Tree) (e : Event) → Starts s e → Names s (op_of e)
starts_names (op b) (Began a) h = h
starts_names (op b) (Ended a) h = absurd h
starts_names (seq s t) e h = inl (starts_names s e h)
starts_names (alt s t) e (inl h) = inl (starts_names s e h)
starts_names (alt s t) e (inr h) = inr (starts_names t e h)
starts_names (burst bd s) e h = starts_names s e h

pub start_entry : (s : Tree) → NoRepeats s → (e : Event) → Starts s e → entry s e ≡ 1
start_entry (op b) n (Began a) h = cond-true _ _ _ (eq-eqb a.0 b.0 (ap (λ x. x.0) h))
start_entry (op b) n (Ended a) h = absurd h
start_entry (seq s t) n e h = start_entry s n.0 e h
start_entry (alt s t) n e (inl h) = omega (arith, start_entry s n.0 e h, foreign_entry t e (λ k. n.2 (op_of e) (starts_names s e h) k))
start_entry (alt s t) n e (inr h) = omega (arith, start_entry t n.1 e h, foreign_entry s e (λ k. n.2 (op_of e) k (starts_names t e h)))
start_entry (burst bd s) n e h = start_entry s n e h

pub began_exit : (s : Tree) (a : OpId) → exit s (Began a) ≡ 0
began_exit (op b) a = refl
began_exit (seq s t) a = began_exit t a
began_exit (alt s t) a = omega (arith, began_exit s a, began_exit t a)
began_exit (burst bd s) a = began_exit s a

pub ended_not : (s : Tree) (a : OpId) → Starts s (Ended a) → ⊥
ended_not (op b) a h = h
ended_not (seq s t) a h = ended_not s a h
ended_not (alt s t) a (inl h) = ended_not s a h
ended_not (alt s t) a (inr h) = ended_not t a h
ended_not (burst bd s) a h = ended_not s a h

pub start_exit : (s : Tree) (e : Event) → Starts s e → exit s e ≡ 0
start_exit s (Began a) h = began_exit s a
start_exit s (Ended a) h = absurd (ended_not s a h)

exit_op : (b : OpId) (e : Event) → exit (op b) e ≤ 1
exit_op b (Began a) = omega arith
exit_op b (Ended a) = cond_both (a.0 == b.0) _ _ (λ x. x ≤ 1) (λ _. omega arith) (λ _. omega arith)

pub sane_step : (s : Tree) → NoBraces s → NoRepeats s → (w : List Event) (e : Event) (p : Type 0) → Sane s w → May s w e p → Sane s (w ++ e ∷ [])
sane_step (op b) f n w (Began a) p h m = omega (arith, ins-append (op b) w (Began a ∷ []), outs-append (op b) w (Began a ∷ []), h)
sane_step (op b) f n w (Ended a) p h m = omega (arith, ins-append (op b) w (Ended a ∷ []), outs-append (op b) w (Ended a ∷ []), m.1, exit_op b (Ended a))
sane_step (seq s t) f n w e p h (inl m) =
    let away : Foreign t (e ∷ []) = (λ k. n.2 (op_of e) (May-names s w e _ m) k, tt) in
    (sane_step s f.0 n.0 w e _ h.0 m, sane_foreign t w (e ∷ []) away h.1, omega (arith, inn_before t w (e ∷ []) away, out_more s f.0 w e, h.2))
sane_step (seq s t) f n w e p h (inr m) =
    let away : Foreign s (e ∷ []) = (λ k. n.2 (op_of e) k (May-names t w e _ m), tt) in
    (sane_foreign s w (e ∷ []) away h.0, sane_step t f.1 n.1 w e _ h.1 m, go away (May_split t w e m))
  where
    go : Foreign s (e ∷ []) → (May t w e ⊥ ⊎ ((inn t w < out s w) × Starts t e)) → inn t (w ++ e ∷ []) ≤ out s (w ++ e ∷ [])
    go away (inl k) = omega (arith, inn_more t f.1 w e, out_before s w (e ∷ []) away, stay_entry t f.1 n.1 w e k, h.2)
    go away (inr k) = omega (arith, inn_more t f.1 w e, out_before s w (e ∷ []) away, start_entry t n.1 e k.1, k.0)
sane_step (alt s t) f n w e p h (inl m) = (sane_step s f.0 n.0 w e _ h.0 m, sane_foreign t w (e ∷ []) (λ k. n.2 (op_of e) (May-names s w e _ m) k, tt) h.1)
sane_step (alt s t) f n w e p h (inr m) = (sane_foreign s w (e ∷ []) (λ k. n.2 (op_of e) k (May-names t w e _ m), tt) h.0, sane_step t f.1 n.1 w e _ h.1 m)
sane_step (burst bd s) f n w e p h m = absurd f

-- overlapping executions so far
pub data Crowd (s : Tree) : List Event → Type 0 where
  idle : Crowd s []
  more : (w : List Event) (e : Event) {v : List Event} → Crowd s w → May s w e (Unit {0}) → v ≡ w ++ e ∷ [] → Crowd s v

pub crowd_front : (s : Tree) {v : List Event} → Crowd s v → (x y : List Event) → v ≡ x ++ y → Crowd s x
crowd_front s idle x y h = subst (Crowd s) (sym (nil_parts x y (sym h)).0) idle
crowd_front s (more w e r m h) x y k =
    elim (last_parts x y w e (sym k ∙ h)) [ inl p ↦ more w e r m p.1 | inr p ↦ crowd_front s r x p.0 p.2 ]

pub crowd_sane : (s : Tree) → NoBraces s → NoRepeats s → {w : List Event} → Crowd s w → Sane s w
crowd_sane s f n idle = sane_nil s
crowd_sane s f n (more w e r m h) = subst (Sane s) (sym h) (sane_step s f n w e _ (crowd_sane s f n r) m)

pub crowd_count : (s : Tree) → NoBraces s → NoRepeats s → {w : List Event} → Crowd s w → count s 0 w + out s w ≡ inn s w
crowd_count s f n idle = omega (arith, inn_nil s, out_nil s)
crowd_count s f n {w = v} (more w e r m h) =
    omega (arith, crowd_count s f n r, ap (count s 0) h, ap (inn s) h, ap (out s) h, count-append s 0 w (e ∷ []), inn_more s f w e, out_more s f w e, sane_out s f v (crowd_sane s f n (more w e r m h)))

pub solo_crowd : (s : Tree) {w : List Event} → Solo s w → Crowd s w
solo_crowd s alone = idle
solo_crowd s (on w e r m h) = more w e (solo_crowd s r) (May_weaken s w e (λ _. tt) m) h

pub solo_last : (s : Tree) {v : List Event} → Solo s v → (x : List Event) (e : Event) → v ≡ x ++ e ∷ [] → Solo s x × May s x e (x ≡ [])
solo_last s alone x e h = absurd (not_nil x e (sym h))
solo_last s (on w d r m h) x e k =
    let q = last_same w x d e (sym h ∙ k) in
    let r' = subst (Solo s) q.0 r in
    let m' = subst (λ u. May s u d (u ≡ [])) q.0 m in
    (r', subst (λ g. May s x g (x ≡ [])) q.1 m')

pub crowd_last : (s : Tree) {v : List Event} → Crowd s v → (x : List Event) (e : Event) → v ≡ x ++ e ∷ [] → Crowd s x × May s x e (Unit {0})
crowd_last s idle x e h = absurd (not_nil x e (sym h))
crowd_last s (more w d r m h) x e k =
    let q = last_same w x d e (sym h ∙ k) in
    let r' = subst (Crowd s) q.0 r in
    let m' = subst (λ u. May s u d (Unit {0})) q.0 m in
    (r', subst (λ g. May s x g (Unit {0})) q.1 m')

-- what may follow a merged list, without an entry, may follow one of the two
pub May_unmerge : (s : Tree) → NoBraces s → {x y w : List Event} (e : Event) {p q r : Type 0} → (p → q ⊎ r) → Merge x y w → May s w e p → May s x e q ⊎ May s y e r
May_unmerge (op b) f (Began a) g m k = elim (g k.1) [ inl h ↦ inl (k.0, h) | inr h ↦ inr (k.0, h) ]
May_unmerge (op b) f {x} {y} {w} (Ended a) g m k = elim (cases_lt (outs (op b) x) (ins (op b) x)) [
  | inl h ↦ inl (k.0, h)
  | inr h ↦ inr (k.0, omega (arith, h, k.1, ins_merge (op b) m, outs_merge (op b) m))
]
May_unmerge (seq s t) f e g m (inl k) = elim (May_unmerge s f.0 e g m k) [ inl h ↦ inl (inl h) | inr h ↦ inr (inl h) ]
May_unmerge (seq s t) f {x} {y} {w} e g m (inr k) = elim (May_unmerge t f.1 e go m k) [ inl h ↦ inl (inr h) | inr h ↦ inr (inr h) ]
  where
    go : inn t w < out s w → (inn t x < out s x) ⊎ (inn t y < out s y)
    go l = elim (cases_lt (inn t x) (out s x)) [ inl h ↦ inl h | inr h ↦ inr (omega (arith, h, l, inn_merge t f.1 m, out_merge s f.0 m)) ]
May_unmerge (alt s t) f e g m (inl k) = elim (May_unmerge s f.0 e g m k) [ inl h ↦ inl (inl h) | inr h ↦ inr (inl h) ]
May_unmerge (alt s t) f e g m (inr k) = elim (May_unmerge t f.1 e g m k) [ inl h ↦ inl (inr h) | inr h ↦ inr (inr h) ]
May_unmerge (burst bd s) f e g m k = absurd f

-- what may follow one of the two may follow the merged list
pub May_merge : (s : Tree) → NoBraces s → {x y w : List Event} (e : Event) {p q : Type 0} → (p → q) → Merge x y w → Sane s y → May s x e p → May s w e q
May_merge (op b) f (Began a) g m h k = (k.0, g k.1)
May_merge (op b) f (Ended a) g m h k = (k.0, omega (arith, h, k.1, ins_merge (op b) m, outs_merge (op b) m))
May_merge (seq s t) f e g m h (inl k) = inl (May_merge s f.0 e g m h.0 k)
May_merge (seq s t) f {x} {y} {w} e g m h (inr k) = inr (May_merge t f.1 e (λ (l : inn t x < out s x). omega (arith, l, h.2, inn_merge t f.1 m, out_merge s f.0 m)) m h.1 k)
May_merge (alt s t) f e g m h (inl k) = inl (May_merge s f.0 e g m h.0 k)
May_merge (alt s t) f e g m h (inr k) = inr (May_merge t f.1 e g m h.1 k)
May_merge (burst bd s) f e g m h k = absurd f

pub Balanced_merge : (s : Tree) → NoBraces s → {x y w : List Event} → Merge x y w → Balanced s x → Balanced s y → Balanced s w
Balanced_merge (op b) f m h k = omega (arith, ins_merge (op b) m, outs_merge (op b) m, h, k)
Balanced_merge (seq s t) f m h k =
    (Balanced_merge s f.0 m h.0 k.0, Balanced_merge t f.1 m h.1 k.1, omega (arith, inn_merge t f.1 m, out_merge s f.0 m, h.2, k.2))
Balanced_merge (alt s t) f m h k = (Balanced_merge s f.0 m h.0 k.0, Balanced_merge t f.1 m h.1 k.1)
Balanced_merge (burst bd s) f m h k = absurd f

-- a merge of any number of lists of a kind, none of them empty
pub data Mix (L : List Event → Type 0) : List Event → Type 0 where
  nothing : Mix L []
  adding : (x y : List Event) {w : List Event} → L x → x ≢ [] → Mix L y → Merge x y w → Mix L w

mix_step : (s : Tree) → NoBraces s → {w : List Event} (e : Event) → Mix (Solo s) w → May s w e ⊥ → Mix (Solo s) (w ++ e ∷ [])
mix_step s f e nothing m = absurd (May_nothing s e m)
mix_step s f e (adding x y {w} r some b g) m = go (λ k. mix_step s f e b k) (May_unmerge s f e inl g m)
  where
    go : (May s y e ⊥ → Mix (Solo s) (y ++ e ∷ [])) → May s x e ⊥ ⊎ May s y e ⊥ → Mix (Solo s) (w ++ e ∷ [])
    go rec (inl k) = adding (x ++ e ∷ []) y (on x e r (May_weaken s x e absurd k) refl) (not_nil x e) b (first x y w e g refl refl)
    go rec (inr k) = adding x (y ++ e ∷ []) r some (rec k) (second x y w e g refl refl)

pub crowd_mix : (s : Tree) → NoBraces s → {w : List Event} → Crowd s w → Mix (Solo s) w
crowd_mix s f idle = nothing
crowd_mix s f (more w e r m h) = subst (Mix (Solo s)) (sym h) (go (crowd_mix s f r) (May_split s w e m))
  where
    go : Mix (Solo s) w → (May s w e ⊥ ⊎ (Unit {0} × Starts s e)) → Mix (Solo s) (w ++ e ∷ [])
    go b (inl k) = mix_step s f e b k
    go b (inr k) = adding (e ∷ []) w (on [] e alone (start_may s f [] e k.1 tt_nil) refl) (cons_nil e []) b (first [] w w e (merge_right w) refl refl)
      where
        tt_nil : ◌≡◌ {A = List Event} [] []
        tt_nil = refl

crowd_merge : (s : Tree) → NoBraces s → NoRepeats s → {x y w : List Event} → Merge x y w → Crowd s x → Crowd s y → Crowd s w
crowd_merge s f n empty p q = idle
crowd_merge s f n (first x y w e m h k) p q =
    let a = crowd_last s p x e h in
    more w e (crowd_merge s f n m a.0 q) (May_merge s f e (λ u. u) m (crowd_sane s f n q) a.1) k
crowd_merge s f n (second x y w e m h k) p q =
    let a = crowd_last s q y e h in
    more w e (crowd_merge s f n m p a.0) (May_merge s f e (λ u. u) (merge_swap m) (crowd_sane s f n p) a.1) k

pub mix_crowd : (s : Tree) → NoBraces s → NoRepeats s → {w : List Event} → Mix (Solo s) w → Crowd s w
mix_crowd s f n nothing = idle
mix_crowd s f n (adding x y r some b g) = crowd_merge s f n g (solo_crowd s r) (mix_crowd s f n b)
