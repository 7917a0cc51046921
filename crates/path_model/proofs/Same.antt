-- Lists of events after which the same events may follow.
use Rattle.std.proofs.Common.{◌≡◌, ◌⊎◌, ◌<◌, ◌≤◌, ◌+◌, List, [], ◌∷◌, ◌++◌, refl, sym, ◌∙◌, subst, inl, inr, arith}
use Rattle.std.proofs.lemmas.List.{append-nil}
use Rattle.std.proofs.lemmas.Bool.{cases_lt}
use Rattle.path_model.specs.declared.ids.OpId.{OpId}
use Rattle.path_model.specs.declared.history.Event.{Event}
use Rattle.path_model.specs.declared.history.Event.TheVariants.{Began, Ended}
use Rattle.path_model.specs.Trees.{BoundAdmits, Tree, op, seq, alt, burst, Names, NoBraces}
use Rattle.path_model.specs.Histories.{op_of}
use Rattle.path_model.proofs.Counts.{ins, outs, count, opens, closes, inn, out, May, ins-append, outs-append, count-append, opens-append, closes-append, Foreign, foreign_ins, foreign_outs, foreign_count, foreign_opens, foreign_closes}

-- every semaphore and counter inside the tree is where it began
abbrev pub Balanced : Tree → List Event → Type 0
Balanced (op b) u = ins (op b) u ≡ outs (op b) u
Balanced (seq s t) u = Balanced s u × Balanced t u × (inn t u ≡ out s u)
Balanced (alt s t) u = Balanced s u × Balanced t u
Balanced (burst bd s) u = Balanced s u × (count s 0 u ≡ 0)

-- every semaphore and counter inside the tree is equal after both
abbrev pub Same : Tree → List Event → List Event → Type 0
Same (op b) v w = ins (op b) v + outs (op b) w ≡ ins (op b) w + outs (op b) v
Same (seq s t) v w = Same s v w × Same t v w × (inn t v + out s w ≡ inn t w + out s v)
Same (alt s t) v w = Same s v w × Same t v w
Same (burst bd s) v w = Same s v w × (count s 0 v ≡ count s 0 w)

pub May_same : (s : Tree) (v w : List Event) (e : Event) {p q : Type 0} → (p → q) → Same s v w → May s v e p → May s w e q
May_same (op b) v w (Began a) f h m = (m.0, f m.1)
May_same (op b) v w (Ended a) f h m = (m.0, omega (arith, m.1, h))
May_same (seq s t) v w e f h (inl m) = inl (May_same s v w e f h.0 m)
May_same (seq s t) v w e f h (inr m) = inr (May_same t v w e (λ l. omega (arith, l, h.2)) h.1 m)
May_same (alt s t) v w e f h (inl m) = inl (May_same s v w e f h.0 m)
May_same (alt s t) v w e f h (inr m) = inr (May_same t v w e f h.1 m)
May_same (burst bd s) v w e {p} {q} f h m = May_same s v w e g h.0 m
  where
    g : ((p ⊎ (0 < count s 0 v)) × BoundAdmits bd (count s 0 v)) → ((q ⊎ (0 < count s 0 w)) × BoundAdmits bd (count s 0 w))
    g (inl x, r) = (inl (f x), subst (BoundAdmits bd) h.1 r)
    g (inr l, r) = (inr (omega (arith, l, h.1)), subst (BoundAdmits bd) h.1 r)

pub Same_refl : (s : Tree) (w : List Event) → Same s w w
Same_refl (op b) w = refl
Same_refl (seq s t) w = (Same_refl s w, Same_refl t w, refl)
Same_refl (alt s t) w = (Same_refl s w, Same_refl t w)
Same_refl (burst bd s) w = (Same_refl s w, refl)

pub Same_sym : (s : Tree) (v w : List Event) → Same s v w → Same s w v
Same_sym (op b) v w h = sym h
Same_sym (seq s t) v w h = (Same_sym s v w h.0, Same_sym t v w h.1, sym h.2)
Same_sym (alt s t) v w h = (Same_sym s v w h.0, Same_sym t v w h.1)
Same_sym (burst bd s) v w h = (Same_sym s v w h.0, sym h.1)

pub May_weaken : (s : Tree) (w : List Event) (e : Event) {p q : Type 0} → (p → q) → May s w e p → May s w e q
May_weaken s w e f m = May_same s w w e f (Same_refl s w) m

pub inn_nil : (s : Tree) → inn s [] ≡ 0
inn_nil (op b) = refl
inn_nil (seq s t) = inn_nil s
inn_nil (alt s t) = let f = inn_nil s in let g = inn_nil t in omega arith
inn_nil (burst bd s) = refl

pub out_nil : (s : Tree) → out s [] ≡ 0
out_nil (op b) = refl
out_nil (seq s t) = out_nil t
out_nil (alt s t) = let f = out_nil s in let g = out_nil t in omega arith
out_nil (burst bd s) = refl

pub Balanced_nil : (s : Tree) → Balanced s []
Balanced_nil (op b) = refl
Balanced_nil (seq s t) = (Balanced_nil s, Balanced_nil t, inn_nil t ∙ sym (out_nil s))
Balanced_nil (alt s t) = (Balanced_nil s, Balanced_nil t)
Balanced_nil (burst bd s) = (Balanced_nil s, refl)

-- after a balanced list counts add up
pub inn_after : (s : Tree) (u w : List Event) → Balanced s u → inn s (u ++ w) ≡ inn s u + inn s w
inn_after (op b) u w h = ins-append (op b) u w
inn_after (seq s t) u w h = inn_after s u w h.0
inn_after (alt s t) u w h = let f = inn_after s u w h.0 in let g = inn_after t u w h.1 in omega arith
inn_after (burst bd s) u w h = subst (λ c. opens s 0 (u ++ w) ≡ opens s 0 u + opens s c w) h.1 (opens-append s 0 u w)

pub out_after : (s : Tree) (u w : List Event) → Balanced s u → out s (u ++ w) ≡ out s u + out s w
out_after (op b) u w h = outs-append (op b) u w
out_after (seq s t) u w h = out_after t u w h.1
out_after (alt s t) u w h = let f = out_after s u w h.0 in let g = out_after t u w h.1 in omega arith
out_after (burst bd s) u w h = subst (λ c. closes s 0 (u ++ w) ≡ closes s 0 u + closes s c w) h.1 (closes-append s 0 u w)

pub count_after : (s : Tree) (u w : List Event) → count s 0 u ≡ 0 → count s 0 (u ++ w) ≡ count s 0 w
count_after s u w h = subst (λ c. count s 0 (u ++ w) ≡ count s c w) h (count-append s 0 u w)

pub Same_after : (s : Tree) (u w : List Event) → Balanced s u → Same s (u ++ w) w
Same_after (op b) u w h = let f = ins-append (op b) u w in let g = outs-append (op b) u w in omega (arith, f, g, h)
Same_after (seq s t) u w h =
    let f = inn_after t u w h.1 in
    let g = out_after s u w h.0 in
    (Same_after s u w h.0, Same_after t u w h.1, omega (arith, f, g, h.2))
Same_after (alt s t) u w h = (Same_after s u w h.0, Same_after t u w h.1)
Same_after (burst bd s) u w h = (Same_after s u w h.0, count_after s u w h.1)

pub Same_balanced : (s : Tree) (u : List Event) → Balanced s u → Same s u []
Same_balanced s u h = subst (λ v. Same s v []) (append-nil u) (Same_after s u [] h)

pub Balanced_append : (s : Tree) (u w : List Event) → Balanced s u → Balanced s w → Balanced s (u ++ w)
Balanced_append (op b) u w h k = let f = ins-append (op b) u w in let g = outs-append (op b) u w in omega (arith, f, g, h, k)
Balanced_append (seq s t) u w h k =
    let f = inn_after t u w h.1 in
    let g = out_after s u w h.0 in
    (Balanced_append s u w h.0 k.0, Balanced_append t u w h.1 k.1, omega (arith, f, g, h.2, k.2))
Balanced_append (alt s t) u w h k = (Balanced_append s u w h.0 k.0, Balanced_append t u w h.1 k.1)
Balanced_append (burst bd s) u w h k = (Balanced_append s u w h.0 k.0, count_after s u w h.1 ∙ k.1)

-- foreign events count nothing
pub foreign_left : (s t : Tree) (w : List Event) → ((a : OpId) → Names s a → Names t a) → Foreign t w → Foreign s w
foreign_left s t [] g f = tt
foreign_left s t (e ∷ w) g f = (λ n. f.0 (g (op_of e) n), foreign_left s t w g f.1)

pub foreign_inn : (s : Tree) (w : List Event) → Foreign s w → inn s w ≡ 0
foreign_inn (op b) w f = foreign_ins (op b) w f
foreign_inn (seq s t) w f = foreign_inn s w (foreign_left s (seq s t) w (λ a. inl) f)
foreign_inn (alt s t) w f =
    let g = foreign_inn s w (foreign_left s (alt s t) w (λ a. inl) f) in
    let h = foreign_inn t w (foreign_left t (alt s t) w (λ a. inr) f) in
    omega arith
foreign_inn (burst bd s) w f = foreign_opens s 0 w (foreign_left s (burst bd s) w (λ a n. n) f)

pub foreign_out : (s : Tree) (w : List Event) → Foreign s w → out s w ≡ 0
foreign_out (op b) w f = foreign_outs (op b) w f
foreign_out (seq s t) w f = foreign_out t w (foreign_left t (seq s t) w (λ a. inr) f)
foreign_out (alt s t) w f =
    let g = foreign_out s w (foreign_left s (alt s t) w (λ a. inl) f) in
    let h = foreign_out t w (foreign_left t (alt s t) w (λ a. inr) f) in
    omega arith
foreign_out (burst bd s) w f = foreign_closes s 0 w (foreign_left s (burst bd s) w (λ a n. n) f)

pub foreign_balanced : (s : Tree) (w : List Event) → Foreign s w → Balanced s w
foreign_balanced (op b) w f = foreign_ins (op b) w f ∙ sym (foreign_outs (op b) w f)
foreign_balanced (seq s t) w f =
    let fs = foreign_left s (seq s t) w (λ a. inl) f in
    let ft = foreign_left t (seq s t) w (λ a. inr) f in
    (foreign_balanced s w fs, foreign_balanced t w ft, foreign_inn t w ft ∙ sym (foreign_out s w fs))
foreign_balanced (alt s t) w f =
    (foreign_balanced s w (foreign_left s (alt s t) w (λ a. inl) f), foreign_balanced t w (foreign_left t (alt s t) w (λ a. inr) f))
foreign_balanced (burst bd s) w f =
    let g = foreign_left s (burst bd s) w (λ a n. n) f in
    (foreign_balanced s w g, foreign_count s 0 w g)

-- foreign events at the end
pub inn_before : (s : Tree) (w u : List Event) → Foreign s u → inn s (w ++ u) ≡ inn s w
inn_before (op b) w u f = let g = ins-append (op b) w u in let h = foreign_ins (op b) u f in omega arith
inn_before (seq s t) w u f = inn_before s w u (foreign_left s (seq s t) u (λ a. inl) f)
inn_before (alt s t) w u f =
    let g = inn_before s w u (foreign_left s (alt s t) u (λ a. inl) f) in
    let h = inn_before t w u (foreign_left t (alt s t) u (λ a. inr) f) in
    omega arith
inn_before (burst bd s) w u f =
    let g = opens-append s 0 w u in
    let h = foreign_opens s (count s 0 w) u (foreign_left s (burst bd s) u (λ a n. n) f) in
    omega arith

pub out_before : (s : Tree) (w u : List Event) → Foreign s u → out s (w ++ u) ≡ out s w
out_before (op b) w u f = let g = outs-append (op b) w u in let h = foreign_outs (op b) u f in omega arith
out_before (seq s t) w u f = out_before t w u (foreign_left t (seq s t) u (λ a. inr) f)
out_before (alt s t) w u f =
    let g = out_before s w u (foreign_left s (alt s t) u (λ a. inl) f) in
    let h = out_before t w u (foreign_left t (alt s t) u (λ a. inr) f) in
    omega arith
out_before (burst bd s) w u f =
    let g = closes-append s 0 w u in
    let h = foreign_closes s (count s 0 w) u (foreign_left s (burst bd s) u (λ a n. n) f) in
    omega arith

pub Same_before : (s : Tree) (w u : List Event) → Foreign s u → Same s (w ++ u) w
Same_before (op b) w u f =
    let g = inn_before (op b) w u f in
    let h = out_before (op b) w u f in
    omega (arith, g, h)
Same_before (seq s t) w u f =
    let fs = foreign_left s (seq s t) u (λ a. inl) f in
    let ft = foreign_left t (seq s t) u (λ a. inr) f in
    let g = inn_before t w u ft in
    let h = out_before s w u fs in
    (Same_before s w u fs, Same_before t w u ft, omega (arith, g, h))
Same_before (alt s t) w u f =
    (Same_before s w u (foreign_left s (alt s t) u (λ a. inl) f), Same_before t w u (foreign_left t (alt s t) u (λ a. inr) f))
Same_before (burst bd s) w u f =
    let g = foreign_left s (burst bd s) u (λ a n. n) f in
    (Same_before s w u g, count-append s 0 w u ∙ foreign_count s (count s 0 w) u g)

-- the event begins the tree
abbrev pub Starts : Tree → Event → Type 0
Starts (op b) (Began a) = a ≡ b
Starts (op b) (Ended a) = ⊥
Starts (seq s t) e = Starts s e
Starts (alt s t) e = Starts s e ⊎ Starts t e
Starts (burst bd s) e = Starts s e

pub start_may : (s : Tree) → NoBraces s → (w : List Event) (e : Event) {p : Type 0} → Starts s e → p → May s w e p
start_may (op b) f w (Began a) h x = (h, x)
start_may (op b) f w (Ended a) h x = absurd h
start_may (seq s t) f w e h x = inl (start_may s f.0 w e h x)
start_may (alt s t) f w e (inl h) x = inl (start_may s f.0 w e h x)
start_may (alt s t) f w e (inr h) x = inr (start_may t f.1 w e h x)
start_may (burst bd s) f w e h x = absurd f

pub May_split : (s : Tree) (w : List Event) (e : Event) {p : Type 0} → May s w e p → May s w e ⊥ ⊎ (p × Starts s e)
May_split (op b) w (Began a) m = inr (m.1, m.0)
May_split (op b) w (Ended a) m = inl m
May_split (seq s t) w e (inl m) = elim (May_split s w e m) [ inl h ↦ inl (inl h) | inr h ↦ inr h ]
May_split (seq s t) w e (inr m) = inl (inr m)
May_split (alt s t) w e (inl m) = elim (May_split s w e m) [ inl h ↦ inl (inl h) | inr h ↦ inr (h.0, inl h.1) ]
May_split (alt s t) w e (inr m) = elim (May_split t w e m) [ inl h ↦ inl (inr h) | inr h ↦ inr (h.0, inr h.1) ]
May_split (burst bd s) w e {p} m = go (cases_lt 0 (count s 0 w)) (May_split s w e m)
  where
    go : (0 < count s 0 w) ⊎ (count s 0 w ≤ 0) → (May s w e ⊥ ⊎ (((p ⊎ (0 < count s 0 w)) × BoundAdmits bd (count s 0 w)) × Starts s e)) → May s w e ((⊥ ⊎ (0 < count s 0 w)) × BoundAdmits bd (count s 0 w)) ⊎ (p × Starts s e)
    go (inl l) k = inl (May_weaken s w e (λ (x : (p ⊎ (0 < count s 0 w)) × BoundAdmits bd (count s 0 w)). (inr l, x.1)) m)
    go (inr l) (inl h) = inl (May_weaken s w e absurd h)
    go (inr l) (inr ((inl x, r), k)) = inr (x, k)
    go (inr l) (inr ((inr x, r), k)) = absurd (omega (arith, l, x))

-- with nothing begun and no entry allowed nothing may follow
pub May_nothing : (s : Tree) (e : Event) → May s [] e ⊥ → ⊥
May_nothing (op b) (Began a) m = m.1
May_nothing (op b) (Ended a) m = omega (arith, m.1)
May_nothing (seq s t) e (inl m) = May_nothing s e m
May_nothing (seq s t) e (inr m) =
    let f = inn_nil t in
    let g = out_nil s in
    May_nothing t e (May_weaken t [] e (λ (l : inn t [] < out s []). omega (arith, l)) m)
May_nothing (alt s t) e (inl m) = May_nothing s e m
May_nothing (alt s t) e (inr m) = May_nothing t e m
May_nothing (burst bd s) e m = May_nothing s e (May_weaken s [] e no m)
  where
    no : ((⊥ ⊎ (0 < 0)) × BoundAdmits bd 0) → ⊥
    no (inl h, r) = h
    no (inr l, r) = omega (arith, l)

pub balanced_stuck : (s : Tree) (u : List Event) (e : Event) → Balanced s u → May s u e ⊥ → ⊥
balanced_stuck s u e h m = May_nothing s e (May_same s u [] e (λ x. x) (Same_balanced s u h) m)
