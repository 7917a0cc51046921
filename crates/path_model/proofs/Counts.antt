-- How often a tree was entered and left by a list of events, and which event may follow.
use Rattle.std.proofs.Common.{◌≡◌, ◌⊎◌, ◌==◌, if◌then◌else◌, ◌<◌, ◌+◌, ◌-◌, ℕ, List, [], ◌∷◌, ◌++◌, refl, ap, ◌∙◌, inl, inr, arith}
use Rattle.std.proofs.lemmas.Bool.{ne_eqb, cond-false, cond_both}
use Rattle.path_model.specs.declared.ids.OpId.{OpId}
use Rattle.path_model.specs.declared.history.Event.{Event}
use Rattle.path_model.specs.declared.history.Event.TheVariants.{Began, Ended}
use Rattle.path_model.specs.Trees.{BoundAdmits, Tree, op, seq, alt, burst, Names}
use Rattle.path_model.specs.Histories.{op_of}
pub use Rattle.path_model.specs.Executions.{entry, exit, count, opens, closes}

-- the counts of all entries and exits
abbrev pub ins : Tree → List Event → ℕ
ins s [] = 0
ins s (e ∷ w) = entry s e + ins s w

abbrev pub outs : Tree → List Event → ℕ
outs s [] = 0
outs s (e ∷ w) = exit s e + outs s w

-- how often the tree was entered, and how often it was left
abbrev pub inn : Tree → List Event → ℕ
inn (op b) w = ins (op b) w
inn (seq s t) w = inn s w
inn (alt s t) w = inn s w + inn t w
inn (burst bd s) w = opens s 0 w

abbrev pub out : Tree → List Event → ℕ
out (op b) w = outs (op b) w
out (seq s t) w = out t w
out (alt s t) w = out s w + out t w
out (burst bd s) w = closes s 0 w

-- the event may follow, where an entry of the whole tree wants p
abbrev pub May : Tree → List Event → Event → Type 0 → Type 0
May (op b) w (Began a) p = (a ≡ b) × p
May (op b) w (Ended a) p = (a ≡ b) × (outs (op b) w < ins (op b) w)
May (seq s t) w e p = May s w e p ⊎ May t w e (inn t w < out s w)
May (alt s t) w e p = May s w e p ⊎ May t w e p
May (burst bd s) w e p = May s w e ((p ⊎ (0 < count s 0 w)) × BoundAdmits bd (count s 0 w))

pub ins-append : (s : Tree) (x y : List Event) → ins s (x ++ y) ≡ ins s x + ins s y
ins-append s [] y = omega arith
ins-append s (e ∷ x) y = let h = ins-append s x y in omega arith

pub outs-append : (s : Tree) (x y : List Event) → outs s (x ++ y) ≡ outs s x + outs s y
outs-append s [] y = omega arith
outs-append s (e ∷ x) y = let h = outs-append s x y in omega arith

pub count-append : (s : Tree) (c : ℕ) (x y : List Event) → count s c (x ++ y) ≡ count s (count s c x) y
count-append s c [] y = refl
count-append s c (e ∷ x) y = count-append s (c + entry s e - exit s e) x y

pub opens-append : (s : Tree) (c : ℕ) (x y : List Event) → opens s c (x ++ y) ≡ opens s c x + opens s (count s c x) y
opens-append s c [] y = omega arith
opens-append s c (e ∷ x) y = let h = opens-append s (c + entry s e - exit s e) x y in omega arith

pub closes-append : (s : Tree) (c : ℕ) (x y : List Event) → closes s c (x ++ y) ≡ closes s c x + closes s (count s c x) y
closes-append s c [] y = omega arith
closes-append s c (e ∷ x) y = let h = closes-append s (c + entry s e - exit s e) x y in omega arith

-- what may follow is named
pub May-names : (s : Tree) (w : List Event) (e : Event) (p : Type 0) → May s w e p → Names s (op_of e)
May-names (op b) w (Began a) p m = m.0
May-names (op b) w (Ended a) p m = m.0
May-names (seq s t) w e p (inl m) = inl (May-names s w e p m)
May-names (seq s t) w e p (inr m) = inr (May-names t w e _ m)
May-names (alt s t) w e p (inl m) = inl (May-names s w e p m)
May-names (alt s t) w e p (inr m) = inr (May-names t w e p m)
May-names (burst bd s) w e p m = May-names s w e _ m

-- none of the events is named
abbrev pub Foreign : Tree → List Event → Type 0
Foreign s [] = Unit {0}
Foreign s (e ∷ w) = (Names s (op_of e) → ⊥) × Foreign s w

abbrev pub Named : Tree → List Event → Type 0
Named s [] = Unit {0}
Named s (e ∷ w) = Names s (op_of e) × Named s w

pub op_same : (a b : OpId) → a.0 ≡ b.0 → a ≡ b
op_same a b h = ap (λ n. record { 0 = n }) h

pub foreign_entry : (s : Tree) (e : Event) → (Names s (op_of e) → ⊥) → entry s e ≡ 0
foreign_entry (op b) (Began a) n = cond-false _ _ _ (ne_eqb a.0 b.0 (λ h. n (op_same a b h)))
foreign_entry (op b) (Ended a) n = refl
foreign_entry (seq s t) e n = foreign_entry s e (λ h. n (inl h))
foreign_entry (alt s t) e n = let f = foreign_entry s e (λ h. n (inl h)) in let g = foreign_entry t e (λ h. n (inr h)) in omega arith
foreign_entry (burst bd s) e n = foreign_entry s e n

pub foreign_exit : (s : Tree) (e : Event) → (Names s (op_of e) → ⊥) → exit s e ≡ 0
foreign_exit (op b) (Ended a) n = cond-false _ _ _ (ne_eqb a.0 b.0 (λ h. n (op_same a b h)))
foreign_exit (op b) (Began a) n = refl
foreign_exit (seq s t) e n = foreign_exit t e (λ h. n (inr h))
foreign_exit (alt s t) e n = let f = foreign_exit s e (λ h. n (inl h)) in let g = foreign_exit t e (λ h. n (inr h)) in omega arith
foreign_exit (burst bd s) e n = foreign_exit s e n

pub foreign_ins : (s : Tree) (w : List Event) → Foreign s w → ins s w ≡ 0
foreign_ins s [] f = refl
foreign_ins s (e ∷ w) f = let g = foreign_entry s e f.0 in let h = foreign_ins s w f.1 in omega arith

pub foreign_outs : (s : Tree) (w : List Event) → Foreign s w → outs s w ≡ 0
foreign_outs s [] f = refl
foreign_outs s (e ∷ w) f = let g = foreign_exit s e f.0 in let h = foreign_outs s w f.1 in omega arith

pub foreign_count : (s : Tree) (c : ℕ) (w : List Event) → Foreign s w → count s c w ≡ c
foreign_count s c [] f = refl
foreign_count s c (e ∷ w) f =
    let g = foreign_entry s e f.0 in
    let h = foreign_exit s e f.0 in
    let k : c + entry s e - exit s e ≡ c = omega arith in
    foreign_count s (c + entry s e - exit s e) w f.1 ∙ k

pub foreign_opens : (s : Tree) (c : ℕ) (w : List Event) → Foreign s w → opens s c w ≡ 0
foreign_opens s c [] f = refl
foreign_opens s c (e ∷ w) f =
    let g = foreign_entry s e f.0 in
    let h = foreign_opens s (c + entry s e - exit s e) w f.1 in
    let k : (if c == 0 then entry s e else 0) ≡ 0 = cond_both (c == 0) _ _ (λ x. x ≡ 0) (λ _. g) (λ _. refl) in
    omega arith

pub foreign_closes : (s : Tree) (c : ℕ) (w : List Event) → Foreign s w → closes s c w ≡ 0
foreign_closes s c [] f = refl
foreign_closes s c (e ∷ w) f =
    let g = foreign_exit s e f.0 in
    let h = foreign_closes s (c + entry s e - exit s e) w f.1 in
    let k : (if c + entry s e - exit s e == 0 then exit s e else 0) ≡ 0 = cond_both (c + entry s e - exit s e == 0) _ _ (λ x. x ≡ 0) (λ _. g) (λ _. refl) in
    omega arith
