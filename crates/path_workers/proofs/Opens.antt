-- What a further receipt changes.
use Rattle.std.proofs.Common.{◌≡◌, ◌≢◌, ◌⊎◌, inl, inr, ℕ, ◌+◌, ◌<◌, ◌≤◌, List, [], ◌∷◌, ◌++◌, length, Bool, true, false, refl, sym, ap, ◌∙◌, subst, arith, length-append}
use Rattle.std.specs.Prelude.{if◌then◌else◌, ◌==◌, Option, Some, None}
use Rattle.std.proofs.lemmas.Bool.Decides.{nat_tests}
use Rattle.path_model.specs.declared.ids.ActId.{ActId}
use Rattle.path_model.specs.declared.journal.Attempt.{Attempt}
use Rattle.path_model.specs.declared.journal.Attempt.TheVariants.{Start, Apply, Finish}
use Rattle.path_model.specs.declared.journal.Reply.{Reply}
use Rattle.path_model.specs.declared.journal.Reply.TheVariants.{Started, Blocked, UnknownOperation, Used, NotOffered, Empty, Full, Overflow, DeviceFailed, Finished, Stale, NotYours, NoRoom}
use Rattle.path_workers.specs.declared.answer.Receipt.{Receipt}
use Rattle.path_workers.specs.Attempts.{starts, finishes, has_finish, is_open, finishes_open, receipts_then, place_of, may_get}
use Rattle.path_workers.specs.Inner.Holdings.{opens, open_count, open_then, places_for}

has_finish_push : (act : ActId) (rs : List Receipt) (r : Receipt) → has_finish act (rs ++ r ∷ []) ≡ (if has_finish act rs then true else finishes act r.attempt)
has_finish_push act [] r = by_bool (finishes act r.attempt)
  where
    by_bool : (b : Bool) → (if b then true else false) ≡ b
    by_bool true = refl
    by_bool false = refl
has_finish_push act (x ∷ rs) r = by_bool (finishes act x.attempt) _ (has_finish act rs) (finishes act r.attempt) (has_finish_push act rs r)
  where
    by_bool : (b t u v : Bool) → t ≡ (if u then true else v) → (if b then true else t) ≡ (if (if b then true else u) then true else v)
    by_bool true t u v e = refl
    by_bool false t u v e = e

opens_push : (q : Reply) (rs : List Receipt) (r : Receipt) → opens q (rs ++ r ∷ []) ≤ opens q rs
opens_push (Started n) rs r = by_bool (has_finish n rs) (finishes n r.attempt) (has_finish n (rs ++ r ∷ [])) (has_finish_push n rs r)
  where
    by_bool : (u v t : Bool) → t ≡ (if u then true else v) → (if t then 0 else 1) ≤ (if u then 0 else 1)
    by_bool true v t e = subst (λ (b : Bool). (if b then 0 else 1) ≤ 0) (sym e) (omega arith)
    by_bool false v true e = omega arith
    by_bool false v false e = omega arith
opens_push (Blocked k) rs r = omega arith
opens_push UnknownOperation rs r = omega arith
opens_push (Used k) rs r = omega arith
opens_push NotOffered rs r = omega arith
opens_push Empty rs r = omega arith
opens_push Full rs r = omega arith
opens_push Overflow rs r = omega arith
opens_push DeviceFailed rs r = omega arith
opens_push Finished rs r = omega arith
opens_push Stale rs r = omega arith
opens_push NotYours rs r = omega arith
opens_push NoRoom rs r = omega arith

pub open_push : (rs : List Receipt) (r : Receipt) → open_count (rs ++ r ∷ []) ≤ open_count rs + opens r.reply []
open_push [] r = omega arith
open_push (x ∷ rs) r = let h = open_push rs r in let k = opens_push x.reply rs r in omega arith

finishes_same : (a b : ActId) (t : Attempt) → a.0 ≡ b.0 → finishes a t ≡ finishes b t
finishes_same a b (Start op) e = refl
finishes_same a b (Apply n v) e = refl
finishes_same a b (Finish n) e = ap (λ (k : ℕ). k == n.0) e

has_finish_same : (a b : ActId) (rs : List Receipt) → a.0 ≡ b.0 → has_finish a rs ≡ has_finish b rs
has_finish_same a b [] e = refl
has_finish_same a b (r ∷ rs) e = ap (λ (t : Bool). if t then true else has_finish a rs) (finishes_same a b r.attempt e) ∙ ap (λ (t : Bool). if finishes b r.attempt then true else t) (has_finish_same a b rs e)

-- the head was open, and is finished by r
closes : (act : ActId) (q : Reply) (rs : List Receipt) (r : Receipt) → starts act q ≡ true → has_finish act rs ≡ false → finishes act r.attempt ≡ true → opens q (rs ++ r ∷ []) + 1 ≤ opens q rs
closes act (Started n) rs r s none f =
    let same : act.0 ≡ n.0 = grind (arith, nat_tests) in
    let was : has_finish n rs ≡ false = sym (has_finish_same act n rs same) ∙ none in
    let now : has_finish n (rs ++ r ∷ []) ≡ true = has_finish_push n rs r ∙ ap (λ (b : Bool). if b then true else finishes n r.attempt) was ∙ (sym (finishes_same act n r.attempt same) ∙ f) in
    rw (was, now) (omega arith)
closes act (Blocked k) rs r s none f = cc
closes act UnknownOperation rs r s none f = cc
closes act (Used k) rs r s none f = cc
closes act NotOffered rs r s none f = cc
closes act Empty rs r s none f = cc
closes act Full rs r s none f = cc
closes act Overflow rs r s none f = cc
closes act DeviceFailed rs r s none f = cc
closes act Finished rs r s none f = cc
closes act Stale rs r s none f = cc
closes act NotYours rs r s none f = cc
closes act NoRoom rs r s none f = cc

pub finish_push : (act : ActId) (rs : List Receipt) (r : Receipt) → finishes act r.attempt ≡ true → is_open act rs ≡ true → open_count (rs ++ r ∷ []) + 1 ≤ open_count rs + opens r.reply []
finish_push act [] r f o = cc
finish_push act (x ∷ rs) r f o = by_bool (starts act x.reply) (has_finish act rs) refl refl o (λ o'. finish_push act rs r f o')
  where
    by_bool : (s h : Bool) → starts act x.reply ≡ s → has_finish act rs ≡ h → (if s then (if h then is_open act rs else true) else is_open act rs) ≡ true
        → (is_open act rs ≡ true → open_count (rs ++ r ∷ []) + 1 ≤ open_count rs + opens r.reply [])
        → opens x.reply (rs ++ r ∷ []) + open_count (rs ++ r ∷ []) + 1 ≤ opens x.reply rs + open_count rs + opens r.reply []
    by_bool true true es eh o' ih = let k = opens_push x.reply rs r in let h = ih o' in omega arith
    by_bool true false es eh o' ih = let k = closes act x.reply rs r es eh f in let h = open_push rs r in omega arith
    by_bool false h es eh o' ih = let k = opens_push x.reply rs r in let m = ih o' in omega arith

pub is_open_push : (act : ActId) (rs : List Receipt) (r : Receipt) → is_open act (rs ++ r ∷ []) ≡ open_then act (is_open act rs) r
is_open_push act [] r = by_bool (starts act r.reply) (finishes act r.attempt)
  where
    by_bool : (s f : Bool) → (if s then true else false) ≡ (if s then true else if f then false else false)
    by_bool true f = refl
    by_bool false true = refl
    by_bool false false = refl
is_open_push act (x ∷ rs) r = by_bool (starts act x.reply) (starts act r.reply) (finishes act r.attempt) (has_finish act rs) (is_open act rs) _ _ (has_finish_push act rs r) (is_open_push act rs r)
  where
    table : (s t f h o : Bool) → (if s then (if (if h then true else f) then (if t then true else if f then false else o) else true) else (if t then true else if f then false else o)) ≡ (if t then true else if f then false else (if s then (if h then o else true) else o))
    table false t f h o = refl
    table true true true true true = refl
    table true true true true false = refl
    table true true true false true = refl
    table true true true false false = refl
    table true true false true true = refl
    table true true false true false = refl
    table true true false false true = refl
    table true true false false false = refl
    table true false true true true = refl
    table true false true true false = refl
    table true false true false true = refl
    table true false true false false = refl
    table true false false true true = refl
    table true false false true false = refl
    table true false false false true = refl
    table true false false false false = refl

    by_bool : (s t f h o h' o' : Bool) → h' ≡ (if h then true else f) → o' ≡ (if t then true else if f then false else o)
        → (if s then (if h' then o' else true) else o') ≡ (if t then true else if f then false else (if s then (if h then o else true) else o))
    by_bool s t f h o h' o' eh eo = subst (λ (b : Bool). (if s then (if b then o' else true) else o') ≡ (if t then true else if f then false else (if s then (if h then o else true) else o))) (sym eh) (subst (λ (b : Bool). (if s then (if (if h then true else f) then b else true) else b) ≡ (if t then true else if f then false else (if s then (if h then o else true) else o))) (sym eo) (table s t f h o))

pub opens_none : (q : Reply) → ((n : ActId) → q ≢ Started n) → opens q [] ≡ 0
opens_none (Started n) not = absurd (not n refl)
opens_none (Blocked k) not = refl
opens_none UnknownOperation not = refl
opens_none (Used k) not = refl
opens_none NotOffered not = refl
opens_none Empty not = refl
opens_none Full not = refl
opens_none Overflow not = refl
opens_none DeviceFailed not = refl
opens_none Finished not = refl
opens_none Stale not = refl
opens_none NotYours not = refl
opens_none NoRoom not = refl

-- only an attempt that takes two places gets a start as its reply
pub starts_alone : (a : Attempt) (q : Reply) → may_get a q ≡ true → places_for a ≡ 1 → opens q [] ≡ 0
starts_alone (Start op) q may one = absurd (omega arith)
starts_alone (Apply n v) q may one = opens_none q (λ k is. let h = subst (λ (r : Reply). may_get (Apply n v) r ≡ true) is may in cc)
starts_alone (Finish n) q may one = opens_none q (λ k is. let h = subst (λ (r : Reply). may_get (Finish n) r ≡ true) is may in cc)

opens_at_most : (q : Reply) → opens q [] ≤ 1
opens_at_most (Started k) = omega arith
opens_at_most (Blocked k) = omega arith
opens_at_most UnknownOperation = omega arith
opens_at_most (Used k) = omega arith
opens_at_most NotOffered = omega arith
opens_at_most Empty = omega arith
opens_at_most Full = omega arith
opens_at_most Overflow = omega arith
opens_at_most DeviceFailed = omega arith
opens_at_most Finished = omega arith
opens_at_most Stale = omega arith
opens_at_most NotYours = omega arith
opens_at_most NoRoom = omega arith

-- the places that an attempt has
abbrev pub Placed : Attempt → List Receipt → ℕ → ℕ → Type 0
Placed a rs starts cap = (length rs + starts + places_for a ≤ cap) ⊎ (finishes_open a rs ≡ true)

-- the same with the length of the list as a number
pub placed_of : (a : Attempt) (rs : List Receipt) (starts n cap : ℕ) → n ≡ length rs → ((n + starts + places_for a ≤ cap) ⊎ (finishes_open a rs ≡ true)) → Placed a rs starts cap
placed_of a rs starts n cap same (inl room) = inl (subst (λ (k : ℕ). k + starts + places_for a ≤ cap) same room)
placed_of a rs starts n cap same (inr o) = inr o

pub has_place : (a : Attempt) (rs : List Receipt) (starts cap : ℕ) → Placed a rs starts cap → length rs + open_count rs ≤ cap → length rs < cap
has_place a rs starts cap (inl room) fits = by_attempt a room
  where
    by_attempt : (a : Attempt) → length rs + starts + places_for a ≤ cap → length rs < cap
    by_attempt (Start op) room = omega arith
    by_attempt (Apply n v) room = omega arith
    by_attempt (Finish n) room = omega arith
has_place (Start op) rs starts cap (inr o) fits = cc
has_place (Apply n v) rs starts cap (inr o) fits = cc
has_place (Finish act) rs starts cap (inr o) fits =
    let here : finishes act (Finish act) ≡ true = grind (arith, nat_tests) in
    let k = finish_push act rs (record { place = 0; attempt = Finish act; reply = Stale }) here o in
    omega arith

-- the places that are left after it
places_left : (a : Attempt) (rs : List Receipt) (p : ℕ) (q : Reply) (starts cap : ℕ) → Placed a rs starts cap → length rs + open_count rs ≤ cap → open_count rs ≤ starts → (places_for a ≡ 1 → opens q [] ≡ 0)
    → (length rs + 1 + open_count (rs ++ record { place = p; attempt = a; reply = q } ∷ []) ≤ cap) × (open_count (rs ++ record { place = p; attempt = a; reply = q } ∷ []) ≤ starts + opens q [])
places_left (Start op) rs p q starts cap (inl room) fits some fin =
    let r : Receipt = record { place = p; attempt = Start op; reply = q } in let k = open_push rs r in let m = opens_at_most q in (omega arith, omega arith)
places_left (Start op) rs p q starts cap (inr o) fits some fin = cc
places_left (Apply n v) rs p q starts cap (inl room) fits some fin =
    let r : Receipt = record { place = p; attempt = Apply n v; reply = q } in let k = open_push rs r in let m = fin refl in (omega arith, omega arith)
places_left (Apply n v) rs p q starts cap (inr o) fits some fin = cc
places_left (Finish act) rs p q starts cap (inl room) fits some fin =
    let r : Receipt = record { place = p; attempt = Finish act; reply = q } in let k = open_push rs r in let m = fin refl in (omega arith, omega arith)
places_left (Finish act) rs p q starts cap (inr o) fits some fin =
    let r : Receipt = record { place = p; attempt = Finish act; reply = q } in
    let here : finishes act (Finish act) ≡ true = grind (arith, nat_tests) in
    let k = finish_push act rs r here o in let m = fin refl in (omega arith, omega arith)

-- what a pass keeps
pub kept : (a : Attempt) (rs more : List Receipt) (o : Option ℕ) (q : Reply) (n starts cap grown : ℕ) → Placed a rs starts cap → length rs + open_count rs ≤ cap → open_count rs ≤ starts → starts ≤ length rs
    → (places_for a ≡ 1 → opens q [] ≡ 0) → o ≡ place_of n q → more ≡ receipts_then rs a o q → cap ≤ grown
    → (length more + open_count more ≤ grown) × (open_count more ≤ starts + opens q []) × (starts + opens q [] ≤ length more)
kept a rs more None q n starts cap grown placed fits some few fin is gained up =
    let none : opens q [] ≡ 0 = no_place n q is in
    rw gained (omega arith, omega arith, omega arith)
  where
    no_place : (n : ℕ) (q : Reply) → None ≡ place_of n q → opens q [] ≡ 0
    no_place n (Started k) is = cc
    no_place n (Blocked k) is = cc
    no_place n UnknownOperation is = cc
    no_place n (Used k) is = cc
    no_place n NotOffered is = cc
    no_place n Empty is = cc
    no_place n Full is = cc
    no_place n Overflow is = cc
    no_place n DeviceFailed is = cc
    no_place n Finished is = cc
    no_place n Stale is = cc
    no_place n NotYours is = cc
    no_place n NoRoom is = refl
kept a rs more (Some p) q n starts cap grown placed fits some few fin is gained up =
    let left = places_left a rs p q starts cap placed fits some fin in
    let m = opens_at_most q in
    let len = length-append rs (record { place = p; attempt = a; reply = q } ∷ []) in
    rw gained (omega arith, omega arith, omega arith)
