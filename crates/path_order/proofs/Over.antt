-- What is over: the history stays legal, and a gate that ends what is in progress is behind it.
use Rattle.std.proofs.Common.{◌≡◌, ◌+◌, ◌<◌, ◌≤◌, ℕ, Bool, true, false, cond, List, [], ◌∷◌, ◌++◌, length, drop, get_or, add-one, arith, refl, ap, sym, subst, ◌∙◌}
use Rattle.std.specs.Prelude.{◌||◌, ◌&&◌, nat_lt}
use Rattle.std.proofs.Math.Seq.{drop-cons}
use Rattle.std.proofs.lemmas.Bool.{ltb-true, ltb-false}
use Rattle.path_model.specs.declared.ids.OpId.{OpId}
use Rattle.path_model.specs.declared.history.Event.{Event}
use Rattle.path_model.specs.declared.history.Event.TheVariants.{Ended}
use Rattle.path_model.specs.Trees.{Tree, Names, WellFormed, has}
use Rattle.path_model.specs.Histories.{begun, ended}
use Rattle.path_model.specs.Legal as legal
use Rattle.path_model.proofs.CallerLemmas.{has_names, names_has, all_paths_judge}
use Rattle.path_gate.specs.Standings.{Standing, IsAt, IsNamed, SamePlaces}
use Rattle.path_order.specs.Waiting.{op_of, ops_of}
use Rattle.path_order.specs.Ways.{is_named, one_over, all_over}

true_false : true ≡ false → ⊥
true_false e = cc

or_false : (a b : Bool) → (a || b) ≡ false → (a ≡ false) × (b ≡ false)
or_false true b e = absurd (true_false e)
or_false false b e = (refl, e)

and_true : (a b : Bool) → (a && b) ≡ true → (a ≡ true) × (b ≡ true)
and_true true b e = (refl, e)
and_true false b e = absurd (true_false (sym e))

-- the test for a name says what it means
named_front : (x : ℕ × Tree) (xs : List (ℕ × Tree)) (a : OpId) (b : Bool) → has x.1 a ≡ b → (is_named xs a ≡ true → IsNamed xs a) → (b || is_named xs a) ≡ true → IsNamed (x ∷ xs) a
named_front x xs a true is rest e = λ none. none.0 (names_has x.1 a is)
named_front x xs a false is rest e = λ none. rest e none.1

pub named_is : (xs : List (ℕ × Tree)) (a : OpId) → is_named xs a ≡ true → IsNamed xs a
named_is [] a e = absurd (true_false (sym e))
named_is (x ∷ xs) a e = named_front x xs a (has x.1 a) refl (named_is xs a) e

pub unnamed_is : (xs : List (ℕ × Tree)) (a : OpId) → is_named xs a ≡ false → legal.NoneOf (λ s. Names s a) xs
unnamed_is [] a e = tt
unnamed_is (x ∷ xs) a e =
    let both = or_false (has x.1 a) (is_named xs a) e in
    (λ n. true_false (sym (has_names x.1 a n) ∙ both.0), unnamed_is xs a both.1)

-- what is over was in progress, so the history stays legal
legal_if : (xs : List (ℕ × Tree)) (a : OpId) (h : List Event) (b : Bool) → (b ≡ true → legal.Legal xs (h ++ Ended a ∷ [])) → legal.Legal xs h → legal.Legal xs (cond b (h ++ Ended a ∷ []) h)
legal_if xs a h true more is = more refl
legal_if xs a h false more is = is

pub legal_one : (xs : List (ℕ × Tree)) → legal.Every WellFormed xs → (a : OpId) (h : List Event) → legal.Legal xs h → legal.Legal xs (one_over xs a h)
legal_one xs well a h is =
    legal_if xs a h (is_named xs a && nat_lt (ended a h) (begun a h))
    (λ e. (all_paths_judge xs well h is).finishes a (ltb-true (ended a h) (begun a h) (and_true (is_named xs a) (nat_lt (ended a h) (begun a h)) e).1)) is

pub legal_all : (xs : List (ℕ × Tree)) → legal.Every WellFormed xs → (run : List OpId) (h : List Event) → legal.Legal xs h → legal.Legal xs (all_over xs run h)
legal_all xs well [] h is = is
legal_all xs well (a ∷ run) h is = legal_all xs well run (one_over xs a h) (legal_one xs well a h is)

-- a gate that counts an operation as in progress, or as not
module _ (g : Standing) (h : List Event) (at : IsAt g h) (a : OpId) (x : ℕ) (is : x ≡ get_or g.in_progress a.0 0) (unnamed : legal.NoneOf (λ s. Names s a) g.paths → x ≡ 0) where
  ended_true : (b c : Bool) → is_named g.paths a ≡ b → nat_lt (ended a h) (begun a h) ≡ c → 0 < x → h ++ Ended a ∷ [] ≡ cond (b && c) (h ++ Ended a ∷ []) h
  ended_true true true n t some = refl
  ended_true true false n t some = absurd (let p = at.progress a (named_is g.paths a n) in let le = ltb-false (ended a h) (begun a h) t in omega (arith, p, le, is))
  ended_true false c n t some = absurd (let z = unnamed (unnamed_is g.paths a n) in omega (arith, z))

  pub over_if_some : 0 < x → h ++ Ended a ∷ [] ≡ one_over g.paths a h
  over_if_some some = ended_true (is_named g.paths a) (nat_lt (ended a h) (begun a h)) refl refl some

  ended_false : (b c : Bool) → is_named g.paths a ≡ b → nat_lt (ended a h) (begun a h) ≡ c → x ≤ 0 → h ≡ cond (b && c) (h ++ Ended a ∷ []) h
  ended_false true true n t none = absurd (let p = at.progress a (named_is g.paths a n) in let lt = ltb-true (ended a h) (begun a h) t in omega (arith, p, lt, is))
  ended_false true false n t none = refl
  ended_false false c n t none = refl

  pub same_if_none : x ≤ 0 → h ≡ one_over g.paths a h
  same_if_none none = ended_false (is_named g.paths a) (nat_lt (ended a h) (begun a h)) refl refl none

-- what runs, one more looked at
module _ (ns : List ℕ) (i : ℕ) (low : i < length ns) where
  pub one_more : ops_of (drop i ns) ≡ op_of (get_or ns i 0) ∷ ops_of (drop (i + 1) ns)
  one_more = ap ops_of (drop-cons ns i 0 low) ∙ ap (λ k. op_of (get_or ns i 0) ∷ ops_of (drop k ns)) (sym (add-one i))

-- a spare gate that has still to end these, to be where all are over
abbrev pub IsOnTheWay : Standing → Standing → List OpId → List OpId → Type 0
IsOnTheWay start cur left run = (h : List Event) → IsAt start h → (k : List Event) × IsAt cur k × (all_over start.paths left k ≡ all_over start.paths run h)

-- it has the paths and places that it had
pub record IsEnding (start cur : Standing) (left run : List OpId) : Type 0 where
  pub paths : cur.paths ≡ start.paths
  pub places : SamePlaces start cur
  pub at : IsOnTheWay start cur left run

module _ (start cur : Standing) (run : List OpId) where
  pub ends_one : (new : Standing) (a : OpId) (left left' : List OpId) → left ≡ a ∷ left' → new.paths ≡ cur.paths → SamePlaces cur new → ((h : List Event) → IsAt cur h → IsAt new (one_over cur.paths a h))
      → IsEnding start cur left run → IsEnding start new left' run
  ends_one new a left left' is paths places at ending = record {
    paths = paths ∙ ending.paths;
    places = record { semaphores = places.semaphores ∙ ending.places.semaphores; counters = places.counters ∙ ending.places.counters };
    at = λ h s. (let w = ending.at h s in
        (one_over start.paths a w.0, subst (λ xs. IsAt new (one_over xs a w.0)) ending.paths (at w.0 w.1), ap (λ l. all_over start.paths l w.0) (sym is) ∙ w.2));
  }

  pub all_end : (left : List OpId) → left ≡ [] → IsEnding start cur left run → (h : List Event) → IsAt start h → IsAt cur (all_over start.paths run h)
  all_end left none ending h s =
      let w = ending.at h s in
      subst (λ k. IsAt cur k) (ap (λ l. all_over start.paths l w.0) (sym none) ∙ w.2) w.1
