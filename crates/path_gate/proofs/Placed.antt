-- What the test for room says, and whose an activation is.
use Rattle.std.proofs.Common.{◌≡◌, ◌≢◌, ℕ, ◌<◌, ◌≤◌, Bool, true, false, cond, List, [], ◌∷◌, ◌++◌, All, Some, arith, refl, ap, sym, ◌∙◌}
use Rattle.std.specs.Prelude.{◌||◌, ◌==◌, nat_le}
use Rattle.std.proofs.lemmas.Bool.Decides.{nat_tests}
use Rattle.std.proofs.lemmas.List.Elements.{All-tail}
use Rattle.path_model.specs.declared.ids.OpId.{OpId}
use Rattle.path_model.specs.declared.ids.ActId.{ActId}
use Rattle.path_model.specs.declared.history.Event.{Event}
use Rattle.path_model.specs.declared.history.Event.TheVariants.{Began}
use Rattle.path_model.specs.declared.journal.Activation.{Activation}
use Rattle.path_model.specs.Trees.{Tree}
use Rattle.path_model.specs.Legal as legal
use Rattle.path_model.specs.Journals.{activation_of}
use Rattle.path_model.specs.Places.{is_own_of}

-- the room that a start or a use wants
pub roomy : (m n : ℕ) → (nat_le m n || false) ≡ true → m ≤ n
roomy m n h = grind (arith, nat_tests)

pub not_roomy : (m n : ℕ) → (nat_le m n || false) ≡ false → n < m
not_roomy m n h = grind (arith, nat_tests)

-- and that a finish wants
pub roomy_or : (m n : ℕ) (b : Bool) → (nat_le m n || b) ≡ true → b ≡ false → m ≤ n
roomy_or m n b h e = roomy m n (ap (λ x. nat_le m n || x) (sym e) ∙ h)

pub not_roomy_or : (m n : ℕ) (b : Bool) → (nat_le m n || b) ≡ false → (n < m) × (b ≡ false)
not_roomy_or m n true h = absurd (or_true (nat_le m n) h)
  where
    or_true : (x : Bool) → (x || true) ≡ false → ⊥
    or_true true e = cc
    or_true false e = cc
not_roomy_or m n false h = (not_roomy m n h, refl)

-- another worker's isn't one's own
pub not_own : (w : ℕ) (a : Activation) → a.worker ≢ w → is_own_of w (Some a) ≡ false
not_own w a other = grind (arith, nat_tests)

pub own_or_other : (w : ℕ) (a : Activation) → is_own_of w (Some a) ≡ false → a.worker ≢ w
own_or_other w a is = grind (arith, nat_tests)

-- where a start keeps a history legal, no path forbids it
pub none_forbids : (xs : List (ℕ × Tree)) (h : List Event) (a : OpId) → legal.Legal xs (h ++ Began a ∷ []) → legal.NoneOf (legal.Forbids h a) xs
none_forbids [] h a l = tt
none_forbids (x ∷ xs) h a l = (λ f. f.1 l.0, none_forbids xs h a l.1)

-- what holds of all that are live holds of one that is found
declared_front : (m : ℕ) (n : ActId) (x : Activation) (xs : List Activation) (a : Activation) (t : Bool) → x.op.0 < m → (activation_of n xs ≡ Some a → a.op.0 < m)
    → cond t (Some x) (activation_of n xs) ≡ Some a → a.op.0 < m
declared_front m n x xs a true h rest is = let same : x ≡ a = cc in rw (← same) h
declared_front m n x xs a false h rest is = rest is

pub found_declared : (m : ℕ) (n : ActId) (xs : List Activation) (a : Activation) → All (λ a. a.op.0 < m) xs → activation_of n xs ≡ Some a → a.op.0 < m
found_declared m n [] a all is = absurd (cc)
found_declared m n (x ∷ xs) a all is =
    declared_front m n x xs a (x.act.0 == n.0) (all 0 x (omega arith)) (found_declared m n xs a (All-tail (λ (a : Activation). a.op.0 < m) x xs all)) is
