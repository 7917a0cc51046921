-- One more path or operation is gathered, or left out.
use Rattle.std.proofs.Common.{◌≡◌, ◌&&◌, not, ℕ, ◌+◌, Bool, true, false, cond, List, [], ◌∷◌, ◌++◌, refl, sym, ap, ◌∙◌, subst, append-nil, inl, inr, ◌<◌, length, get_or, take}
use Rattle.std.specs.Prelude.{◌↔◌, All, IsTrue, filter}
use Rattle.std.proofs.lemmas.List.Elements.{All-push, filter_more}
use Rattle.path_model.specs.declared.ids.OpId.{OpId}
use Rattle.path_model.specs.declared.ids.PathId.{PathId}
use Rattle.path_model.specs.declared.history.Event.{Event}
use Rattle.path_model.specs.declared.history.Event.TheVariants.{Began}
use Rattle.path_model.specs.declared.journal.Activation.{Activation}
use Rattle.path_model.specs.Trees.{Tree, Names, has}
use Rattle.path_model.specs.Legal as legal
use Rattle.path_model.specs.Declarations.{Declaration}
use Rattle.path_model.proofs.CallerLemmas.{has_names, names_has}
use Rattle.cmd_explain.specs.Standing.{ForbidsAt, LetsAt, AreForbidding, AreNext}

true_false : true ≡ false → ⊥
true_false z = cc

pub none_forbidding : (d : Declaration) (h : List Event) (a : OpId) (ps : List PathId) → ps ≡ [] → AreForbidding d h a 0 ps
none_forbidding d h a ps e = subst (AreForbidding d h a 0) (sym e) AreForbidding.none

pub forbidding_more : (d : Declaration) (h : List Event) (a : OpId) (p : PathId) (ps new : List PathId) (b : Bool) → AreForbidding d h a p.0 ps → IsTrue b ↔ ForbidsAt d h a p
    → new ≡ ps ++ cond b (p ∷ []) [] → AreForbidding d h a (p.0 + 1) new
forbidding_more d h a p ps new true so_far told is = subst (AreForbidding d h a (p.0 + 1)) (sym is) (AreForbidding.forbids p ps so_far (told.0 refl))
forbidding_more d h a p ps new false so_far told is = subst (AreForbidding d h a (p.0 + 1)) (sym (is ∙ append-nil ps)) (AreForbidding.lets p ps so_far (λ f. true_false (sym (told.1 f))))

-- one more is declared, or left out
pub declared_more : (P : PathId → Type 0) (p : PathId) (ps new : List PathId) (b : Bool) → All P ps → P p → new ≡ ps ++ cond b (p ∷ []) [] → All P new
declared_more P p ps new true all here is = subst (All P) (sym is) (All-push P ps p all here)
declared_more P p ps new false all here is = subst (All P) (sym (is ∙ append-nil ps)) all

pub none_next : (d : Declaration) (h : List Event) (p : PathId) (ops : List OpId) → ops ≡ [] → AreNext d h p 0 ops
none_next d h p ops e = subst (AreNext d h p 0) (sym e) AreNext.none

pub next_more : (d : Declaration) (h : List Event) (p : PathId) (a : OpId) (ops new : List OpId) (b : Bool) → AreNext d h p a.0 ops → IsTrue b ↔ LetsAt d h p a
    → new ≡ ops ++ cond b (a ∷ []) [] → AreNext d h p (a.0 + 1) new
next_more d h p a ops new true so_far told is = subst (AreNext d h p (a.0 + 1)) (sym is) (AreNext.lets a ops so_far (told.0 refl))
next_more d h p a ops new false so_far told is = subst (AreNext d h p (a.0 + 1)) (sym (is ∙ append-nil ops)) (AreNext.other a ops so_far (λ f. true_false (sym (told.1 f))))

-- a path lets begin what it names and doesn't forbid
pub lets_told : (s : Tree) (a : OpId) (named forbidden : Bool) (F : Type 0) → named ≡ has s a → IsTrue forbidden ↔ F → IsTrue (named && not forbidden) ↔ (Names s a × (F → ⊥))
lets_told s a true true F e told = (λ t. absurd (true_false (sym t)), λ k. absurd (k.1 (told.0 refl)))
lets_told s a true false F e told = (λ t. (names_has s a (sym e), λ f. true_false (sym (told.1 f))), λ k. refl)
lets_told s a false forbidden F e told = (λ t. absurd (true_false (sym t)), λ k. absurd (true_false (sym (has_names s a k.0) ∙ sym e)))

-- where a path forbids a start, it isn't legal
pub first_legal : (xs : List (ℕ × Tree)) (h : List Event) (a : OpId) (p : ℕ) → legal.First (legal.Forbids h a) xs p → legal.Legal xs (h ++ Began a ∷ []) → ⊥
first_legal [] h a p f l = f
first_legal (x ∷ xs) h a p (inl f) l = f.0.1 l.0
first_legal (x ∷ xs) h a p (inr f) l = first_legal xs h a p f.1 l.1

-- of two tests the second is the answer where the first holds, and else the first
pub and_then : (P : Bool → Type 0) (x y : Bool) → x ≡ true → P (x && y) → P y
and_then P x y e p = subst P (ap (λ z. z && y) e) p

pub and_else : (P : Bool → Type 0) (x y : Bool) → x ≡ false → P (x && y) → P x
and_else P x y e p = subst P (ap (λ z. z && y) e ∙ sym e) p

-- one more activation is kept or left out
pub underway_more : (test : Activation → Bool) (xs : List Activation) (i : ℕ) (d : Activation) (before after : List Activation) (b : Bool) → i < length xs
    → after ≡ before ++ cond b (get_or xs i d ∷ []) [] → b ≡ test (get_or xs i d) → before ≡ filter test (take i xs) → after ≡ filter test (take (i + 1) xs)
underway_more test xs i d before after b within more told so_far =
    more ∙ ap (λ ys. ys ++ cond b (get_or xs i d ∷ []) []) so_far ∙ ap (λ t. filter test (take i xs) ++ cond t (get_or xs i d ∷ []) []) told ∙ sym (filter_more test xs i d within)
