-- Contents as lists: one more is copied, and one is changed.
use Rattle.std.proofs.Common.{◌≡◌, ℕ, ◌+◌, ◌<◌, Bool, List, [], ◌∷◌, ◌++◌, Result, Ok, Err, length, get_or, take, ap, sym, subst, ◌∙◌, arith}
use Rattle.std.proofs.Math.ListN.{set}
use Rattle.std.specs.Prelude.{map, IfOk}
use Rattle.std.proofs.lemmas.List.{map-set, map-append, get_or-map, length-map, take_more}
use Rattle.path_model.specs.declared.journal.Reply.{Reply}
use Rattle.path_model.specs.declared.journal.Verb.{Verb}
use Rattle.path_model.specs.declared.resource.Law.{Law}
use Rattle.path_model.specs.Devices.{outcome_of}
use Rattle.path_step.specs.Steps.{Serves, held_at}
use Rattle.path_step.specs.Steps as steps
use Rattle.path_audit.specs.Inner.Outcomes.{Acts}
use Rattle.path_audit.proofs.Likeness.{acts_so}

-- one more is copied
pub copied : {X Y : Type 0} (f : X → List ℕ) (g : Y → List ℕ) (xs : List X) (ys : List Y) (i : ℕ) (x : X) (y : Y) → map f xs ≡ take i (map g ys) → i < length ys
    → y ≡ get_or ys i y → f x ≡ g y → map f (xs ++ x ∷ []) ≡ take (i + 1) (map g ys)
copied f g xs ys i x y so_far within at same =
    let place : i < length (map g ys) = omega (arith, within, length-map ys g) in
    let last : f x ≡ get_or (map g ys) i [] = same ∙ ap g at ∙ sym (get_or-map g ys i y [] within) in
    map-append f xs (x ∷ []) ∙ ap (λ zs. zs ++ f x ∷ []) so_far ∙ ap (λ z. take i (map g ys) ++ z ∷ []) last ∙ sym (take_more (map g ys) i [] place)

-- the resource at an index acts, and is put back
pub served : {X E : Type 0} (f : X → List ℕ) (law : Law) (r : ℕ) (verb : Verb) (old : List (List ℕ)) (xs : List X) (x y : X) (fails : Bool) (result : Result Reply E)
    → old ≡ map f xs → r < length xs → x ≡ get_or xs r x
    → IfOk result (λ reply. Acts (outcome_of law verb (f x)) fails reply (f x) (f y))
    → IfOk result (λ reply. Serves law r verb old reply (map f (set xs r y)))
served f law r verb old xs x y fails (Err e) same within at acts = tt
served f law r verb old xs x y fails (Ok reply) same within at acts =
    let here : f x ≡ held_at old r = sym (ap (λ zs. get_or zs r []) same ∙ get_or-map f xs r x [] within ∙ ap f (sym at)) in
    record {
      left = f y;
      acts = subst (λ held. steps.Acts (outcome_of law verb held) reply held (f y)) here (acts_so (outcome_of law verb (f x)) fails reply (f x) (f y) acts);
      others = map-set f xs r y ∙ ap (λ zs. set zs r (f y)) (sym same);
    }
