-- The devices of a shelf as their states: one acts, and one more has the law of its resource.
use Rattle.std.proofs.Common.{◌≡◌, ℕ, ◌+◌, ◌<◌, List, [], length, get_or, take, refl, sym, ap, ◌∙◌, Result, Err, inl, inr, arith}
use Rattle.std.proofs.Math.ListN.{set}
use Rattle.std.specs.Prelude.{map, IfErr}
use Rattle.std.proofs.lemmas.List.{map-set, get_or-map, get_or-set_same, length-map, take_more_same}
use Rattle.path_model.specs.declared.resource.Law.{Law}
use Rattle.path_model.specs.declared.resource.Law.TheVariants.{Cell}
use Rattle.path_model.specs.declared.journal.Verb.{Verb}
use Rattle.path_model.specs.Declarations.{Resource, Declaration, law_of}
use Rattle.path_model.specs.Devices.{outcome_of}
use Rattle.path_shelf.specs.declared.device.ActFault.{ActFault}
use Rattle.path_shelf.specs.declared.device.ActFault.TheVariants.{Failed}
use Rattle.path_shelf.specs.States.{State, Acts, ActsAt, IsOwedFault, MayFail, state_at, laws_of}
use Rattle.path_shelf.specs.Shelves.{declared_laws}

-- the state past the end
abbrev pub nothing : State
nothing = record { law = Cell; contents = []; failures = 0 }

-- the state of what stands at a place
pub state_at-map : {A : Type 0} (f : A → State) (xs : List A) (i : ℕ) (a : A) → i < length xs → state_at (map f xs) i ≡ f (get_or xs i a)
state_at-map f xs i a h = get_or-map f xs i a nothing h

-- one acts, and is put back
pub acts_at : {A : Type 0} (f : A → State) (xs : List A) (i : ℕ) (a b : A) (verb : Verb) (r : Result ℕ ActFault) → i < length xs
    → Acts (f (get_or xs i a)) verb r (f b) → ActsAt (map f xs) i verb r (map f (set xs i b))
acts_at f xs i a b verb r h acts =
    let within : i < length (map f xs) = omega (arith, length-map xs f) in
    let before : state_at (map f xs) i ≡ f (get_or xs i a) = state_at-map f xs i a h in
    let after : state_at (set (map f xs) i (f b)) i ≡ f b = get_or-set_same (map f xs) i (f b) nothing within in
    let put : map f (set xs i b) ≡ set (map f xs) i (f b) = map-set f xs i b in
    rw put (record { acts = rw (before, after) acts; others = rw after refl })

-- one that failed has counted it
pub acts_failed : {A : Type 0} (f : A → State) (a b : A) (verb : Verb) (r : Result ℕ ActFault) → Acts (f a) verb r (f b) → r ≡ Err Failed → MayFail f
acts_failed f a b verb r acts e =
    let owed : IfErr r (λ fault. IsOwedFault (outcome_of (f a).law verb (f a).contents) fault (f a).failures (f b).failures) = acts.fault in
    let counted = (rw e at owed).1 in
    (b, elim counted [ inl more ↦ omega (arith, more) | inr last ↦ omega (arith, last) ])

-- the law of what stands at a place
law_at-map : {A : Type 0} (f : A → State) (xs : List A) (i : ℕ) (a : A) (d : Law) → i < length xs → get_or (laws_of (map f xs)) i d ≡ (f (get_or xs i a)).law
law_at-map f xs i a d h =
    let within : i < length (map f xs) = omega (arith, length-map xs f) in
    get_or-map (λ (s : State). s.law) (map f xs) i nothing d within ∙ ap (λ (s : State). s.law) (get_or-map f xs i a nothing h)

-- the law of a resource
pub law_declared : (d : Declaration) (i : ℕ) (l : Law) → i < length d.resources → get_or (declared_laws d) i l ≡ law_of d i
law_declared d i l h = get_or-map (λ (r : Resource). r.law) d.resources i (record { name = []; law = Cell }) l h

-- one more device has the law of its resource
pub laws_more : {A : Type 0} (f : A → State) (xs : List A) (d : Declaration) (i : ℕ) (a : A) → i < length xs → i < length d.resources
    → take i (laws_of (map f xs)) ≡ take i (declared_laws d) → (f (get_or xs i a)).law ≡ law_of d i
    → take (i + 1) (laws_of (map f xs)) ≡ take (i + 1) (declared_laws d)
laws_more f xs d i a h k before same =
    let e = length-map xs f in
    let e2 = length-map (map f xs) (λ (s : State). s.law) in
    let e3 = length-map d.resources (λ (r : Resource). r.law) in
    take_more_same (laws_of (map f xs)) (declared_laws d) i Cell (omega (arith, e, e2)) (omega (arith, k, e3)) before
    (law_at-map f xs i a Cell h ∙ same ∙ sym (law_declared d i Cell k))
