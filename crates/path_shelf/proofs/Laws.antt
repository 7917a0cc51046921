-- What a verb, and a replacement by a device of the same law, leave of a shelf: its laws, its number of devices, and all other devices.
use Rattle.std.proofs.Common.{◌≡◌, ◌≢◌, ℕ, ◌<◌, List, length, get_or, refl, sym, ap, ◌∙◌, Result, Err, arith}
use Rattle.std.proofs.Math.ListN.{set}
use Rattle.std.proofs.Math.Seq.{map-set_same}
use Rattle.std.specs.Prelude.{map}
use Rattle.std.proofs.lemmas.List.{get_or-map, get_or-set_other, length-map, length-set}
use Rattle.path_model.specs.declared.resource.Law.TheVariants.{Cell}
use Rattle.path_model.specs.declared.journal.Verb.{Verb}
use Rattle.path_model.specs.Declarations.{Declaration, law_of}
use Rattle.path_model.specs.Devices.{Outcome, serves, refuses}
use Rattle.path_shelf.specs.declared.device.ActFault.{ActFault}
use Rattle.path_shelf.specs.States.{State, WouldServe, ActsAt, state_at, laws_of}
use Rattle.path_shelf.specs.Shelves.{declared_laws}
use Rattle.path_shelf.proofs.Shelved.{nothing, law_declared}

-- another state of the same law
pub laws_replaced : (old : List State) (i : ℕ) (s : State) → s.law ≡ (state_at old i).law → laws_of (set old i s) ≡ laws_of old
laws_replaced old i s same = map-set_same (λ (s : State). s.law) old i s nothing same

-- all others stay
pub others_replaced : (old : List State) (i r : ℕ) (s : State) → r ≢ i → state_at (set old i s) r ≡ state_at old r
others_replaced old i r s other = get_or-set_other old i r s nothing other

pub laws_acted : (old new : List State) (i : ℕ) (verb : Verb) (r : Result ℕ ActFault) → ActsAt old i verb r new → laws_of new ≡ laws_of old
laws_acted old new i verb r a = ap laws_of a.others ∙ laws_replaced old i (state_at new i) a.acts.law

pub count_acted : (old new : List State) (i : ℕ) (verb : Verb) (r : Result ℕ ActFault) → ActsAt old i verb r new → length new ≡ length old
count_acted old new i verb r a = ap length a.others ∙ length-set old i (state_at new i)

pub others_acted : (old new : List State) (i j : ℕ) (verb : Verb) (r : Result ℕ ActFault) → ActsAt old i verb r new → j ≢ i → state_at new j ≡ state_at old j
others_acted old new i j verb r a other = ap (λ s. state_at s j) a.others ∙ others_replaced old i j (state_at new i) other

-- a fault leaves the contents of all
pub contents_refused : (old new : List State) (i : ℕ) (verb : Verb) (e : ActFault) → ActsAt old i verb (Err e) new
    → map (λ s. s.contents) new ≡ map (λ s. s.contents) old
contents_refused old new i verb e a =
    ap (map (λ (s : State). s.contents)) a.others ∙ map-set_same (λ (s : State). s.contents) old i (state_at new i) nothing a.acts.kept

-- each device has the law of its resource
pub law_at : (states : List State) (d : Declaration) (r : ℕ) → laws_of states ≡ declared_laws d → r < length d.resources → (state_at states r).law ≡ law_of d r
law_at states d r same within =
    let e : length (laws_of states) ≡ length states = length-map states (λ (s : State). s.law) in
    let here : r < length states = omega (arith, e, ap length same, length-map d.resources (λ (r : _). r.law)) in
    sym (get_or-map (λ (s : State). s.law) states r nothing Cell here) ∙ ap (λ ls. get_or ls r Cell) same ∙ law_declared d r Cell within

-- a law that would serve serves with some number and some contents
pub would_serve : (o : Outcome) → WouldServe o → (x : ℕ) × (rest : List ℕ) × (o ≡ serves x rest)
would_serve (serves x rest) would = (x, rest, refl)
would_serve (refuses r) would = absurd would
