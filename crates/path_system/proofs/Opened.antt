-- The parts and the rows of a system that was just opened.
use Rattle.std.proofs.Common.{◌≡◌, ℕ, ◌<◌, ◌≤◌, true, false, List, [], All, length, get_or, inl, inr, ap, sym, subst, ◌∙◌, arith}
use Rattle.std.proofs.lemmas.Bool.{cases_lt}
use Rattle.std.specs.Prelude.{map}
use Rattle.std.proofs.lemmas.List.{length-map, length-replicate, get_or-replicate}
use Rattle.path_model.specs.Declarations.{Declaration, Resource}
use Rattle.path_model.specs.Journals.{live_count}
use Rattle.path_model.specs.Rooms.{IsRoom, IsBadRoom}
use Rattle.path_shelf.specs.States.{State, laws_of}
use Rattle.path_shelf.specs.Shelves.{declared_laws}
use Rattle.path_shelf.proofs.CallerLemmas.{law_at}
use Rattle.path_system.specs.Inner.Openings.{Row, AreFor, HavePlaces}
use Rattle.path_step.specs.Steps.{Register}
use Rattle.path_system.specs.Accounts.{contents_of}
use Rattle.path_system.specs.Inner.Pasts.{none}
use Rattle.path_system.specs.Inner.Parts.{Marked, PartsValue, AreMarked, AreOpened, AreSound, AreTrueTo, contents}
use Rattle.path_system.proofs.Rows.{places_same}

-- a room that isn't bad is in range
pub good_room : (room : ℕ) → (IsBadRoom room → ⊥) → IsRoom room
good_room room good = (
  elim (cases_lt 0 room) [ inl some ↦ omega (arith, some) | inr none ↦ absurd (good (inl (omega (arith, none)))) ],
  elim (cases_lt 1048576 room) [ inl over ↦ absurd (good (inr over)) | inr within ↦ omega (arith, within) ],
)

-- rows for a declaration have the places of devices of its laws
pub have_places : (rows : List Row) (states : List State) (d : Declaration) → AreFor rows d → laws_of states ≡ declared_laws d → length states ≡ length d.resources → HavePlaces rows states
have_places rows states d rows_for laws count r within =
    let here : r < length d.resources = omega (arith, within, count) in
    rw (law_at states d r laws here) (rows_for.places r here)

-- rows with the same places are for the same declaration
pub same_for : (rows olds : List Row) (d : Declaration) → map (λ row. row.places) rows ≡ map (λ row. row.places) olds → AreFor olds d → AreFor rows d
same_for rows olds d same for_olds =
    let e = length-map rows (λ (x : Row). x.places) in
    let k = length-map olds (λ (x : Row). x.places) in
    let l = ap length same in
    let count = for_olds.count in
    record {
      count = omega (arith, e, k, l, count);
      places = λ r within. (let k = for_olds.places r within in let e = places_same rows olds r same in omega (arith, k, e));
    }

-- there is one device for each resource
pub opened_count : (states : List State) (d : Declaration) → laws_of states ≡ declared_laws d → length states ≡ length d.resources
opened_count states d laws =
    let e = length-map states (λ (x : State). x.law) in
    let k = length-map d.resources (λ (x : Resource). x.law) in
    let l = ap length laws in
    omega (arith, e, k, l)

-- the parts before any attempt are sound
pub sound_opened : (parts : PartsValue) (d : Declaration) (room : ℕ) (states : List State) → laws_of states ≡ declared_laws d → AreOpened parts d room states → AreSound parts room 0
sound_opened parts d room states laws o =
    let none : parts.present.register.live ≡ [] = ap (λ (b : Register). b.live) o.idle in
    rw o.declaration (record {
      lawful = o.lawful;
      paths = o.paths;
      together = record {
        declared = subst (All (λ a. a.op.0 < length d.operations)) (sym none) (λ k a h. absurd (omega arith));
        running = λ a named. subst (λ xs. live_count a xs ≤ get_or parts.present.standing.in_progress a.0 0) (sym none) (omega arith);
        admitted = (let k = o.admitted in omega (arith, k));
      };
      few = (let k = ap length none in omega (arith, k));
      places = o.places;
      laws = ap (λ (m : Marked). laws_of m.states) o.devices ∙ laws;
      marks = ap (λ (m : Marked). length m.asked) o.devices ∙ length-replicate (length d.resources) false;
    })

-- no device is marked
pub unmarked_opened : (parts : PartsValue) (d : Declaration) (room : ℕ) (states : List State) → AreOpened parts d room states → AreMarked d parts.devices.asked none
unmarked_opened parts d room states o r within =
    let unmarked : get_or parts.devices.asked r false ≡ false = ap (λ (m : Marked). get_or m.asked r false) o.devices ∙ get_or-replicate (length d.resources) r false false within in
    ((λ e. cc), (λ k. absurd k))

-- and they are what no lines leave
pub true_opened : (parts : PartsValue) (d : Declaration) (room : ℕ) (states : List State) → laws_of states ≡ declared_laws d → AreOpened parts d room states → AreTrueTo parts room (contents_of states) [] none
true_opened parts d room states laws o =
    let count = opened_count states d laws in
    let same : contents parts.devices ≡ contents_of states = ap contents o.devices in
    rw o.declaration (record {
      left = record {
        honest = (0, tt);
        paths = o.paths;
        at = o.at;
        live = ap (λ (b : Register). b.live) o.idle;
        begun = ap (λ (b : Register). b.begun) o.idle;
        declared = subst (λ (b : Register). All (λ a. a.op.0 < length d.operations) b.live) (sym o.idle) (λ k a h. absurd (omega arith));
        one_each = ap length same ∙ length-map states (λ (x : State). x.contents) ∙ count;
        held = λ r within. sym (ap (λ c. get_or c r []) same);
      };
      segments = (tt, tt);
    })
