-- The program's own devices fit their declaration, and never fail.
use Rattle.std.proofs.Common.{◌≡◌, ℕ, ◌+◌, ◌<◌, ◌≤◌, List, [], ◌∷◌, ◌++◌, length, take, get_or, refl, sym, ap, ◌∙◌, subst, inl, inr, arith}
use Rattle.std.specs.Prelude.{map, Option, Some, None}
use Rattle.std.specs.Option.{unwrap_or}
use Rattle.std.proofs.lemmas.List.{get_or-map, length-map, take_more, take_all, map-append}
use Rattle.path_model.specs.declared.journal.Line.{Line}
use Rattle.path_model.specs.declared.resource.Law.{Law}
use Rattle.path_model.specs.declared.resource.Law.TheVariants.{Cell, Tally, Queue}
use Rattle.path_model.specs.Declarations.{Resource, Declaration, law_of}
use Rattle.path_model.specs.Devices.{Fits}
use Rattle.path_model.specs.Rooms.{IsBadRoom}
use Rattle.path_journal.specs.JournalTexts.{IsJournalText}
use Rattle.path_shelf.specs.declared.own.OwnDevice.{OwnDevice}
use Rattle.path_shelf.specs.declared.own.OwnDevice.TheVariants as kinds
use Rattle.path_shelf.specs.States.{State, MayFail}
use Rattle.path_shelf.specs.Openings.{opening_numbers, opening_state}
use Rattle.path_shelf.specs.Own.{own_state}
use Rattle.path_audit.specs.declared.auditor.AuditFault.{AuditFault}
use Rattle.path_audit.specs.declared.auditor.AuditFault.TheVariants as audits
use Rattle.path_system.specs.declared.fault.OpenFault.TheVariants.{BadRoom, WrongCount, WrongDevice, OutOfMemory}
use Rattle.path_audit.specs.Verdicts.{FitsAt, IsAuditFault}
use Rattle.tell_base.specs.Ends.{RefusesText}
use Rattle.tell_base.specs.Own.{own_openings, own_states}
use Rattle.tell_base.specs.Refusals.{IsUnopened, LacksRoom}
use Rattle.tell_base.specs.Statuses.{audit_status}

abbrev undeclared : Resource
undeclared = record { name = []; law = Cell }

-- what each of them is by its law: one more was made
pub own_more : {X Y : Type 0} (opening : Law → X) (value : Y → X) (d : Declaration) (made : List Y) (one : Y) (r : ℕ) → r < length d.resources
    → map value made ≡ take r (map (λ x. opening x.law) d.resources) → value one ≡ opening (law_of d r) → map value (made ++ one ∷ []) ≡ take (r + 1) (map (λ x. opening x.law) d.resources)
own_more {X} opening value d made one r h so is =
    let all : List X = map (λ (x : Resource). opening x.law) d.resources in
    let within : r < length all = let n = length-map d.resources (λ (x : Resource). opening x.law) in omega (arith, n, h) in
    let at : get_or all r (value one) ≡ opening (law_of d r) = get_or-map (λ (x : Resource). opening x.law) d.resources r undeclared (value one) h in
    map-append value made (one ∷ []) ∙ ap (λ xs. xs ++ value one ∷ []) so ∙ ap (λ x. take r all ++ x ∷ []) (is ∙ sym at) ∙ sym (take_more all r (value one) within)

-- all were made
pub own_all : {X : Type 0} (opening : Law → X) (d : Declaration) (made : List X) (r : ℕ) → length d.resources ≤ r → made ≡ take r (map (λ x. opening x.law) d.resources)
    → made ≡ map (λ x. opening x.law) d.resources
own_all opening d made r h so = so ∙ take_all r (map (λ (x : Resource). opening x.law) d.resources) (let n = length-map d.resources (λ (x : Resource). opening x.law) in omega (arith, n, h))

own_at : (d : Declaration) (r : ℕ) (s : State) → r < length d.resources → get_or (own_states d) r s ≡ opening_state (law_of d r)
own_at d r s h = get_or-map (λ (x : Resource). opening_state x.law) d.resources r undeclared s h

-- over the own devices only the room is refused
only_room : (d : Declaration) (room : ℕ) → IsUnopened d (own_states d) room → IsBadRoom room
only_room d room (BadRoom, other, is) = is
only_room d room (OutOfMemory, other, is) = absurd (other refl)
only_room d room (WrongCount, other, is) = absurd (is.1 (length-map d.resources (λ (x : Resource). opening_state x.law)))
only_room d room (WrongDevice r, other, is) = let first = is.1.1 in absurd (first.other (ap (λ (s : State). s.law) (own_at d r.0 (record { law = Cell; contents = []; failures = 0 }) first.declared)))

pub own_room : (d : Declaration) (states : List State) (room : ℕ) → states ≡ own_states d → IsUnopened d states room → IsBadRoom room
own_room d states room own unopened = only_room d room (subst (λ ss. IsUnopened d ss room) own unopened)

never_failed : {Y : Type 0} (d : OwnDevice Y) → (own_state d).failures ≡ 0
never_failed (kinds.Cell c) = refl
never_failed (kinds.Tally t) = refl
never_failed (kinds.Queue q) = refl

-- none of them has ever failed
pub unfailing : {Y : Type 0} → MayFail (own_state {Y = Y}) → ⊥
unfailing (d, some) = let zero = never_failed d in omega (arith, zero, some)

numbers_fit : (law : Law) → Fits law (opening_numbers law)
numbers_fit Cell = refl
numbers_fit Tally = refl
numbers_fit (Queue n) = omega arith

openings_fit : (d : Declaration) (r : ℕ) → r < length d.resources → FitsAt d (own_openings d) r
openings_fit d r h =
    let at : get_or (own_openings d) r [] ≡ opening_numbers (law_of d r) = get_or-map (λ (x : Resource). opening_numbers x.law) d.resources r undeclared [] h in
    subst (λ held. Fits (law_of d r) held) (sym at) (numbers_fit (law_of d r))

-- the fault is one of what the resources contain
abbrev pub IsAboutOpenings : AuditFault → Type 0
IsAboutOpenings audits.WrongCount = Unit {0}
IsAboutOpenings (audits.BadOpening q) = Unit {0}
IsAboutOpenings f = ⊥

-- over what the own devices contain no audit is refused for that
pub own_refused : (d : Declaration) (room : ℕ) (openings : List (List ℕ)) (f : AuditFault) → IsAboutOpenings f → openings ≡ own_openings d → IsAuditFault d room openings f → ⊥
own_refused d room openings audits.BadRoom about own bad = about
own_refused d room openings audits.WrongCount about own bad = bad.1 (ap length own ∙ length-map d.resources (λ (x : Resource). opening_numbers x.law))
own_refused d room openings (audits.BadOpening q) about own bad = bad.2.misfit (subst (λ xs. FitsAt d xs q.0) (sym own) (openings_fit d q.0 bad.2.declared))
own_refused d room openings audits.OutOfMemory about own bad = about

-- a journal of a room that no journal has names none
pub lacks_room : (d : Declaration) (room : ℕ) (text : List ℕ) (named : Option ℕ) (lines : List Line) → IsJournalText d text named lines → IsBadRoom (unwrap_or named room) → LacksRoom d room text
lacks_room d room text None lines told bad = record { lines = lines; told = told; bad = bad }
lacks_room d room text (Some m) lines told (inl none) = absurd (let fits = told.room_fits in omega (arith, fits.0, none))
lacks_room d room text (Some m) lines told (inr much) = absurd (let fits = told.room_fits in omega (arith, fits.1, much))

-- so an audit is refused for its room alone
pub refuses_audit : (bad : Type 0) (d : Declaration) (room r : ℕ) (text : List ℕ) (named : Option ℕ) (lines : List Line) (openings : List (List ℕ)) (f : AuditFault)
    → IsJournalText d text named lines → r ≡ unwrap_or named room → openings ≡ own_openings d → IsAuditFault d r openings f → RefusesText (LacksRoom d room text) bad (audit_status f)
refuses_audit bad d room r text named lines openings audits.BadRoom told is own about = record { may = (lacks_room d room text named lines told (subst (λ x. IsBadRoom x) is about), refl) }
refuses_audit bad d room r text named lines openings audits.WrongCount told is own about = absurd (own_refused d r openings audits.WrongCount tt own about)
refuses_audit bad d room r text named lines openings (audits.BadOpening q) told is own about = absurd (own_refused d r openings (audits.BadOpening q) tt own about)
refuses_audit bad d room r text named lines openings audits.OutOfMemory told is own about = record { may = tt }
