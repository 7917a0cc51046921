-- The status with which a trace is refused.
use Rattle.std.proofs.Common.{◌≡◌, ℕ, ◌<◌, List, [], inr, refl, sym, ap, ◌∙◌, length, get_or, arith}
use Rattle.std.proofs.lemmas.List.{get_or-map, length-map}
use Rattle.path_model.specs.declared.resource.Law.TheVariants.{Cell}
use Rattle.path_model.specs.Declarations.{Declaration, Resource}
use Rattle.path_model.specs.Rooms.{IsBadRoom}
use Rattle.path_lines.specs.declared.entry.LineFault.{LineFault}
use Rattle.path_lines.specs.declared.entry.LineFault.TheVariants as line_faults
use Rattle.path_lines.specs.AttemptTexts.{Entry, IsAttemptsText, fault_of}
use Rattle.path_shelf.specs.Shelves.{declared_laws}
use Rattle.path_shelf.specs.States.{State, laws_of}
use Rattle.path_system.specs.declared.fault.OpenFault.{OpenFault}
use Rattle.path_system.specs.declared.fault.OpenFault.TheVariants as openings
use Rattle.path_system.specs.Faults.{IsOpenFault}
use Rattle.tell_base.specs.Ends.{RefusesText}
use Rattle.tell_base.specs.Refusals.{HasAttempts, IsBadAttempts, IsUnopened}
use Rattle.tell_base.specs.Statuses.{open_status, text_status}

-- a line that is no attempt refuses the trace of its text
pub refuses_line : (d : Declaration) (text : List ℕ) (n : ℕ) (f : LineFault) → ((es : List Entry) → IsAttemptsText d text es → ⊥) → RefusesText ⊥ (IsBadAttempts d text) (text_status (fault_of n f))
refuses_line d text n line_faults.Bad none = record { may = (inr none, refl) }
refuses_line d text n line_faults.Undeclared none = record { may = (inr none, refl) }

abbrev undeclared : Resource
undeclared = record { name = []; law = Cell }

abbrev no_state : State
no_state = record { law = Cell; contents = []; failures = 0 }

-- where the room and the laws are good only memory refuses
pub refuses_memory : (d : Declaration) (states : List State) (room : ℕ) (text : List ℕ) (f : OpenFault) → (IsBadRoom room → ⊥) → laws_of states ≡ declared_laws d → IsOpenFault room states d f → RefusesText (HasAttempts d text × IsUnopened d states room) (IsBadAttempts d text) (open_status f)
refuses_memory d states room text openings.BadRoom good same is = absurd (good is)
refuses_memory d states room text openings.WrongCount good same is = absurd (is.1 (sym (length-map states (λ (s : State). s.law)) ∙ ap length same ∙ length-map d.resources (λ (r : Resource). r.law)))
refuses_memory d states room text (openings.WrongDevice r) good same is =
    let first = is.1.1 in
    absurd (first.other (sym (get_or-map (λ (s : State). s.law) states r.0 no_state Cell within) ∙ ap (λ ls. get_or ls r.0 Cell) same ∙ get_or-map (λ (x : Resource). x.law) d.resources r.0 undeclared Cell first.declared))
  where
    within : r.0 < length states
    within = omega (arith, is.1.0, is.1.1.declared)
refuses_memory d states room text openings.OutOfMemory good same is = record { may = tt }
