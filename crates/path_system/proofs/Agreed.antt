-- Sound parts may answer the next attempt.
use Rattle.std.proofs.Common.{◌≡◌, ℕ, ◌<◌, List, length, ◌∙◌}
use Rattle.std.proofs.lemmas.List.{length-map}
use Rattle.path_model.specs.declared.journal.Line.{Line}
use Rattle.path_model.specs.Declarations.{law_of}
use Rattle.path_model.specs.Journals.{admitted_history}
use Rattle.path_model.specs.Legal.{Legal}
use Rattle.path_shelf.specs.States.{State}
use Rattle.path_shelf.proofs.CallerLemmas.{law_at}
use Rattle.path_gate.proofs.CallerLemmas.{found_declared}
use Rattle.path_step.specs.Presents.{IsLeftBy}
use Rattle.path_step.proofs.CallerLemmas as step
use Rattle.path_system.specs.Inner.Parts.{PartsValue, AreDeclared, AreReady, AreSound, contents, is_law_at}
use Rattle.path_system.proofs.Opened.{opened_count}

module _ (old : PartsValue) (room lines : ℕ) (s : AreSound old room lines) where
  -- each resource has a device of its law
  pub states_count : length old.devices.states ≡ length old.declaration.resources
  states_count = opened_count old.devices.states old.declaration s.laws

  pub law_is : (r : ℕ) → r < length old.declaration.resources → is_law_at old.devices r (law_of old.declaration r)
  law_is r within = law_at old.devices.states old.declaration r s.laws within

  pub declared : AreDeclared old
  declared = record { live = s.together.declared; one_each = states_count }

  pub ready : AreReady old room lines
  ready = record {
    ready = record {
      within = λ n a is. found_declared (length old.declaration.operations) n old.present.register.live a s.together.declared is;
      resources = λ op declared. s.lawful.operations op _ declared;
      one_each = length-map old.devices.states (λ (x : State). x.contents) ∙ states_count;
      laws = law_is;
    };
    running = step.together_running old.present (length old.declaration.operations) s.together;
    few = s.few;
    places = s.places;
    admitted = s.together.admitted;
  }

  -- the history is legal so far
  pub legal_now : (openings : List (List ℕ)) (journal : List Line) → IsLeftBy old.present (contents old.devices) old.declaration openings journal → Legal old.present.standing.paths (admitted_history journal)
  legal_now openings journal left = step.legal_now old.declaration s.lawful old.present (contents old.devices) room openings journal left
