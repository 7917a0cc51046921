-- When a gate, what is live and what resources contain are those of a journal.
use Rattle.std.specs.Prelude.{◌≡◌, ◌<◌, ◌≤◌, ℕ, List, All, length, slice_index}
use Rattle.path_model.specs.declared.journal.Line.{Line}
use Rattle.path_model.specs.Declarations.{Declaration, paths_of}
use Rattle.path_model.specs.declared.ids.OpId.{OpId}
use Rattle.path_model.specs.Journals.{live, live_count, begun_in, admitted_history}
use Rattle.path_model.specs.Contents.{contents_after}
use Rattle.path_model.specs.Honest.{IsHonest}
use Rattle.path_gate.specs.Standings.{IsAt, IsNamed}
use Rattle.path_state.specs.States.{WereOwed}
use Rattle.path_step.specs.Steps.{Present, held_at}

-- What holds of a gate and of what is live, whichever lines led there: what is live was declared, each operation that a path names is in
-- progress at least as often as it is live, and at most as many starts were admitted at the gate as activations were begun.
pub record AreTogether (present : Present) (operations : ℕ) : Type 0 where
  pub declared : All (λ a. a.op.0 < operations) present.register.live
  pub running :
      (a : OpId) → IsNamed present.standing.paths a
      → live_count a present.register.live ≤ slice_index present.standing.in_progress a.0
  pub admitted : present.standing.admitted ≤ present.register.begun

-- They are what these lines leave, which were owed in whatever room. The gate may have been made on the way, with fewer starts admitted.
pub record IsLeftBy (present : Present) (contents : List (List ℕ)) (d : Declaration) (openings : List (List ℕ)) (journal : List Line)
    : Type 0 where
  pub honest : WereOwed d openings journal
  pub paths : present.standing.paths ≡ paths_of d
  pub at : IsAt present.standing (admitted_history journal)
  pub live : present.register.live ≡ live journal
  pub begun : present.register.begun ≡ begun_in journal
  pub declared : All (λ a. a.op.0 < length d.operations) present.register.live
  pub one_each : length contents ≡ length d.resources
  pub held : (r : ℕ) → r < length d.resources → contents_after d openings journal r ≡ held_at contents r

-- they are what an honest journal of this room leaves
pub record IsPresentOf (present : Present) (contents : List (List ℕ)) (d : Declaration) (room : ℕ) (openings : List (List ℕ))
    (journal : List Line) : Type 0 where
  pub honest : IsHonest d room openings journal
  pub paths : present.standing.paths ≡ paths_of d
  pub at : IsAt present.standing (admitted_history journal)
  pub admitted : present.standing.admitted ≡ begun_in journal
  pub live : present.register.live ≡ live journal
  pub begun : present.register.begun ≡ begun_in journal
  pub declared : All (λ a. a.op.0 < length d.operations) present.register.live
  pub one_each : length contents ≡ length d.resources
  pub held : (r : ℕ) → r < length d.resources → contents_after d openings journal r ≡ held_at contents r
