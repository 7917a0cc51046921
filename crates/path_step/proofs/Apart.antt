-- What honest lines of a room leave is what lines leave that were owed; and what they leave in more room, and over other contents.
use Rattle.std.proofs.Common.{◌≡◌, ◌≢◌, ℕ, false, ◌+◌, ◌≤◌, ◌<◌, ◌∙◌, List, [], ◌∷◌, ◌++◌, length, sym}
use Rattle.path_model.specs.declared.journal.Attempt.{Attempt}
use Rattle.path_model.specs.declared.journal.Reply.{Reply}
use Rattle.path_model.specs.declared.journal.Reply.TheVariants.{NoRoom}
use Rattle.path_model.specs.declared.journal.Verb.{Verb}
use Rattle.path_model.specs.declared.journal.Line.{Line}
use Rattle.path_model.specs.declared.resource.Law.{Law}
use Rattle.path_model.specs.Declarations.{Declaration, law_of}
use Rattle.path_model.specs.Contents.{contents_after}
use Rattle.path_model.specs.Honest.{IsHonest}
use Rattle.path_model.specs.Owed.{Owed, taken}
use Rattle.path_model.specs.Places.{lacks_number}
use Rattle.path_model.proofs.CallerLemmas.{line_of, more_room_keeps_honest, honest_more}
use Rattle.path_decl.specs.Lawful.{Lawful}
use Rattle.path_state.specs.States.{WereOwed}
use Rattle.path_step.specs.Steps.{Present, AreReady, Answers, IsRunning, held_at}
use Rattle.path_step.specs.Presents.{IsLeftBy, IsPresentOf}
use Rattle.path_step.proofs.Answered as answered
use Rattle.path_step.proofs.Written as written
use Rattle.path_step.proofs.Together.{admitted_after}

module _ (old : Present) (before : List (List ℕ)) (d : Declaration) (room : ℕ) where
  pub left_by : (openings : List (List ℕ)) (journal : List Line) → IsPresentOf old before d room openings journal → IsLeftBy old before d openings journal
  left_by openings journal s = record {
    honest = (room, s.honest);
    paths = s.paths;
    at = s.at;
    live = s.live;
    begun = s.begun;
    declared = s.declared;
    one_each = s.one_each;
    held = s.held;
  }

  -- in more room
  pub in_more_room : (more : ℕ) (openings : List (List ℕ)) (journal : List Line) → room ≤ more → IsPresentOf old before d room openings journal → IsPresentOf old before d more openings journal
  in_more_room more openings journal le s = record {
    honest = more_room_keeps_honest d room more openings journal le s.honest;
    paths = s.paths;
    at = s.at;
    admitted = s.admitted;
    live = s.live;
    begun = s.begun;
    declared = s.declared;
    one_each = s.one_each;
    held = s.held;
  }

-- over other contents, over which the lines were owed, too
pub with_contents : (old : Present) (before : List (List ℕ)) (d : Declaration) (openings : List (List ℕ)) (journal : List Line) → IsLeftBy old before d openings journal
    → (after others : List (List ℕ)) → WereOwed d others journal → length after ≡ length d.resources
    → ((r : ℕ) → r < length d.resources → contents_after d others journal r ≡ held_at after r) → IsLeftBy old after d others journal
with_contents old before d openings journal s after others honest one_each held = record {
  honest = honest;
  paths = s.paths;
  at = s.at;
  live = s.live;
  begun = s.begun;
  declared = s.declared;
  one_each = one_each;
  held = held;
}

module _ (d : Declaration) (lawful : Lawful d) (old : Present) (before : List (List ℕ)) (room : ℕ) (openings : List (List ℕ)) (journal : List Line) (s : IsPresentOf old before d room openings journal) where
  pub taken_is : taken journal ≡ length journal + length old.register.live
  taken_is = answered.taken_left d lawful old before room openings journal (left_by old before d room openings journal s)

  pub ready : (has_law : ℕ → Law → Type 0) → ((r : ℕ) → r < length d.resources → has_law r (law_of d r)) → AreReady d old.register.live before has_law
  ready = answered.ready_left d lawful old before room openings journal (left_by old before d room openings journal s)

  pub running : IsRunning old.standing old.register
  running = answered.running_left d lawful old before room openings journal (left_by old before d room openings journal s)

module _ {D : Type 0} (contents : D → List (List ℕ)) (asked : D → ℕ → Verb → Reply → D → Type 0) (d : Declaration) (lawful : Lawful d) (old : Present) (before : D) (room : ℕ)
    (openings : List (List ℕ)) (journal : List Line) (s : IsPresentOf old (contents before) d room openings journal) where
  pub owed_is : (w : ℕ) (attempt : Attempt) (reply : Reply) (new : Present) (after : D) → lacks_number old.register.begun attempt ≡ false
      → Answers contents asked d old before room (length journal) w attempt reply new after → Owed d room openings journal w attempt reply
  owed_is = answered.owed_left contents asked d lawful old before room openings journal (left_by old (contents before) d room openings journal s)

  -- with a line
  pub with_the_line : (w : ℕ) (attempt : Attempt) (reply : Reply) (new : Present) (after : D) → Answers contents asked d old before room (length journal) w attempt reply new after → reply ≢ NoRoom
      → IsPresentOf new (contents after) d room openings (journal ++ line_of w attempt reply ∷ [])
  with_the_line w attempt reply new after answers some =
      let left = left_by old (contents before) d room openings journal s in
      let more = written.with_line_left contents asked d lawful old before room openings journal left w attempt reply new after answers some in
      let owed = answered.owed_written contents asked d lawful old before room openings journal left w attempt reply new after answers some in
      record {
        honest = honest_more d room openings journal (line_of w attempt reply) s.honest owed some;
        paths = more.paths;
        at = more.at;
        admitted = admitted_after contents asked d old before room (length journal) w attempt reply new after answers (s.admitted ∙ sym s.begun) ∙ more.begun;
        live = more.live;
        begun = more.begun;
        declared = more.declared;
        one_each = more.one_each;
        held = more.held;
      }
