-- What the semaphores say of a start, trimmed or not, is what an honest journal owes.
use Rattle.std.proofs.Common.{◌≡◌, ◌<◌, ◌≤◌, ◌+◌, ℕ, List, length}
use Rattle.path_model.specs.declared.ids.OpId.{OpId}
use Rattle.path_model.specs.declared.ids.ActId.{ActId}
use Rattle.path_model.specs.declared.ids.PathId.{PathId}
use Rattle.path_model.specs.declared.journal.Attempt.TheVariants.{Start}
use Rattle.path_model.specs.declared.journal.Reply.TheVariants.{Started, Blocked}
use Rattle.path_model.specs.declared.journal.Line.{Line}
use Rattle.path_model.specs.Trees.{WellFormed}
use Rattle.path_model.specs.Legal as legal
use Rattle.path_model.specs.AllPaths.{after, Blocks}
use Rattle.path_model.specs.Trimmed.{lean_after, LeanBlocks}
use Rattle.path_model.specs.Declarations.{Declaration, paths_of}
use Rattle.path_model.specs.Journals.{begun_in, admitted_history}
use Rattle.path_model.specs.Owed.{taken, OwedToStart, Owed}
use Rattle.path_model.specs.Honest.{IsHonest}
use Rattle.path_model.proofs.AllPaths.{all_paths_judge}
use Rattle.path_model.proofs.Trimmed.{trimmed_admits_the_words}
use Rattle.path_model.proofs.Progress.{legal_kept}
use Rattle.path_model.proofs.StuckStates.{legal_free}

module _ (d : Declaration) (room : ℕ) (openings : List (List ℕ)) (wf : legal.Every WellFormed (paths_of d)) (ls : List Line) (h : IsHonest d room openings ls) (w : ℕ) (a : OpId) (fits : taken ls + 2 ≤ room) (declared : a.0 < length d.operations) where
  pub passing_start_is_owed : (n : ActId) → n.0 ≡ begun_in ls → legal.NoneOf (Blocks a) (after (paths_of d) (admitted_history ls)) → Owed d room openings ls w (Start a) (Started n)
  passing_start_is_owed n e k = OwedToStart.started n fits declared (((all_paths_judge (paths_of d) wf (admitted_history ls) (legal_kept d room openings wf ls h)).none a).0 k) e

  pub blocked_start_is_owed : (p : PathId) → legal.First (Blocks a) (after (paths_of d) (admitted_history ls)) p.0 → Owed d room openings ls w (Start a) (Blocked p)
  blocked_start_is_owed p k = OwedToStart.blocked p fits declared (((all_paths_judge (paths_of d) wf (admitted_history ls) (legal_kept d room openings wf ls h)).first a p.0).0 k)

  pub lean_passing_start_is_owed : (n : ActId) → n.0 ≡ begun_in ls → legal.NoneOf (LeanBlocks a) (lean_after (paths_of d) (admitted_history ls)) → Owed d room openings ls w (Start a) (Started n)
  lean_passing_start_is_owed n e k =
      let j = trimmed_admits_the_words (paths_of d) wf (admitted_history ls) (legal_kept d room openings wf ls h) a in
      OwedToStart.started n fits declared (legal_free d room openings wf ls h a (j.starts.0 k)) e

  pub lean_blocked_start_is_owed : (p : PathId) → legal.First (LeanBlocks a) (lean_after (paths_of d) (admitted_history ls)) p.0 → Owed d room openings ls w (Start a) (Blocked p)
  lean_blocked_start_is_owed p k =
      let j = trimmed_admits_the_words (paths_of d) wf (admitted_history ls) (legal_kept d room openings wf ls h) a in
      OwedToStart.blocked p fits declared ((j.first p.0).0 k)
