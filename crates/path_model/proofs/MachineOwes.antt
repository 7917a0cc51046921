-- Words and semaphores owe the same replies, and call the same journals honest.
use Rattle.std.proofs.Common.{◌↔◌, ℕ, List, [], ◌∷◌, ◌++◌}
use Rattle.path_model.specs.declared.ids.OpId.{OpId}
use Rattle.path_model.specs.declared.journal.Attempt.{Attempt}
use Rattle.path_model.specs.declared.journal.Attempt.TheVariants.{Start, Apply, Finish}
use Rattle.path_model.specs.declared.journal.Reply.{Reply}
use Rattle.path_model.specs.declared.journal.Line.{Line}
use Rattle.path_model.specs.Trees.{WellFormed}
use Rattle.path_model.specs.Legal.{Every}
use Rattle.path_model.specs.AllPaths.{Judged}
use Rattle.path_model.specs.Declarations.{Declaration, paths_of}
use Rattle.path_model.specs.Journals.{admitted_history}
use Rattle.path_model.specs.Owed.{by_words, by_machine, OwedToStart, Owed, OwedByMachine}
use Rattle.path_model.specs.Honest.{IsHonestFrom, IsHonest, TheMachineOwesTheSame, HonestByMachineIsHonest}
use Rattle.path_model.proofs.AllPaths.{all_paths_judge}
use Rattle.path_model.proofs.HonestJournals.{honest_more}
use Rattle.path_model.proofs.Progress.{legal_kept}

module _ (d : Declaration) (room : ℕ) (openings : List (List ℕ)) (wf : Every WellFormed (paths_of d)) (ls : List Line) (h : IsHonest d room openings ls) where
  judged : Judged (paths_of d) (admitted_history ls)
  judged = all_paths_judge (paths_of d) wf (admitted_history ls) (legal_kept d room openings wf ls h)

  start_to_words : (a : OpId) (reply : Reply) → OwedToStart (by_machine d) d room ls a reply → OwedToStart (by_words d) d room ls a reply
  start_to_words a _ (OwedToStart.no_room l) = OwedToStart.no_room l
  start_to_words a _ (OwedToStart.unknown l k) = OwedToStart.unknown l k
  start_to_words a _ (OwedToStart.blocked p l k f) = OwedToStart.blocked p l k ((judged.first a p.0).0 f)
  start_to_words a _ (OwedToStart.started n l k f e) = OwedToStart.started n l k ((judged.none a).0 f) e

  start_to_machine : (a : OpId) (reply : Reply) → OwedToStart (by_words d) d room ls a reply → OwedToStart (by_machine d) d room ls a reply
  start_to_machine a _ (OwedToStart.no_room l) = OwedToStart.no_room l
  start_to_machine a _ (OwedToStart.unknown l k) = OwedToStart.unknown l k
  start_to_machine a _ (OwedToStart.blocked p l k f) = OwedToStart.blocked p l k ((judged.first a p.0).1 f)
  start_to_machine a _ (OwedToStart.started n l k f e) = OwedToStart.started n l k ((judged.none a).1 f) e

  both_owe : (w : ℕ) (attempt : Attempt) (reply : Reply) → OwedByMachine d room openings ls w attempt reply ↔ Owed d room openings ls w attempt reply
  both_owe w (Start a) reply = (start_to_words a reply, start_to_machine a reply)
  both_owe w (Apply n verb) reply = (λ o. o, λ o. o)
  both_owe w (Finish n) reply = (λ o. o, λ o. o)

pub the_machine_owes_the_same : TheMachineOwesTheSame
the_machine_owes_the_same d room openings wf ls h w attempt reply = both_owe d room openings wf ls h w attempt reply

module _ (d : Declaration) (room : ℕ) (openings : List (List ℕ)) (wf : Every WellFormed (paths_of d)) where
  to_words : (before ls : List Line) → IsHonest d room openings before → IsHonestFrom (by_machine d) d room openings before ls → IsHonestFrom (by_words d) d room openings before ls
  to_words before [] h k = tt
  to_words before (l ∷ ls) h k =
      let o = (both_owe d room openings wf before h l.worker l.attempt l.reply).0 k.0 in
      (o, k.1, to_words (before ++ l ∷ []) ls (honest_more d room openings before l h o k.1) k.2)

  to_machine : (before ls : List Line) → IsHonest d room openings before → IsHonestFrom (by_words d) d room openings before ls → IsHonestFrom (by_machine d) d room openings before ls
  to_machine before [] h k = tt
  to_machine before (l ∷ ls) h k = (
    (both_owe d room openings wf before h l.worker l.attempt l.reply).1 k.0,
    k.1,
    to_machine (before ++ l ∷ []) ls (honest_more d room openings before l h k.0 k.1) k.2,
  )

pub honest_by_machine_is_honest : HonestByMachineIsHonest
honest_by_machine_is_honest d room openings wf ls = (to_words d room openings wf [] ls tt, to_machine d room openings wf [] ls tt)
