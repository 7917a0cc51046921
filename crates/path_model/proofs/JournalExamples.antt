-- Worked examples of journals: the slot's honest journal, one that isn't honest, and one without room.
use Rattle.std.proofs.Common.{◌≡◌, ℕ, List, [], ◌∷◌, refl, inl, inr, arith}
use Rattle.path_model.specs.declared.ids.ActId.{ActId}
use Rattle.path_model.specs.declared.ids.PathId.{PathId}
use Rattle.path_model.specs.declared.resource.Law.TheVariants.{Cell}
use Rattle.path_model.specs.declared.journal.Verb.TheVariants.{Put, Look}
use Rattle.path_model.specs.declared.journal.Attempt.TheVariants.{Start, Apply, Finish}
use Rattle.path_model.specs.declared.journal.Reply.TheVariants.{Started, Blocked, Used, Finished, Stale, NotYours, NoRoom}
use Rattle.path_model.specs.declared.journal.Line.{Line}
use Rattle.path_model.specs.Declarations.{Declaration}
use Rattle.path_model.specs.Journals.{live, admitted_history}
use Rattle.path_model.specs.Contents.{contents_after}
use Rattle.path_model.specs.Owed.{OwedToStart, OwedToUse, OwedToFinish, Owed}
use Rattle.path_model.specs.Honest.{IsHonest}
use Rattle.path_model.proofs.Examples.{o, began, ended, slot, slot_deposit, slot_remove_still_waits, slot_remove}
use Rattle.path_model.proofs.HonestJournals.{line_of}

abbrev pub n : ℕ → ActId
n k = record { 0 = k }

abbrev first_path : PathId
first_path = record { 0 = 0 }

-- resource slot cell operation deposit, remove path deposit ; remove end end, with the names left out
abbrev pub slot_declaration : Declaration
slot_declaration = record {
  resources = record { name = []; law = Cell } ∷ [];
  operations = record { name = []; resource = 0 } ∷ record { name = []; resource = 0 } ∷ [];
  paths = record { resource = 0; tree = slot } ∷ [];
}

abbrev pub slot_openings : List (List ℕ)
slot_openings = (0 ∷ []) ∷ []

abbrev pub deposit_started : Line
deposit_started = line_of 1 (Start (o 0)) (Started (n 0))

abbrev remove_blocked : Line
remove_blocked = line_of 2 (Start (o 1)) (Blocked first_path)

abbrev put_used : Line
put_used = line_of 1 (Apply (n 0) (Put 7)) (Used 0)

abbrev deposit_finished : Line
deposit_finished = line_of 1 (Finish (n 0)) Finished

abbrev remove_started : Line
remove_started = line_of 2 (Start (o 1)) (Started (n 1))

-- worker 1 deposits 7, while worker 2 waits to look at it
abbrev slot_journal : List Line
slot_journal = deposit_started ∷ remove_blocked ∷ put_used ∷ deposit_finished ∷ remove_started ∷ line_of 2 (Apply (n 1) Look) (Used 7) ∷ []

slot_journal_history : admitted_history slot_journal ≡ began 0 ∷ ended 0 ∷ began 1 ∷ []
slot_journal_history = refl

slot_journal_live : live slot_journal ≡ record { act = n 1; worker = 2; op = o 1 } ∷ []
slot_journal_live = refl

slot_journal_contents : contents_after slot_declaration slot_openings slot_journal 0 ≡ 7 ∷ []
slot_journal_contents = refl

deposit_starts : Owed slot_declaration 4096 slot_openings [] 1 (Start (o 0)) (Started (n 0))
deposit_starts = OwedToStart.started (n 0) (omega arith) (omega arith) (λ f. f.1 slot_deposit, tt) refl

remove_waits : Owed slot_declaration 4096 slot_openings (deposit_started ∷ []) 2 (Start (o 1)) (Blocked first_path)
remove_waits = OwedToStart.blocked first_path (omega arith) (omega arith) (inl ((inr refl, slot_remove_still_waits), refl))

seven_put : Owed slot_declaration 4096 slot_openings (deposit_started ∷ remove_blocked ∷ []) 1 (Apply (n 0) (Put 7)) (Used 0)
seven_put = OwedToUse.served (record { act = n 0; worker = 1; op = o 0 }) 0 (7 ∷ []) (omega arith) (record { found = refl; own = refl }) refl

deposit_finishes : Owed slot_declaration 4096 slot_openings (deposit_started ∷ remove_blocked ∷ put_used ∷ []) 1 (Finish (n 0)) Finished
deposit_finishes = OwedToFinish.finished (record { act = n 0; worker = 1; op = o 0 }) (record { found = refl; own = refl })

remove_starts : Owed slot_declaration 4096 slot_openings (deposit_started ∷ remove_blocked ∷ put_used ∷ deposit_finished ∷ []) 2 (Start (o 1)) (Started (n 1))
remove_starts = OwedToStart.started (n 1) (omega arith) (omega arith) (λ f. f.1 slot_remove, tt) refl

seven_seen : Owed slot_declaration 4096 slot_openings (deposit_started ∷ remove_blocked ∷ put_used ∷ deposit_finished ∷ remove_started ∷ []) 2 (Apply (n 1) Look) (Used 7)
seven_seen = OwedToUse.served (record { act = n 1; worker = 2; op = o 1 }) 7 (7 ∷ []) (omega arith) (record { found = refl; own = refl }) refl

slot_journal_honest : IsHonest slot_declaration 4096 slot_openings slot_journal
slot_journal_honest = (deposit_starts, λ e. cc, (remove_waits, λ e. cc, (seven_put, λ e. cc, (deposit_finishes, λ e. cc, (remove_starts, λ e. cc, (seven_seen, λ e. cc, tt))))))

-- no journal admits the start of remove during the deposit
remove_is_refused : (room k : ℕ) → Owed slot_declaration room slot_openings (deposit_started ∷ []) 2 (Start (o 1)) (Started (n k)) → ⊥
remove_is_refused room k (OwedToStart.started m l d free e) = free.0 (inr refl, slot_remove_still_waits)

early_remove_is_wrong : (room k : ℕ) → IsHonest slot_declaration room slot_openings (deposit_started ∷ line_of 2 (Start (o 1)) (Started (n k)) ∷ []) → ⊥
early_remove_is_wrong room k h = remove_is_refused room k h.2.0

-- a journal of two places has no third line: only the finish is owed another reply than that there is no room
no_room_to_use : Owed slot_declaration 2 slot_openings (deposit_started ∷ []) 1 (Apply (n 0) (Put 7)) NoRoom
no_room_to_use = OwedToUse.no_room (omega arith)

room_to_finish : Owed slot_declaration 2 slot_openings (deposit_started ∷ []) 1 (Finish (n 0)) Finished
room_to_finish = OwedToFinish.finished (record { act = n 0; worker = 1; op = o 0 }) (record { found = refl; own = refl })

no_room_to_start : Owed slot_declaration 2 slot_openings (deposit_started ∷ deposit_finished ∷ []) 1 (Start (o 1)) NoRoom
no_room_to_start = OwedToStart.no_room (omega arith)

-- another worker's finish isn't admitted, and a second finish of the same number finds nothing
other_finish : Owed slot_declaration 4096 slot_openings (deposit_started ∷ []) 2 (Finish (n 0)) NotYours
other_finish = OwedToFinish.not_yours (record { act = n 0; worker = 1; op = o 0 }) (omega arith) refl (λ e. omega (arith, e))

second_finish : Owed slot_declaration 4096 slot_openings (deposit_started ∷ deposit_finished ∷ []) 1 (Finish (n 0)) Stale
second_finish = OwedToFinish.stale (omega arith) refl
