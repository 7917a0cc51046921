-- Worked examples of states: a file that is open while it is read, a buffer of four places, and where paths can't stand.
use Rattle.std.proofs.Common.{◌≡◌, ◌==◌, ◌+◌, ◌↔◌, if◌then◌else◌, ℕ, List, [], ◌∷◌, ◌++◌, refl, sym, subst, inl, inr, arith}
use Rattle.path_model.specs.declared.ids.OpId.{OpId}
use Rattle.path_model.specs.declared.ids.ActId.{ActId}
use Rattle.path_model.specs.declared.ids.PathId.{PathId}
use Rattle.path_model.specs.declared.history.Event.{Event}
use Rattle.path_model.specs.declared.history.Event.TheVariants.{Began, Ended}
use Rattle.path_model.specs.declared.resource.Law.TheVariants.{Cell, Queue}
use Rattle.path_model.specs.declared.journal.Verb.TheVariants.{Put, Take, Look}
use Rattle.path_model.specs.declared.journal.Attempt.TheVariants.{Start, Apply, Finish}
use Rattle.path_model.specs.declared.journal.Reply.TheVariants.{Started, Blocked, Used, Finished, NotYours}
use Rattle.path_model.specs.declared.journal.Line.{Line}
use Rattle.path_model.specs.declared.journal.Activation.{Activation}
use Rattle.path_model.specs.Trees.{any, most, Tree, op, seq, alt, burst, WellFormed}
use Rattle.path_model.specs.Histories.{begun, ended, InProgress}
use Rattle.path_model.specs.Projection.{LegalOn}
use Rattle.path_model.specs.Declarations.{Declaration}
use Rattle.path_model.proofs.CallerLemmas.{line_of, well_formed_trees_pass, starts_are_legal_unless_opposed, finishes_are_legal_in_progress}
use Rattle.path_state.specs.Standings.{stands_after}
use Rattle.path_state.specs.Pasts.{CanStand, Past}
use Rattle.path_state.specs.States.{state_behind}
use Rattle.path_state.proofs.Standings.{standings_tell_what_may_follow}
use Rattle.path_state.proofs.Fillings.{each_standing_has_a_past}

abbrev o : ℕ → OpId
o k = record { 0 = k }

abbrev n : ℕ → ActId
n k = record { 0 = k }

abbrev p : ℕ → PathId
p k = record { 0 = k }

abbrev activation : ℕ → ℕ → ℕ → Activation
activation k w a = record { act = n k; worker = w; op = o a }

-- resource r cell operation open, read, close path open ; { read } ; close end end, with the names left out
abbrev file : Tree
file = seq (op (o 0)) (seq (burst any (op (o 1))) (op (o 2)))

abbrev file_declaration : Declaration
file_declaration = record {
  resources = record { name = []; law = Cell } ∷ [];
  operations = record { name = []; resource = 0 } ∷ record { name = []; resource = 0 } ∷ record { name = []; resource = 0 } ∷ [];
  paths = record { resource = 0; tree = file } ∷ [];
}

-- worker 1 opens it, 2 and 3 read, and 2 is done
abbrev file_journal : List Line
file_journal =
    line_of 1 (Start (o 0)) (Started (n 0)) ∷ line_of 2 (Start (o 1)) (Blocked (p 0)) ∷ line_of 1 (Finish (n 0)) Finished ∷ line_of 2 (Start (o 1)) (Started (n 1))
    ∷ line_of 3 (Start (o 1)) (Started (n 2)) ∷ line_of 2 (Apply (n 1) (Put 7)) (Used 0) ∷ line_of 3 (Start (o 2)) (Blocked (p 0)) ∷ line_of 2 (Finish (n 1)) Finished ∷ []

-- as long as one reads, nothing stands behind a `;`
file_state : state_behind file_declaration ((0 ∷ []) ∷ []) file_journal ≡ record {
  lines = 8;
  starts = 3;
  highest = 3;
  live = activation 2 3 1 ∷ [];
  stands = (0 ∷ 0 ∷ []) ∷ [];
  contents = (7 ∷ []) ∷ [];
}
file_state = refl

-- when the last has read, one stands behind the second `;`
file_state_behind : state_behind file_declaration ((0 ∷ []) ∷ []) (file_journal ++ line_of 3 (Finish (n 2)) Finished ∷ []) ≡ record {
  lines = 9;
  starts = 3;
  highest = 3;
  live = [];
  stands = (0 ∷ 1 ∷ []) ∷ [];
  contents = (7 ∷ []) ∷ [];
}
file_state_behind = refl

-- resource r queue 3 operation put, get, clear path { put ; get : 4 } , clear end path { put : 1 } end end
abbrev buffer : Tree
buffer = alt (burst (most 4) (seq (op (o 0)) (op (o 1)))) (op (o 2))

abbrev buffer_declaration : Declaration
buffer_declaration = record {
  resources = record { name = []; law = Queue 3 } ∷ [];
  operations = record { name = []; resource = 0 } ∷ record { name = []; resource = 0 } ∷ record { name = []; resource = 0 } ∷ [];
  paths = record { resource = 0; tree = buffer } ∷ record { resource = 0; tree = burst (most 1) (op (o 0)) } ∷ [];
}

-- 5 and 6 are put, a get takes 5, and a third put has begun
abbrev buffer_journal : List Line
buffer_journal =
    line_of 1 (Start (o 0)) (Started (n 0)) ∷ line_of 1 (Apply (n 0) (Put 5)) (Used 1) ∷ line_of 1 (Finish (n 0)) Finished
    ∷ line_of 1 (Start (o 0)) (Started (n 1)) ∷ line_of 1 (Apply (n 1) (Put 6)) (Used 2) ∷ line_of 1 (Finish (n 1)) Finished
    ∷ line_of 4 (Start (o 1)) (Started (n 2)) ∷ line_of 4 (Apply (n 2) Take) (Used 5) ∷ line_of 2 (Start (o 2)) (Blocked (p 0)) ∷ line_of 9 (Finish (n 2)) NotYours
    ∷ line_of 3 (Start (o 0)) (Started (n 3)) ∷ line_of 3 (Apply (n 3) Look) (Used 6) ∷ []

buffer_state : state_behind buffer_declaration ([] ∷ []) buffer_journal ≡ record {
  lines = 12;
  starts = 4;
  highest = 9;
  live = activation 2 4 1 ∷ activation 3 3 0 ∷ [];
  stands = (1 ∷ []) ∷ [] ∷ [];
  contents = (6 ∷ []) ∷ [];
}
buffer_state = refl

-- so many of put, get and clear are in progress
abbrev busy : ℕ → ℕ → ℕ → OpId → ℕ
busy puts gets clears a = if a.0 == 0 then puts else (if a.0 == 1 then gets else (if a.0 == 2 then clears else 0))

buffer_formed : WellFormed buffer
buffer_formed = (well_formed_trees_pass buffer).0 refl

-- the buffer can stand so, and with two more; a history of its path leads there
buffer_can : CanStand buffer (busy 1 1 0) (1 ∷ [])
buffer_can = record { places = refl; bounds = ((((tt, tt), omega arith), tt)); one = omega arith }

buffer_past : Past buffer (busy 1 1 0) (1 ∷ [])
buffer_past = (each_standing_has_a_past buffer buffer_formed (busy 1 1 0) (1 ∷ [])).0 buffer_can

-- never with five underway, never with a clear beside them, and never with a number too few
buffer_full : Past buffer (busy 2 1 0) (2 ∷ []) → ⊥
buffer_full k = let c = (each_standing_has_a_past buffer buffer_formed (busy 2 1 0) (2 ∷ [])).1 k in let b = c.bounds.0.1 in omega (arith, b)

buffer_alone : Past buffer (busy 0 0 1) (1 ∷ []) → ⊥
buffer_alone k = let c = (each_standing_has_a_past buffer buffer_formed (busy 0 0 1) (1 ∷ [])).1 k in let b = c.one in omega (arith, b)

buffer_short : Past buffer (busy 0 0 0) [] → ⊥
buffer_short k = let c = (each_standing_has_a_past buffer buffer_formed (busy 0 0 0) []).1 k in let b = c.places in omega (arith, b)

-- path deposit ; remove end: behind a whole round stands what stood before it, so the same may follow
abbrev slot : Tree
slot = seq (op (o 0)) (op (o 1))

slot_formed : WellFormed slot
slot_formed = (well_formed_trees_pass slot).0 refl

abbrev round : List Event
round = Began (o 0) ∷ Ended (o 0) ∷ Began (o 1) ∷ Ended (o 1) ∷ []

slot_round : LegalOn slot round
slot_round = finish (o 1) (Began (o 0) ∷ Ended (o 0) ∷ Began (o 1) ∷ []) third (omega arith)
  where
    finish : (a : OpId) (h : List Event) → LegalOn slot h → InProgress a h → LegalOn slot (h ++ Ended a ∷ [])
    finish a h l i = (finishes_are_legal_in_progress slot slot_formed h l a).1 (λ _. i)

    first : LegalOn slot (Began (o 0) ∷ [])
    first = (starts_are_legal_unless_opposed slot slot_formed [] ([], ([], refl)) (o 0)).1 (λ _ x. elim x [ inl y ↦ omega (arith, y) | inr y ↦ elim y [ inl z ↦ omega (arith, z) | inr z ↦ omega (arith, z) ] ])

    second : LegalOn slot (Began (o 0) ∷ Ended (o 0) ∷ [])
    second = finish (o 0) (Began (o 0) ∷ []) first (omega arith)

    third : LegalOn slot (Began (o 0) ∷ Ended (o 0) ∷ Began (o 1) ∷ [])
    third = (starts_are_legal_unless_opposed slot slot_formed (Began (o 0) ∷ Ended (o 0) ∷ []) second (o 1)).1 (λ _ x. omega (arith, x))

again : (w : List Event) → LegalOn slot (round ++ w) ↔ LegalOn slot w
again w = standings_tell_what_may_follow slot slot_formed (λ a. 0) (0 ∷ []) round []
    (record { legal = slot_round; counted = λ a k. elim k [ inl e ↦ subst (λ b. 0 + ended b round ≡ begun b round) (sym e) refl | inr e ↦ subst (λ b. 0 + ended b round ≡ begun b round) (sym e) refl ]; standing = refl })
    (record { legal = ([], ([], refl)); counted = λ a k. refl; standing = refl }) w

-- with a deposit behind the `;` a remove may follow, and before it none
slot_stands : stands_after slot (Began (o 0) ∷ Ended (o 0) ∷ []) ≡ 1 ∷ []
slot_stands = refl
