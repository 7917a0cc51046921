-- Worked examples of what a report says: two paths that contradict each other are frozen from the beginning, and a slot is not. Beside a
-- slot they are stuck at their own resource.
use Rattle.std.proofs.Common.{◌≡◌, ◌≢◌, ◌<◌, ℕ, zero, suc, List, [], ◌∷◌, All, refl, sym, ap, subst, inl, inr, arith}
use Rattle.std.proofs.lemmas.List.Elements.{All-nil, All-cons}
use Rattle.path_model.specs.declared.ids.OpId.{OpId}
use Rattle.path_model.specs.declared.resource.Law.TheVariants.{Cell}
use Rattle.path_model.specs.declared.journal.Attempt.TheVariants.{Start, Finish}
use Rattle.path_model.specs.declared.journal.Reply.TheVariants.{Started, Finished}
use Rattle.path_model.specs.declared.journal.Line.{Line}
use Rattle.path_model.specs.declared.journal.Activation.{Activation}
use Rattle.path_model.specs.Trees.{Tree, Names, WellFormed, op, seq}
use Rattle.path_model.specs.Behaviour.{Behaves}
use Rattle.path_model.specs.OnePath.{AdmitsItsWords}
use Rattle.path_model.specs.Declarations.{Declaration, Path, resource_of}
use Rattle.path_model.specs.Honest.{IsHonest}
use Rattle.path_model.specs.Owed.{Owed}
use Rattle.path_model.specs.Stuck.{IsStartable, IsFrozen, IsAdmission, PathsKeepApart, IsStuckAt, AdmitNothingAt}
use Rattle.path_model.proofs.OnePath.{each_path_admits_its_words}
use Rattle.path_model.proofs.StuckStates.{frozen_stays_frozen, startables_may_start, live_activations_may_finish}
use Rattle.path_model.proofs.StuckResources.{stuck_stays_stuck}
use Rattle.path_model.proofs.Examples.{o, began, differ, behaves_nil, slot, slot_deposit, slot_remove_waits}
use Rattle.path_model.proofs.JournalExamples.{n, slot_declaration, slot_openings, deposit_started}

slot_formed : WellFormed slot
slot_formed = record { names_once = (tt, tt, differ); not_nested = (tt, tt) }

-- the slot's path with its operations exchanged
abbrev exchanged : Tree
exchanged = seq (op (o 1)) (op (o 0))

exchanged_formed : WellFormed exchanged
exchanged_formed = record { names_once = (tt, tt, λ a h k. differ a k h); not_nested = (tt, tt) }

exchanged_laws : AdmitsItsWords exchanged
exchanged_laws = each_path_admits_its_words exchanged exchanged_formed

exchanged_deposit_waits : Behaves exchanged (began 0 ∷ []) → ⊥
exchanged_deposit_waits h = let l : 0 < 0 = (exchanged_laws.starts ([]) (o 0) (behaves_nil exchanged) (inr refl)).1 h in omega (arith, l)

-- resource r cell operation a, b path a ; b end path b ; a end end, with the names left out
abbrev knot : Declaration
knot = record {
  resources = record { name = []; law = Cell } ∷ [];
  operations = record { name = []; resource = 0 } ∷ record { name = []; resource = 0 } ∷ [];
  paths = record { resource = 0; tree = slot } ∷ record { resource = 0; tree = exchanged } ∷ [];
}

-- each operation is forbidden by the path in which it comes second
nothing_starts : (k : ℕ) → IsStartable knot [] (o k) → ⊥
nothing_starts zero s = exchanged_deposit_waits s.legal.1.0
nothing_starts (suc zero) s = slot_remove_waits s.legal.0
nothing_starts (suc (suc k)) s = omega (arith, s.declared)

knot_is_frozen : IsFrozen knot []
knot_is_frozen = record { nothing_live = refl; nothing_startable = λ a s. nothing_starts a.0 s }

-- so no journal of it has an admission
knot_admits_nothing : (room : ℕ) (openings : List (List ℕ)) (ls : List Line) → IsHonest knot room openings ls → All (λ l. IsAdmission l.reply → ⊥) ls
knot_admits_nothing room openings ls h = frozen_stays_frozen knot room openings (slot_formed, (exchanged_formed, tt)) [] ls h knot_is_frozen

-- The slot isn't frozen at first: a deposit can start, and is owed its start.
slot_can_start : IsStartable slot_declaration [] (o 0)
slot_can_start = record { declared = omega arith; legal = (slot_deposit, tt) }

slot_is_not_frozen : IsFrozen slot_declaration [] → ⊥
slot_is_not_frozen f = f.nothing_startable (o 0) slot_can_start

slot_starts : Owed slot_declaration 4096 slot_openings [] 1 (Start (o 0)) (Started (n 0))
slot_starts = startables_may_start slot_declaration 4096 slot_openings (slot_formed, tt) [] tt 1 (o 0) (n 0) slot_can_start (omega arith) refl

-- Nor is it during the deposit: what is live is owed its finish.
slot_finishes : Owed slot_declaration 4096 slot_openings (deposit_started ∷ []) 1 (Finish (n 0)) Finished
slot_finishes = live_activations_may_finish slot_declaration 4096 slot_openings (deposit_started ∷ []) (n 0) (record { act = n 0; worker = 1; op = o 0 }) refl

-- a slot's path over other operations
abbrev other_slot : Tree
other_slot = seq (op (o 2)) (op (o 3))

other_differ : (a : OpId) → a ≡ o 2 → a ≡ o 3 → ⊥
other_differ a h k = let f = ap (λ x. x.0) h in let g = ap (λ x. x.0) k in omega (arith, f, g)

other_formed : WellFormed other_slot
other_formed = record { names_once = (tt, tt, other_differ); not_nested = (tt, tt) }

other_laws : AdmitsItsWords other_slot
other_laws = each_path_admits_its_words other_slot other_formed

other_deposit : Behaves other_slot (began 2 ∷ [])
other_deposit = (other_laws.starts ([]) (o 2) (behaves_nil other_slot) (inl refl)).0 (omega arith)

-- resource r cell operation a, b path a ; b end path b ; a end end resource s cell operation c, e path c ; e end end, with the names
-- left out
abbrev knot_and_slot : Declaration
knot_and_slot = record {
  resources = record { name = []; law = Cell } ∷ record { name = []; law = Cell } ∷ [];
  operations = record { name = []; resource = 0 } ∷ record { name = []; resource = 0 } ∷ record { name = []; resource = 1 } ∷ record { name = []; resource = 1 } ∷ [];
  paths = record { resource = 0; tree = slot } ∷ record { resource = 0; tree = exchanged } ∷ record { resource = 1; tree = other_slot } ∷ [];
}

abbrev knot_paths : List Path
knot_paths = record { resource = 0; tree = exchanged } ∷ record { resource = 1; tree = other_slot } ∷ []

abbrev slot_paths : List Path
slot_paths = record { resource = 1; tree = other_slot } ∷ []

abbrev KeepsApart : Path → Type 0
KeepsApart p = (a : OpId) → Names p.tree a → resource_of knot_and_slot a.0 ≡ p.resource

slot_apart : KeepsApart (record { resource = 0; tree = slot })
slot_apart a (inl e) = subst (λ x. resource_of knot_and_slot x.0 ≡ 0) (sym e) refl
slot_apart a (inr e) = subst (λ x. resource_of knot_and_slot x.0 ≡ 0) (sym e) refl

exchanged_apart : KeepsApart (record { resource = 0; tree = exchanged })
exchanged_apart a (inl e) = subst (λ x. resource_of knot_and_slot x.0 ≡ 0) (sym e) refl
exchanged_apart a (inr e) = subst (λ x. resource_of knot_and_slot x.0 ≡ 0) (sym e) refl

other_apart : KeepsApart (record { resource = 1; tree = other_slot })
other_apart a (inl e) = subst (λ x. resource_of knot_and_slot x.0 ≡ 1) (sym e) refl
other_apart a (inr e) = subst (λ x. resource_of knot_and_slot x.0 ≡ 1) (sym e) refl

all_apart : PathsKeepApart knot_and_slot
all_apart =
    All-cons KeepsApart (record { resource = 0; tree = slot }) knot_paths slot_apart
    (All-cons KeepsApart (record { resource = 0; tree = exchanged }) slot_paths exchanged_apart
    (All-cons KeepsApart (record { resource = 1; tree = other_slot }) [] other_apart (All-nil KeepsApart)))

-- neither operation of the knot can start
knot_starts_nothing : (k : ℕ) → resource_of knot_and_slot k ≡ 0 → IsStartable knot_and_slot [] (o k) → ⊥
knot_starts_nothing zero e s = exchanged_deposit_waits s.legal.1.0
knot_starts_nothing (suc zero) e s = slot_remove_waits s.legal.0
knot_starts_nothing (suc (suc zero)) e s = omega (arith, e)
knot_starts_nothing (suc (suc (suc zero))) e s = omega (arith, e)
knot_starts_nothing (suc (suc (suc (suc k)))) e s = omega (arith, s.declared)

-- so the knot's resource is stuck, and no journal admits anything of it, however the slot goes on
knot_is_stuck : IsStuckAt knot_and_slot [] 0
knot_is_stuck = record { nothing_live = All-nil (λ (x : Activation). resource_of knot_and_slot x.op.0 ≢ 0); nothing_startable = λ a here s. knot_starts_nothing a.0 here s }

knot_is_never_admitted : (room : ℕ) (openings : List (List ℕ)) (ls : List Line) → IsHonest knot_and_slot room openings ls → AdmitNothingAt knot_and_slot 0 [] ls
knot_is_never_admitted room openings ls h = stuck_stays_stuck knot_and_slot room openings (slot_formed, (exchanged_formed, (other_formed, tt))) all_apart 0 [] ls h knot_is_stuck

-- the slot's resource isn't stuck: its deposit can start
other_can_start : IsStartable knot_and_slot [] (o 2)
other_can_start = record { declared = omega arith; legal = (behaves_nil slot, (behaves_nil exchanged, (other_deposit, tt))) }

other_is_not_stuck : IsStuckAt knot_and_slot [] 1 → ⊥
other_is_not_stuck f = f.nothing_startable (o 2) refl other_can_start
