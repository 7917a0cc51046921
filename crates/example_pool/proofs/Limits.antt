-- The limits of a pool, from the laws of paths.
use Rattle.std.proofs.Common.{◌≡◌, ◌⊎◌, ◌<◌, ◌≤◌, ◌+◌, ℕ, List, [], length, refl, sym, ap, ◌∙◌, subst, inl, inr, arith}
use Rattle.std.proofs.lemmas.Bool.{cases_lt}
use Rattle.path_model.specs.declared.journal.Line.{Line}
use Rattle.path_model.specs.Trees.{op, WellFormed}
use Rattle.path_model.specs.Refusals.{StandsAgainst}
use Rattle.path_model.specs.Journals.{live, admitted_history}
use Rattle.path_model.specs.declared.journal.Attempt.{Attempt}
use Rattle.path_model.specs.declared.journal.Reply.{Reply}
use Rattle.path_model.specs.Segments.{joined, taken_behind, OwedBehind}
use Rattle.path_model.specs.JournalGuarantees.{Follows, live_among}
use Rattle.path_model.proofs.CallerLemmas.{well_formed_trees_pass, live_bounds_hold, one_is_live_outside_braces, live_parts_outside_braces_are_alone}
use Rattle.path_system.specs.Accounts.{Account, all_lines, rotated, IsSystem}
use Rattle.path_system.specs.Before.{BehindEach, earlier_behind}
use Rattle.path_system.specs.Controllers.{IsControlled}
use Rattle.path_system.proofs.CallerLemmas.{OwedNext, follows_the_path, is_system_of, of_system, places_taken, rotated_lines}
use Rattle.example_pool.specs.Pool.{query, backup, pool_tree, IsPoolDeclaration, IsPool, queries, backups, KeepsLimits}

pub pool_formed : WellFormed pool_tree
pool_formed = (well_formed_trees_pass pool_tree).0 refl

pub limits : (ls : List Line) → Follows pool_tree ls → KeepsLimits ls
limits ls k = record {
  few = live_bounds_hold pool_tree ls k 3 (op query) (inr (inl (inl refl)));
  one = one_is_live_outside_braces pool_tree ls k (op backup) (inr (inr refl)) tt;
  alone = λ b. elim (cases_lt 0 (queries ls)) [
    | inl q ↦ absurd (let same = ap (λ x. x.0) (live_parts_outside_braces_are_alone pool_tree ls k (op backup) (inr (inr refl)) b query (inl refl) q) in omega (arith, same))
    | inr q ↦ omega (arith, q)
  ];
}

-- what stands against a query, and against a backup
pub against_query : (ls : List Line) → Follows pool_tree ls → StandsAgainst pool_tree (admitted_history ls) query → (queries ls ≡ 3) ⊎ (0 < backups ls)
against_query ls k (inl full) = inl (omega (arith, full, k.counts query, (limits ls k).few))
against_query ls k (inr (inl q, shut)) = absurd (omega (arith, q, shut))
against_query ls k (inr (inr b, shut)) = inr (omega (arith, b, k.counts backup))

pub against_backup : (ls : List Line) → Follows pool_tree ls → StandsAgainst pool_tree (admitted_history ls) backup → (0 < queries ls) ⊎ (0 < backups ls)
against_backup ls k (inl q) = inl (omega (arith, q, k.counts query))
against_backup ls k (inr b) = inr (omega (arith, b, k.counts backup))

-- a rotation leaves a system, and what its controller owes is owed by its lines
pub rotated_system : (a s : Account) → s ≡ rotated a → IsPool a → IsControlled s → IsSystem s
rotated_system a s e pool controlled = is_system_of s (ap (λ x. x.opened) e ∙ pool.system.first) controlled

pub owed_next : (a s : Account) → s ≡ rotated a → IsPool a → (w : ℕ) (t : Attempt) (r : Reply)
    → BehindEach s (λ openings before. OwedBehind s.declaration s.room openings (earlier_behind before s) s.journal w t r) → OwedNext s w t r
owed_next a s e pool w t r owed = of_system s (ap (λ x. x.opened) e ∙ pool.system.first) _ owed

-- a pool stays one through a rotation and a step
pub stays : (a s b : Account) (ls : List Line) (fs : List ℕ) → s ≡ rotated a → b ≡ record s { journal = ls; failures = fs } → IsControlled b → IsPool a → IsPool b
stays a s b ls fs e f controlled pool =
    let d : b.declaration ≡ a.declaration = ap (λ x. x.declaration) f ∙ ap (λ x. x.declaration) e in
    let r : b.room ≡ a.room = ap (λ x. x.room) f ∙ ap (λ x. x.room) e in
    record { declared = subst IsPoolDeclaration (sym d) pool.declared; roomy = subst (λ n. 5 ≤ n) (sym r) pool.roomy; system = is_system_of b (ap (λ x. x.opened) f ∙ ap (λ x. x.opened) e ∙ pool.system.first) controlled }

pub follows : (s : Account) (ls : List Line) → IsPool s → all_lines s ≡ ls → Follows pool_tree ls
follows s ls pool view = follows_the_path s pool.system ls view pool_tree pool.declared.path pool_formed

-- right after a rotation there are the same lines, and what is live leaves two places of the room
pub same_lines : (a s : Account) (ls : List Line) → s ≡ rotated a → all_lines a ≡ ls → all_lines s ≡ ls
same_lines a s ls e view = ap all_lines e ∙ rotated_lines a ∙ view

pub roomy : (s : Account) (ls : List Line) → IsPool s → all_lines s ≡ ls → s.journal ≡ [] → taken_behind (joined s.earlier) s.journal + 2 ≤ s.room
roomy s ls pool view fresh =
    let counted = subst (λ n. taken_behind (joined s.earlier) s.journal ≡ length s.journal + live_among n (live ls)) pool.declared.operations (places_taken s pool.system ls view) in
    let k = limits ls (follows s ls pool view) in
    elim (cases_lt 0 (backups ls)) [
      | inl b ↦ omega (arith, counted, k.alone b, k.one, pool.roomy, ap length fresh)
      | inr b ↦ omega (arith, counted, b, k.few, pool.roomy, ap length fresh)
    ]
