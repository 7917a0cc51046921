-- Worked examples of what paths guarantee of journals: a pool of connections, and a page that is read and written under two paths.
use Rattle.std.proofs.Common.{◌≡◌, ◌⊎◌, ◌<◌, ◌≤◌, ◌+◌, ℕ, List, [], ◌∷◌, ◌++◌, length, refl, inl, inr, arith}
use Rattle.std.proofs.lemmas.Bool.{cases_lt}
use Rattle.path_model.specs.declared.ids.OpId.{OpId}
use Rattle.path_model.specs.declared.ids.ActId.{ActId}
use Rattle.path_model.specs.declared.ids.PathId.{PathId}
use Rattle.path_model.specs.declared.journal.Attempt.TheVariants.{Start}
use Rattle.path_model.specs.declared.journal.Reply.{Reply}
use Rattle.path_model.specs.declared.journal.Reply.TheVariants.{Started, Blocked}
use Rattle.path_model.specs.declared.journal.Line.{Line}
use Rattle.path_model.specs.Trees.{any, most, Tree, op, alt, burst, WellFormed}
use Rattle.path_model.specs.Legal.{numbered, Every}
use Rattle.path_model.specs.Refusals.{StandsAgainst}
use Rattle.path_model.specs.Declarations.{Declaration, trees}
use Rattle.path_model.specs.Journals.{begun_in, live, live_count, admitted_history}
use Rattle.path_model.specs.Owed.{Owed}
use Rattle.path_model.specs.Honest.{IsHonest}
use Rattle.path_model.specs.Segments.{joined, taken_behind, OwedBehind, AreHonest}
use Rattle.path_model.specs.JournalGuarantees.{Follows}
use Rattle.path_model.proofs.Examples.{o, differ}
use Rattle.path_model.proofs.TreeTests.{well_formed_trees_pass}
use Rattle.path_model.proofs.GuaranteeExamples.{query, backup, pool, pool_formed}
use Rattle.path_model.proofs.JournalGuarantees.{each_journal_follows_its_paths, each_block_has_a_reason, segments_follow_their_paths, live_bounds_hold, one_is_live_outside_braces, live_parts_outside_braces_are_alone, each_block_has_a_reason_behind, unopposed_starts_are_admitted_behind}

-- path { query : 3 } , backup end: how many queries and backups are live
abbrev queries : List Line → ℕ
queries ls = live_count query (live ls)

abbrev backups : List Line → ℕ
backups ls = live_count backup (live ls)

-- at most three queries and one backup are live, and no query beside a backup
record KeepsLimits (ls : List Line) : Type 0 where
  few : queries ls ≤ 3
  one : backups ls ≤ 1
  alone : 0 < backups ls → queries ls ≡ 0

limits : (ls : List Line) → Follows pool ls → KeepsLimits ls
limits ls k = record {
  few = live_bounds_hold pool ls k 3 (op query) (inr (inl (inl refl)));
  one = one_is_live_outside_braces pool ls k (op backup) (inr (inr refl)) tt;
  alone = λ b. elim (cases_lt 0 (queries ls)) [
    | inl q ↦ absurd (differ query refl (live_parts_outside_braces_are_alone pool ls k (op backup) (inr (inr refl)) b query (inl refl) q))
    | inr q ↦ omega (arith, q)
  ];
}

-- what stands against a query: three queries or a backup
opposed : (ls : List Line) → Follows pool ls → StandsAgainst pool (admitted_history ls) query → (queries ls ≡ 3) ⊎ (0 < backups ls)
opposed ls k (inl full) = inl (omega (arith, full, k.counts query, (limits ls k).few))
opposed ls k (inr (inl q, shut)) = absurd (omega (arith, q, shut))
opposed ls k (inr (inr b, shut)) = inr (omega (arith, b, k.counts backup))

module _ (d : Declaration) (is_pool : trees d ≡ pool ∷ []) (room : ℕ) (openings : List (List ℕ)) (earlier : List (List Line)) (ls : List Line) (honest : AreHonest d room openings (earlier ++ ls ∷ [])) where
  follows : Follows pool (joined earlier ++ ls)
  follows = (segments_follow_their_paths d room openings (pool ∷ []) is_pool (pool_formed, tt) earlier ls honest).0

  -- a query is blocked only while three are live or a backup is
  busy : (w : ℕ) (p : PathId) → OwedBehind d room openings (joined earlier) ls w (Start query) (Blocked p) → (queries (joined earlier ++ ls) ≡ 3) ⊎ (0 < backups (joined earlier ++ ls))
  busy w p o = elim (each_block_has_a_reason_behind d room openings (pool ∷ []) is_pool (pool_formed, tt) earlier ls honest w query p o) [ inl r ↦ opposed (joined earlier ++ ls) follows r.0.1 | inr r ↦ absurd r.1 ]

  -- and is admitted where neither is so, if there are room and a number
  admitted : (w : ℕ) (r : Reply) → OwedBehind d room openings (joined earlier) ls w (Start query) r → 0 < length d.operations
      → queries (joined earlier ++ ls) < 3 → backups (joined earlier ++ ls) ≡ 0 → taken_behind (joined earlier) ls + 2 ≤ room → begun_in (joined earlier ++ ls) < 4294967295
      → (n : ActId) × (r ≡ Started n)
  admitted w r o declared few none roomy numbers =
      unopposed_starts_are_admitted_behind d room openings (pool ∷ []) is_pool (pool_formed, tt) earlier ls honest w query declared roomy numbers
      ((λ x. elim (opposed (joined earlier ++ ls) follows x.1) [ inl q ↦ omega (arith, q, few) | inr b ↦ omega (arith, b, none) ]), tt) r o

-- path { read } , write end path { read : 5 } end: two paths
abbrev read : OpId
read = o 0

abbrev write : OpId
write = o 1

abbrev shared : Tree
shared = alt (burst any (op read)) (op write)

abbrev few_at_once : Tree
few_at_once = burst (most 5) (op read)

both_formed : Every WellFormed (numbered 0 (shared ∷ few_at_once ∷ []))
both_formed = ((well_formed_trees_pass shared).0 refl, ((well_formed_trees_pass few_at_once).0 refl, tt))

module _ (d : Declaration) (are_both : trees d ≡ shared ∷ few_at_once ∷ []) (room : ℕ) (openings : List (List ℕ)) (ls : List Line) (honest : IsHonest d room openings ls) where
  both : Follows shared ls × (Follows few_at_once ls × Unit {0})
  both = each_journal_follows_its_paths d room openings (shared ∷ few_at_once ∷ []) are_both both_formed ls honest

  -- at most five reads are live, and none beside a write
  few_reads : live_count read (live ls) ≤ 5
  few_reads = live_bounds_hold few_at_once ls both.1.0 5 (op read) (inl refl)

  writes_alone : 0 < live_count write (live ls) → 0 < live_count read (live ls) → ⊥
  writes_alone w r = differ read refl (live_parts_outside_braces_are_alone shared ls both.0 (op write) (inr (inr refl)) w read (inl refl) r)

  -- a read that the second path blocks finds five live
  blocked_by_second : (w : ℕ) → Owed d room openings ls w (Start read) (Blocked (record { 0 = 1 })) → live_count read (live ls) ≡ 5
  blocked_by_second w o = elim (each_block_has_a_reason d room openings (shared ∷ few_at_once ∷ []) are_both both_formed ls honest w read (record { 0 = 1 }) o) [
    | inl x ↦ absurd (omega (arith, x.1))
    | inr x ↦ elim x.1 [ inl y ↦ full y.0.1 | inr y ↦ absurd y.1 ]
  ]
    where
      full : StandsAgainst few_at_once (admitted_history ls) read → live_count read (live ls) ≡ 5
      full (inl k) = omega (arith, k, both.1.0.counts read, few_reads)
      full (inr k) = absurd (omega (arith, k.0, k.1))
