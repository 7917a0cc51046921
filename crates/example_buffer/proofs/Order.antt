-- The order of a buffer, from the laws of paths.
use Rattle.std.proofs.Common.{◌≡◌, [], ◌∷◌, inl, inr, refl, sym, subst, arith}
use Rattle.path_model.specs.Trees.{op, seq, WellFormed}
use Rattle.path_model.specs.Projection.{LegalOn}
use Rattle.path_model.specs.JournalGuarantees.{Follows}
use Rattle.path_model.proofs.CallerLemmas.{well_formed_trees_pass, segments_follow_their_paths, each_front_is_legal, each_path_keeps_its_counts, sequences_keep_their_order}
use Rattle.path_system.specs.Accounts.{Account, IsSystem, all_lines}
use Rattle.example_buffer.specs.Buffer.{put, get, buffer_tree, IsBuffer, KeepsOrder}

buffer_formed : WellFormed buffer_tree
buffer_formed = (well_formed_trees_pass buffer_tree).0 refl

pub keeps_order : (s : Account) → IsBuffer s.declaration → IsSystem s → KeepsOrder (all_lines s)
keeps_order s buffer system x y whole =
    let f : Follows buffer_tree (all_lines s) =
    (segments_follow_their_paths s.declaration s.room s.openings (buffer_tree ∷ []) buffer (buffer_formed, tt) s.earlier s.journal system.honest).0 in
    let legal : LegalOn buffer_tree x = each_front_is_legal buffer_tree x y (subst (LegalOn buffer_tree) (sym whole) f.legal) in
    let k = (each_path_keeps_its_counts buffer_tree buffer_formed x legal).parts in
    record {
      after = sequences_keep_their_order buffer_tree buffer_formed x legal (op put) (op get) (inr (inl refl));
      places = omega (arith, k.0, k.1);
    }
