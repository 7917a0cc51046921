-- The text of how processes ended, line by line.
use Rattle.std.proofs.Common.{◌≡◌, ℕ, ◌+◌, ◌<◌, suc, zero, List, [], ◌∷◌, ◌++◌, length, take, get_or, sym, ap, ◌∙◌, append_assoc, add-one, arith}
use Rattle.std.proofs.lemmas.List.{append-nil}
use Rattle.path_model.specs.Declarations.{Declaration}
use Rattle.path_script.specs.Scripts.{Plan}
use Rattle.path_run.specs.declared.outcome.End.{End}
use Rattle.cmd_run.specs.Ends.{end_line, ends_text}

more : (d : Declaration) (ps : List Plan) (es : List End) (i : ℕ) (p : Plan) (e : End) → i < length ps → i < length es
    → ends_text d (take (suc i) ps) (take (suc i) es) ≡ ends_text d (take i ps) (take i es) ++ end_line d (get_or ps i p).name (get_or es i e)
more d [] es i p e below there = absurd (omega arith)
more d (q ∷ ps) [] i p e below there = absurd (omega arith)
more d (q ∷ ps) (f ∷ es) zero p e below there = append-nil (end_line d q.name f)
more d (q ∷ ps) (f ∷ es) (suc i) p e below there =
    ap (λ (xs : List ℕ). end_line d q.name f ++ xs) (more d ps es i p e (omega arith) (omega arith))
    ∙ sym (append_assoc (end_line d q.name f) (ends_text d (take i ps) (take i es)) (end_line d (get_or ps i p).name (get_or es i e)))

-- the line of one process more
pub one_more : (d : Declaration) (ps : List Plan) (es : List End) (i : ℕ) (p : Plan) (e : End) → i < length ps → i < length es
    → ends_text d (take (i + 1) ps) (take (i + 1) es) ≡ ends_text d (take i ps) (take i es) ++ end_line d (get_or ps i p).name (get_or es i e)
one_more d ps es i p e below there = ap (λ (n : ℕ). ends_text d (take n ps) (take n es)) (add-one i) ∙ more d ps es i p e below there
