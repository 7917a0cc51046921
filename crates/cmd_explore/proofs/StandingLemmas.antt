-- Where a process is, line by line, and the lines of processes, one by one.
use Rattle.std.proofs.Common.{◌≡◌, ◌+◌, ◌-◌, ◌<◌, ℕ, suc, zero, cond, List, [], ◌∷◌, ◌++◌, length, take, drop, get_or, eqb, sym, ap, ◌∙◌, append_assoc, add-one, drop-cons, arith}
use Rattle.std.specs.Prelude.{unwrap_or}
use Rattle.std.proofs.lemmas.List.{append-nil}
use Rattle.path_model.specs.declared.journal.Line.{Line}
use Rattle.path_model.specs.Declarations.{Declaration}
use Rattle.path_script.specs.Scripts.{Plan}
use Rattle.cmd_explore.specs.Standings.{told_by, standing_of, standing_line, standings_text}

-- one line more
pub standing_next : (ls : List Line) (w left i : ℕ) (l : Line) → i < length ls → l ≡ get_or ls i l
    → standing_of (drop i ls) w left ≡ cond (eqb l.worker w) (unwrap_or (told_by l.attempt l.reply) (standing_of (drop (i + 1) ls) w (left - 1))) (standing_of (drop (i + 1) ls) w left)
standing_next ls w left i l within is =
    ap (λ xs. standing_of xs w left) (drop-cons ls i l within ∙ ap (λ x. x ∷ drop (suc i) ls) (sym is) ∙ ap (λ n. l ∷ drop n ls) (sym (add-one i)))

-- the line of one process more
pub standings_more : (d : Declaration) (lines : List Line) (w : ℕ) (ps : List Plan) (i : ℕ) (p : Plan) → i < length ps
    → standings_text d lines w (take (suc i) ps)
    ≡ standings_text d lines w (take i ps) ++ standing_line d (get_or ps i p).name (standing_of lines (w + i) (length (get_or ps i p).steps))
standings_more d lines w [] i p below = absurd (omega arith)
standings_more d lines w (q ∷ ps) zero p below =
    append-nil (standing_line d q.name (standing_of lines w (length q.steps)))
    ∙ ap (λ n. standing_line d q.name (standing_of lines n (length q.steps))) (let e : w ≡ w + 0 = omega arith in e)
standings_more d lines w (q ∷ ps) (suc i) p below =
    ap (λ xs. standing_line d q.name (standing_of lines w (length q.steps)) ++ xs)
    (standings_more d lines (w + 1) ps i p (omega arith)
    ∙ ap (λ n. standings_text d lines (w + 1) (take i ps) ++ standing_line d (get_or ps i p).name (standing_of lines n (length (get_or ps i p).steps))) (let e : (w + 1) + i ≡ w + suc i = omega arith in e))
    ∙ sym (append_assoc (standing_line d q.name (standing_of lines w (length q.steps))) (standings_text d lines (w + 1) (take i ps))
    (standing_line d (get_or ps i p).name (standing_of lines (w + suc i) (length (get_or ps i p).steps))))

pub standings_one_more : (d : Declaration) (lines : List Line) (ps : List Plan) (i : ℕ) (p : Plan) → i < length ps
    → standings_text d lines 0 (take (i + 1) ps)
    ≡ standings_text d lines 0 (take i ps) ++ standing_line d (get_or ps i p).name (standing_of lines i (length (get_or ps i p).steps))
standings_one_more d lines ps i p below =
    ap (λ n. standings_text d lines 0 (take n ps)) (add-one i) ∙ standings_more d lines 0 ps i p below
    ∙ ap (λ n. standings_text d lines 0 (take i ps) ++ standing_line d (get_or ps i p).name (standing_of lines n (length (get_or ps i p).steps))) (let e : 0 + i ≡ i = omega arith in e)
