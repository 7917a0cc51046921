-- One process more.
use Rattle.std.proofs.Common.{arith, ◌<◌, List, ℕ, ◌++◌, length, take, get_or, sym, ap, ◌∙◌}
use Rattle.path_script.specs.Scripts.{Plan}
use Rattle.cmd_explore.specs.Standings.{standing_of, standing_line, standings_text}
use Rattle.cmd_explore.proofs.StandingLemmas.{standings_one_more}
use Rattle.cmd_explore.proofs.standings.standings_text.Goals as goal

pub loop-number-preserved : goal.loop-number-preserved
loop-number-preserved g c =
    let d = c.args.decl.now.declaration in
    let lines = c.args.lines.now in
    let n : ℕ = c.loop-number.number in
    let before : List ℕ = standings_text d lines 0 (take n c.args.processes.now) in
    let low : n < length c.args.processes.now = omega (arith, c.loop-number-test.true) in
    let name = c.name.ensures ∙ ap (λ (q : Plan). q.name) c.index-processes-number.is in
    let steps = c.steps.ensures ∙ ap (λ (q : Plan). q.steps) c.index-processes-number.is in
    c.in_ok-push_line_of.ensures ∙ ap (λ (xs : List ℕ). xs ++ standing_line d c.name.result.now c.standing_of-standing.result) c.loop-number.invariant
    ∙ ap (λ (x : List ℕ). before ++ standing_line d x c.standing_of-standing.result) name
    ∙ ap (λ x. before ++ standing_line d (get_or c.args.processes.now n c.index-processes-number.result).name x) (c.standing_of-standing.ensures ∙ ap (λ ss. standing_of lines n (length ss)) steps)
    ∙ sym (standings_one_more d lines c.args.processes.now n c.index-processes-number.result low)
