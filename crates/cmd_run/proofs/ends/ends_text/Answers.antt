-- One process more.
use Rattle.std.proofs.Common.{arith, List, ℕ, ◌++◌, take, get_or, sym, ap, ◌∙◌}
use Rattle.path_script.specs.Scripts.{Plan}
use Rattle.path_run.specs.declared.outcome.End.{End}
use Rattle.path_run.specs.declared.outcome.End.TheVariants.{Done}
use Rattle.cmd_run.specs.Ends.{end_line, ends_text}
use Rattle.cmd_run.proofs.EndLemmas.{one_more}
use Rattle.cmd_run.proofs.ends.ends_text.Goals as goal

pub loop-number-preserved : goal.loop-number-preserved
loop-number-preserved g c =
    let d = c.args.decl.now.declaration in
    let n : ℕ = c.loop-number.number in
    let end : End = get_or c.args.ends.now n Done in
    let before : List ℕ = ends_text d (take n c.args.processes.now) (take n c.args.ends.now) in
    c.in_ok-push_line_of.ensures ∙ ap (λ (xs : List ℕ). xs ++ end_line d c.name.result.now end) c.loop-number.invariant
    ∙ ap (λ (name : List ℕ). before ++ end_line d name end) (c.name.ensures ∙ ap (λ (q : Plan). q.name) c.index-processes-number.is)
    ∙ sym (one_more d c.args.processes.now c.args.ends.now n _ Done (omega arith) (omega (arith, c.requires)))
