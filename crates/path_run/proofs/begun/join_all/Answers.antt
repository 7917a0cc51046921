use Rattle.std.proofs.Common.{rules, arith, ◌≡◌, ℕ, ◌+◌, List, sym, subst, get_or, length}
use Rattle.std.specs.Prelude.{vec_items, vec_len}
use Rattle.path_script.specs.declared.script.Step.{Step}
use Rattle.path_run.specs.declared.begun.Worked.{Worked}
use Rattle.path_run.specs.declared.begun.Begun.{Begun}
use Rattle.path_run.proofs.Hands.{Out, next_of, left_after, grown_each}
use Rattle.path_run.proofs.begun.join_all.Goals as goal

pub loop-one-preserved : goal.loop-one-preserved
loop-one-preserved g c =
    let was = c.loop-one.invariant in
    let step = c.in-Some.ensures.steps in
    let done : ℕ = vec_len c.loop-one.worked in
    let old : List (Worked g.row.L.Denot g.row.A.Denot) = vec_items c.loop-one.worked in
    let begun = vec_items c.args.begun in
    let next : (d : Begun g.row.L.Denot g.row.A.Denot) → c.in-Some.one ≡ get_or begun done d = next_of begun _ _ done _ _ c.in-Some.one was.2 step in
    let here : (d : Begun g.row.L.Denot g.row.A.Denot) → Out (get_or begun done d) c.join.result.pass c.join.result.end = λ d.
    subst (λ (b : ℕ × List Step). Out b c.join.result.pass c.join.result.end) (next d) (c.join.ensures.worker, c.join.ensures.run) in
    let len : length old ≡ done = search rules in
    let grown : vec_len c.push_reserved.new.self ≡ done + 1 = search rules in (
      search rules,
      search rules,
      left_after begun _ _ done _ _ _ c.in-Some.one grown was.2 step,
      λ k d e below. subst (λ (ws : List (Worked g.row.L.Denot g.row.A.Denot)). Out (get_or begun k d) (get_or ws k e).pass (get_or ws k e).end) (sym c.push_reserved.ensures.items)
          (grown_each (λ (i : ℕ) (w : Worked g.row.L.Denot g.row.A.Denot). (b : Begun g.row.L.Denot g.row.A.Denot) → Out (get_or begun i b) w.pass w.end) old c.join.result done len
          (λ i e' low b. was.3 i b e' low) here k e (omega arith) d),
    )

pub returns-clause-runs : goal.returns-clause-runs
returns-clause-runs g c = λ i d e lt. let s = c.in-None.ensures.steps in c.loop-one.invariant.3 i d e (omega arith)
