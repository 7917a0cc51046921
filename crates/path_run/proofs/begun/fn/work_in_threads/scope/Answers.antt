use Rattle.std.proofs.Common.{rules, arith, ◌≡◌, ℕ, List, [], ◌∙◌, sym, ap, subst, get_or, length}
use Rattle.std.proofs.lemmas.List.{get_or_default}
use Rattle.std.specs.Prelude.{vec_len, vec_items}
use Rattle.path_script.specs.declared.script.Step.{Step}
use Rattle.path_run.specs.Runs.{IsRun}
use Rattle.path_script.specs.Scripts.{Plan}
use Rattle.path_run.proofs.Hands.{grown_each}
use Rattle.path_run.proofs.begun.fn.work_in_threads.scope.Goals as goal

pub returns : goal.returns
returns g c =
    let was = c.loop-process.invariant in
    let len : vec_len c.join_all.result ≡ length c.captures.processes.now = let h = c.join_all.ensures.len in omega arith in (
      len,
      λ i p w lt.
          let j = c.join_all.ensures.runs i (i, []) w (omega arith) in
          let out = get_or c.join_all.result.items i w in
          (j.0 ∙ was.2 i (i, []) (omega arith), subst (λ (ss : List Step). IsRun ss [] out.pass.receipts out.end) (was.3 i (i, []) p (omega arith)) j.1),
    )

pub loop-process-preserved : goal.loop-process-preserved
loop-process-preserved g c =
    let was = c.loop-process.invariant in
    let n : ℕ = c.loop-process.process-index in
    let old : List (ℕ × List Step) = vec_items c.loop-process.begun in
    let all = vec_items c.push_reserved.new.self in
    let one : ℕ × List Step = c.begin.result in
    let processes = c.captures.processes.now in
    let len : length old ≡ n = search rules in
    let worker : one.0 ≡ n = search rules in (
      search rules,
      search rules,
      (λ k d lt. subst (λ (bs : List (ℕ × List Step)). (get_or bs k d).0 ≡ k) (sym c.push_reserved.ensures.items) (grown_each (λ (i : ℕ) (b : ℕ × List Step). b.0 ≡ i) old one n len was.2 worker k d lt)),
      λ k d p lt.
          let steps : one.1 ≡ (get_or processes n p).steps = c.begin.ensures.1 ∙ c.steps.ensures ∙ ap (λ (q : Plan). q.steps) (c.process-item.is ∙ get_or_default processes n _ p c.loop-process-test.true) in
          subst (λ (bs : List (ℕ × List Step)). (get_or bs k d).1 ≡ (get_or processes k p).steps) (sym c.push_reserved.ensures.items)
          (grown_each (λ (i : ℕ) (b : ℕ × List Step). b.1 ≡ (get_or processes i p).steps) old one n len (λ i e low. was.3 i e p low) steps k d lt),
    )
