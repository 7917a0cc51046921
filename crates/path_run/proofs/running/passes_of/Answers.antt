use Rattle.std.proofs.Common.{rules, arith, ◌≡◌, ℕ, ◌+◌, List, ap, sym, subst, get_or, length}
use Rattle.std.specs.Prelude.{vec_items, vec_len}
use Rattle.path_workers.specs.Attempts.{Held}
use Rattle.path_run.specs.declared.begun.Worked.{Worked}
use Rattle.path_run.specs.declared.outcome.End.{End}
use Rattle.path_run.proofs.Hands.{next_of, left_after, grown_each}
use Rattle.path_run.proofs.running.passes_of.Goals as goal

pub loop-one-preserved : goal.loop-one-preserved
loop-one-preserved g c =
    let was = c.loop-one.invariant in
    let step = c.in-Some.ensures.steps in
    let done : ℕ = vec_len c.loop-one.passes in
    let hs : List Held = vec_items c.loop-one.passes in
    let es : List End = vec_items c.loop-one.ends in
    let worked = vec_items c.args.worked in
    let next : (w : Worked g.row.L.Denot g.row.A.Denot) → c.in-Some.one ≡ get_or worked done w = next_of worked _ _ done _ _ c.in-Some.one was.4 step in
    let passes_len : length hs ≡ done = search rules in
    let ends_len : length es ≡ done = search rules in
    let grown : vec_len c.push_reserved.new.self ≡ done + 1 = search rules in (
      search rules,
      search rules,
      search rules,
      search rules,
      left_after worked _ _ done _ _ _ c.in-Some.one grown was.4 step,
      λ k h e w below. (
        subst (λ (xs : List Held). get_or xs k h ≡ (get_or worked k w).pass) (sym c.push_reserved.ensures.items)
            (grown_each (λ (i : ℕ) (x : Held). x ≡ (get_or worked i w).pass) hs c.in-Some.one.pass done passes_len (λ i h' low. (was.5 i h' e w low).0) (ap (λ (x : Worked g.row.L.Denot g.row.A.Denot). x.pass) (next w)) k h (omega arith)),
        subst (λ (xs : List End). get_or xs k e ≡ (get_or worked k w).end) (sym c.push_reserved-in-loop-one.ensures.items)
            (grown_each (λ (i : ℕ) (x : End). x ≡ (get_or worked i w).end) es c.in-Some.one.end done ends_len (λ i e' low. (was.5 i h e' w low).1) (ap (λ (x : Worked g.row.L.Denot g.row.A.Denot). x.end) (next w)) k e (omega arith)),
      ),
    )

pub returns-clause-each : goal.returns-clause-each
returns-clause-each g c = λ k h e w lt. let s = c.in-None.ensures.steps in c.loop-one.invariant.5 k h e w (omega arith)
