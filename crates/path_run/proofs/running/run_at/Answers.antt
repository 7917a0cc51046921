-- The processes ran their scripts, and what they handed back is judged.
use Rattle.std.proofs.Common.{rules, ◌≡◌, ◌<◌, ℕ, List, Option, Some, None, IfSome, IfNone, sym, ap, subst, get_or, length}
use Rattle.path_system.specs.Accounts.{Account, IsSystem, all_lines}
use Rattle.path_workers.specs.declared.settle.SettleFault.{SettleFault}
use Rattle.path_workers.specs.Attempts.{Held}
use Rattle.path_workers.specs.Later.{IsLater}
use Rattle.path_workers.specs.Settled.{IsSettled}
use Rattle.path_run.specs.declared.begun.Worked.{Worked}
use Rattle.path_run.specs.declared.outcome.End.{End}
use Rattle.path_run.specs.Ended.{HasRun, IsJudged}
use Rattle.path_run.specs.Lines.{EachIsBlockedNow, EachIsOrderly}
use Rattle.path_run.specs.Runs.{EachRuns}
use Rattle.path_run.specs.Unsettled.{IsUnsettled}
use Rattle.path_run.proofs.Hands.{Out}
use Rattle.path_run.proofs.Stalls.{blocked_behind}
use Rattle.path_run.proofs.running.run_at.Goals as goal

judged_of : (before after : Account) (hs : List Held) (es : List End) (fault : Option SettleFault) → IfNone fault (IsSystem after) → IfNone fault (IsSettled (length before.journal) after.journal hs)
    → IfNone fault (EachIsOrderly after.journal hs es)
    → (IsSystem after → IsSettled (length before.journal) after.journal hs → EachIsOrderly after.journal hs es → EachIsBlockedNow after.declaration (all_lines after) es)
    → IfSome fault (λ e. IsUnsettled (length before.journal) after.journal hs es e) → IsJudged before after hs es fault
judged_of before after hs es None system settled orderly blocked unsettled =
    record { settled = settled; orderly = orderly; blocked = blocked system settled orderly; system = system }
judged_of before after hs es (Some e) system settled orderly blocked unsettled = unsettled

pub returns-clause-ok : goal.returns-clause-ok
returns-clause-ok g c =
    let hs : List Held = c.passes_of-passes.result.0.items in
    let es : List End = c.passes_of-passes.result.1.items in
    let before : Account = g.S.Steps.account c.args.system in
    let after : Account = g.S.Steps.account c.ended.result.outcome.system in
    let fault : Option SettleFault = c.ended.result.fault in
    let told = c.ended.ensures in
    let count : length c.journal.result.now ≡ length before.journal = ap length c.journal.ensures.value in
    let passes : length hs ≡ length c.args.processes.now = search rules in
    let ends : length es ≡ length c.args.processes.now = search rules in
    let runs : EachRuns c.args.processes.now hs es = λ i p h e lt.
    (let w : Worked g.row.L.Denot g.row.A.Denot = record { pass = h; end = e } in
    let j = c.in-Ok-worked.ensures.runs i p w lt in
    let each = c.passes_of-passes.ensures.each i h e w (subst (λ (n : ℕ). i < n) (sym c.in-Ok-worked.ensures.len) lt) in
    subst (λ (x : Held). Out (i, (get_or c.args.processes.now i p).steps) x (get_or es i e)) (sym each.0)
    (subst (λ (x : End). Out (i, (get_or c.args.processes.now i p).steps) (get_or c.in-Ok-worked.worked.items i w).pass x) (sym each.1) (j.0, j.1))) in
    let settled : IfNone fault (IsSettled (length before.journal) after.journal hs) = subst (λ (b : ℕ). IfNone fault (IsSettled b after.journal hs)) count told.settled in
    let unsettled : IfSome fault (λ e. IsUnsettled (length before.journal) after.journal hs es e) =
    subst (λ (b : ℕ). IfSome fault (λ e. IsUnsettled b after.journal hs es e)) count told.unsettled in
    subst (λ (xs : List Held). HasRun c.args.processes.now before after xs c.ended.result.outcome.ends.items fault) (sym told.passes.0)
    (subst (λ (xs : List End). HasRun c.args.processes.now before after hs xs fault) (sym told.ends.0) (record {
      later = subst (λ (a : Account). IsLater a after) (sym c.requires.opened) told.later;
      passes = passes;
      ends = ends;
      runs = runs;
      judged = judged_of before after hs es fault told.system settled told.orderly
          (λ system s orderly. blocked_behind after system c.args.processes.now (length before.journal) hs es passes ends s orderly runs) unsettled;
    }))
