-- Passes of the desk have no more receipts than it has lines.
use Rattle.std.proofs.Common.{◌≡◌, ℕ, ◌+◌, ◌≤◌, List, ◌++◌, length, take, drop, arith, rules, sym, ap, ◌∙◌, subst}
use Rattle.std.proofs.Math.Seq.{take-append_seam}
use Rattle.path_model.specs.declared.journal.Line.{Line}
use Rattle.path_workers.specs.declared.settle.SettleFault.{SettleFault}
use Rattle.path_workers.specs.declared.settle.SettleFault.TheVariants.{MissingPass, Mismatch}
use Rattle.path_workers.specs.Attempts.{Held}
use Rattle.path_workers.specs.Settled.{receipts_of, IsSettled}
use Rattle.path_workers.specs.Later.{IsLater}
use Rattle.path_system.specs.Accounts.{Account}
use Rattle.path_workers.specs.Faults.{IsFault, FewReceipts}
use Rattle.path_workers.proofs.closing.settle_own.Goals as goal

few : (b : ℕ) (lines : List Line) (hs : List Held) (fault : SettleFault) → IsFault b lines hs fault → receipts_of hs + b ≤ length lines → FewReceipts fault
few b lines hs (MissingPass n m) is le = omega (arith, is.0, is.1, le)
few b lines hs (Mismatch p) is le = tt

pub returns-in-Err-clause-few : goal.returns-in-Err-clause-few
returns-in-Err-clause-few g c =
    let closed_passes = c.close_all-closed_passes in
    let held : List Held = c.check-verdict.new.passes in
    let here : held ≡ c.args.passes.items = c.in-Err.ensures.same ∙ c.as_mut_slice.ensures.value in
    let count : c.args.passes.len ≡ length held = sym c.as_mut_slice.ensures.len ∙ ap length (sym c.in-Err.ensures.same) in
    let after : List Held = drop (length held) c.args.passes.items in
    let same : closed_passes.result.0.items ≡ c.args.passes.items = closed_passes.ensures.items ∙ ap (λ (n : ℕ). take n (held ++ after)) count ∙ take-append_seam held after ∙ here in
    let total : closed_passes.result.1 ≡ receipts_of c.args.passes.items = closed_passes.ensures.own_lines ∙ ap receipts_of (sym closed_passes.ensures.items ∙ same) in
    let most = c.close_with-system.ensures.few in
    few c.args.before c.args.shared.journal c.args.passes.items c.in-Err.fault (search rules) (omega (arith, total, most, c.requires.before))

pub journal-requires : goal.journal-requires
journal-requires g c κs = λ within. within

pub check-verdict-requires : goal.check-verdict-requires
check-verdict-requires g c κs = λ within. within

pub close_with-system-requires : goal.close_with-system-requires
close_with-system-requires g c κs = λ within. within

pub returns-in-Ok-clause-fault : goal.returns-in-Ok-clause-fault
returns-in-Ok-clause-fault g c = tt

pub returns-in-Ok-clause-few : goal.returns-in-Ok-clause-few
returns-in-Ok-clause-few g c = tt

pub returns-in-Err-clause-settled : goal.returns-in-Err-clause-settled
returns-in-Err-clause-settled g c = tt

pub returns-in-Ok-clause-system : goal.returns-in-Ok-clause-system
returns-in-Ok-clause-system g c = subst (λ (a : Account). IsLater g.L.DeskName.opened a) (sym c.close_with-system.ensures.system) c.close_with-system.ensures.later

pub returns-in-Err-clause-system : goal.returns-in-Err-clause-system
returns-in-Err-clause-system g c = subst (λ (a : Account). IsLater g.L.DeskName.opened a) (sym c.close_with-system.ensures.system) c.close_with-system.ensures.later

pub returns-in-Ok-clause-settled : goal.returns-in-Ok-clause-settled
returns-in-Ok-clause-settled g c =
    let lines : c.journal.result.now ≡ (g.S.Steps.account c.close_with-system.result).journal = c.journal.ensures ∙ ap (λ (a : Account). a.journal) (sym c.close_with-system.ensures.system) in
    subst (λ (ls : List Line). IsSettled c.args.before ls c.args.passes.items) lines
    (subst (λ (held : List Held). IsSettled c.args.before c.journal.result.now held) c.as_mut_slice.ensures.value c.in-Ok.ensures.ok)

pub returns-in-Err-clause-fault : goal.returns-in-Err-clause-fault
returns-in-Err-clause-fault g c =
    let lines : c.journal.result.now ≡ (g.S.Steps.account c.close_with-system.result).journal = c.journal.ensures ∙ ap (λ (a : Account). a.journal) (sym c.close_with-system.ensures.system) in
    subst (λ (ls : List Line). IsFault c.args.before ls c.args.passes.items c.in-Err.fault) lines
    (subst (λ (held : List Held). IsFault c.args.before c.journal.result.now held c.in-Err.fault) c.as_mut_slice.ensures.value c.in-Err.ensures.err)
