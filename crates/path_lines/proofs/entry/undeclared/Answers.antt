-- One number follows `#`.
use Rattle.std.proofs.Common.{◌≡◌, [], arith, rules, ap, length}
use Rattle.std.proofs.lemmas.Grind.{common_steps}
use Rattle.path_fields.proofs.CallerLemmas.{same_number}
use Rattle.path_lines.proofs.EntryLemmas.{behind_hash}
use Rattle.path_lines.proofs.entry.undeclared.Goals as goal

pub returns-in_err-value-clause-none : goal.returns-in_err-value-clause-none
returns-in_err-value-clause-none c =
    rw c.from_residual-in_err-value.ensures (λ n le lt e. c.in_err-value.ensures.none n [] (omega (arith, lt)) tt (behind_hash c.args.text.now c.in_ok-digits.digits.now n c.in_ok-digits.ensures e))

pub returns-then-not-is_empty-clause-none : goal.returns-then-not-is_empty-clause-none
returns-then-not-is_empty-clause-none c = λ n le lt e.
    let p = same_number c.in_ok-digits.digits.now c.in_ok-value.value n c.in_ok-value.rest.now [] c.in_ok-value.ensures.some c.in_ok-value.ensures.end (search rules) (omega (arith, lt)) tt (behind_hash c.args.text.now c.in_ok-digits.digits.now n c.in_ok-digits.ensures e) in
    let none = ap length p.1 in
    grind (arith, common_steps)

pub returns-in_err-value-2-clause-none : goal.returns-in_err-value-2-clause-none
returns-in_err-value-2-clause-none c =
    rw c.from_residual-in_err-value-2.ensures (λ n le lt e.
    let p = same_number c.in_ok-digits.digits.now c.in_ok-value.value n c.in_ok-value.rest.now [] c.in_ok-value.ensures.some c.in_ok-value.ensures.end (search rules) (omega (arith, lt)) tt (behind_hash c.args.text.now c.in_ok-digits.digits.now n c.in_ok-digits.ensures e) in
    let same : c.in_ok-value.value ≡ n = p.0 in
    grind (arith, common_steps))

pub returns-then-value-operations-clause-none : goal.returns-then-value-operations-clause-none
returns-then-value-operations-clause-none c = λ n le lt e.
    let p = same_number c.in_ok-digits.digits.now c.in_ok-value.value n c.in_ok-value.rest.now [] c.in_ok-value.ensures.some c.in_ok-value.ensures.end (search rules) (omega (arith, lt)) tt (behind_hash c.args.text.now c.in_ok-digits.digits.now n c.in_ok-digits.ensures e) in
    let same : c.in_ok-value.value ≡ n = p.0 in
    grind (arith, common_steps)
