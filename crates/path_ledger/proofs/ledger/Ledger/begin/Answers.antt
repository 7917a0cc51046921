-- The next number goes to the end.
use Rattle.std.proofs.Common.{rules, ℕ, ◌≡◌, ◌+◌, ◌∙◌, arith, ap, sym, subst}
use Rattle.path_model.specs.Journals.{AreNumbered}
use Rattle.path_ledger.specs.Ledgers.{Book}
use Rattle.path_ledger.proofs.Numbered.{numbered_push}
use Rattle.path_ledger.proofs.ledger.Ledger.begin.Goals as goal

pub invariant_of-self : goal.invariant_of-self
invariant_of-self g c =
    let first : ℕ = c.self.inside.first in
    let begun : ℕ = c.self.inside.begun in
    let same : first + begun + 1 ≡ first + (begun + 1) = omega arith in
    let number = c.next.ensures.value ∙ sym (ap (λ (b : Book). b.first + b.begun) c.self.view_is) in
    record {
      numbered = rw c.push.ensures.items (subst (AreNumbered _) same (numbered_push 0 c.self.inside.live.items (first + begun) _ number c.self.invariant.numbered));
      small = search rules;
      within = search rules;
      reserved = search rules;
    }
