use Rattle.std.proofs.Common.{◌≡◌, ◌+◌, ap, subst, sym, length, ◌∙◌, ℕ, ◌<◌, Some, [], arith}
use Rattle.std.proofs.lemmas.List.{length-append}
use Rattle.path_decl.specs.Table.{noted}
use Rattle.path_decl.proofs.Noted.{empty_more}
use Rattle.path_decl.proofs.naming.unnamed.Goals as goal

pub loop-made-preserved : goal.loop-made-preserved
loop-made-preserved g c =
    let i = c.loop-made.invariant in
    let e = c.in_ok-push.ensures.items in
    record {
      len = ap length e ∙ simp length-append (omega (arith, i.len));
      empty = subst (λ x. (a : ℕ) → a < c.loop-made._made + 1 → noted x a ≡ Some []) (sym e) (empty_more c.loop-made.naming.items _ c.loop-made._made i.len c.new.ensures.items i.empty);
    }
