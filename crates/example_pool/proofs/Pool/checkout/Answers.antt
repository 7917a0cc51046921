-- Only three queries or a backup stand against a query.
use Rattle.std.proofs.Common.{inl, inr, arith}
use Rattle.example_pool.proofs.Limits.{against_query}
use Rattle.example_pool.proofs.Pool.checkout.Goals as goal

pub returns-clause-busy : goal.returns-clause-busy
returns-clause-busy c = λ e. against_query _ c.start.ensures.before (c.start.ensures.busy e)

pub returns-clause-free : goal.returns-clause-free
returns-clause-free c a b few = c.start.ensures.free (λ x. elim (against_query _ c.start.ensures.before x) [ inl q ↦ omega (arith, q, a) | inr q ↦ omega (arith, q, b) ]) few
