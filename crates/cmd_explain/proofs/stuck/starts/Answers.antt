-- The gate admits it exactly where the history stays legal.
use Rattle.std.proofs.Common.{◌≡◌, true, false, [], ◌∷◌, ◌++◌, ◌∙◌, refl, sym, subst}
use Rattle.std.specs.Prelude.{◌↔◌, IsTrue}
use Rattle.path_model.specs.declared.history.Event.TheVariants.{Began}
use Rattle.path_model.specs.Legal.{Legal}
use Rattle.cmd_explain.specs.Standing.{Starts}
use Rattle.cmd_explain.proofs.Gathered.{first_legal}
use Rattle.cmd_explain.proofs.stuck.starts.Goals as goal
use Rattle.cmd_explain.proofs.stuck.starts.Goals.{in-Ok, in-Err}

true_false : true ≡ false → ⊥
true_false z = cc

pub returns-then-own : goal.returns-then-own
returns-then-own g c = λ h l now. elim c.match-would_admit.branch [
  | in-Ok w ↦ subst (λ b. IsTrue b ↔ Starts c.args.decl.now.declaration h c.args.resource.0 c.args.op) (sym w.free-is) (
    λ t. record {
      declared = c.requires.declared;
      own = c.belongs-own.ensures.0 c.if-own.true;
      legal = subst (λ xs. Legal xs (h ++ Began c.args.op ∷ [])) c.requires.paths (w.in-Ok.ensures h (subst (λ xs. Legal xs h) (sym c.requires.paths) l) now);
    },
    λ s. refl,
  )
  | in-Err w ↦ subst (λ b. IsTrue b ↔ Starts c.args.decl.now.declaration h c.args.resource.0 c.args.op) (sym w.free-is) (
    λ t. absurd (true_false (sym t)),
    λ s. absurd (first_legal _ h c.args.op _ (w.in-Err.ensures h (subst (λ xs. Legal xs h) (sym c.requires.paths) l) now) (subst (λ xs. Legal xs (h ++ Began c.args.op ∷ [])) (sym c.requires.paths) s.legal)),
  )
]

pub returns-else-own : goal.returns-else-own
returns-else-own g c = λ h l now. (λ t. absurd (true_false (sym t ∙ c.if-own.false)), λ s. c.belongs-own.ensures.1 s.own)
