-- The system has stepped, and the text has grown by the line and by why.
use Rattle.std.proofs.Common.{◌≡◌, ap, ◌∙◌}
use Rattle.std.specs.Prelude.{codes, decimal}
use Rattle.std.specs.String.{string_bytes}
use Rattle.path_model.specs.Declarations.{Declaration}
use Rattle.path_system.specs.Accounts.{Account}
use Rattle.path_system.proofs.CallerLemmas.{of_system}
use Rattle.cmd_explain.proofs.Explaining.{grown_so}
use Rattle.cmd_explain.proofs.explain.push_step.Goals as goal

pub returns : goal.returns
returns g c =
    let same : c.decl.result.now.declaration ≡ c.args.system.now.declaration = c.decl.ensures ∙ ap (λ (s : Account). s.declaration) c.step-reply.ensures.journal in
    record {
      reply = c.step-reply.result;
      why = string_bytes c.in_ok-reasons.reasons;
      owed = of_system c.args.system.now c.requires _ c.step-reply.ensures.owed;
      failed = c.step-reply.ensures.may_fail;
      stepped = c.step-reply.ensures.journal;
      grown = c.in_ok-keep.ensures
          ∙ grown_so _ _ _ _ _ (decimal c.args.number) (codes ": ") _ _ c.in_ok-write.ensures.bytes (rw same at c.in_ok-push_line.ensures)
          c.in_ok-push_str.ensures.bytes (rw c.deref.ensures at c.in_ok-push_str-2.ensures.bytes);
    }
