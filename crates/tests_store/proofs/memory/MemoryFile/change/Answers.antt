-- The last state is remembered.
use Rattle.std.proofs.Common.{◌≡◌, ◌++◌, ◌∷◌, [], rules, ap, ◌∙◌}
use Rattle.tests_store.specs.declared.memory.State.{State}
use Rattle.tests_store.proofs.memory.MemoryFile.change.Goals as goal

pub returns-clause-past : goal.returns-clause-past
returns-clause-past c =
    let last : State = record { kept = c.in_ok-to_vec.field-0; fresh = c.in_ok-to_vec-2.field-0 } in
    let kept : last.kept.items ≡ c.args.self.now.state.kept.items = search rules in
    let fresh : last.fresh.items ≡ c.args.self.now.state.fresh.items = search rules in
    (last, kept, fresh, c.in_ok-push.ensures.items ∙ ap (λ v. v.items ++ last ∷ []) c.called.ensures.past)
