use Rattle.std.proofs.Common.{ℕ, ◌<◌, ◌++◌, ◌∷◌, [], List, length, map, sym, ap, ◌∙◌, subst, Contains, arith, refl}
use Rattle.std.proofs.lemmas.List.{length-map}
use Rattle.indexmap.proofs.CallerLemmas.{insert_entry-new}
use Rattle.path_model.specs.Declarations.{Operation}
use Rattle.path_decl.specs.Table.{names_of, name_at, operations_of}
use Rattle.path_read.specs.Inner.Building.{drafted}
use Rattle.path_read.proofs.Following.{no_value, no_memory}
use Rattle.path_read.proofs.TableLemmas.{names_of_operations, new_key, pushed, pushed_operation}
use Rattle.path_read.proofs.Numbered.{AreBelow, still_below, table_kept, still_room, names_kept}
use Rattle.path_read.proofs.draft.Draft.operation.Goals as goal

pub returns-then-has_name-clause-err : goal.returns-then-has_name-clause-err
returns-then-has_name-clause-err g c = λ a. a.0 (subst (λ x. Contains x c.args.name.now) (sym (names_of_operations c.args.self.now.operations.entries)) (c.if-has_name.ensures.0 refl))

pub invariant_of-self : goal.invariant_of-self
invariant_of-self g c =
    let es = c.args.self.now.operations.entries in
    let none : Contains (names_of es) c.args.name.now → ⊥ = λ h. let e = c.if-has_name.ensures.1 h in cc in
    let more = insert_entry-new _ c.args.self.now.operations c.in_ok-key.key c.args.self.now.resource (new_key es c.in_ok-key.key c.args.name.now c.in_ok-key.ensures.ok none) in
    let kept = table_kept es c.insert.new.self.entries _ c.in_ok-key.key c.args.self.now.resource c.args.name.now c.args.self.now.named.items c.insert.result more c.in_ok-key.ensures.ok c.insert.ensures.entries c.insert.ensures.err c.args.self.now.distinct none c.args.self.now.known in
    let room : length es < 256 = omega (arith, c.len.ensures.len) in
    record { few = still_room es c.insert.new.self.entries _ c.in_ok-key.key c.args.self.now.resource c.insert.result more c.insert.ensures.entries c.insert.ensures.err room; distinct = kept.0; known = kept.1 }

pub returns-clause-ok : goal.returns-clause-ok
returns-clause-ok g c =
    let es = c.args.self.now.operations.entries in
    let named = c.args.self.now.named.items in
    let none : Contains (names_of es) c.args.name.now → ⊥ = λ h. let e = c.if-has_name.ensures.1 h in cc in
    let more = c.in_ok-insert.ensures.entries ∙ insert_entry-new _ c.args.self.now.operations c.in_ok-key.key c.args.self.now.resource (new_key es c.in_ok-key.key c.args.name.now c.in_ok-key.ensures.ok none) in
    let shown = pushed_operation es c.insert.new.self.entries c.in_ok-key.key c.args.self.now.resource c.args.name.now c.in_ok-key.ensures.ok more in
    let names = pushed es c.insert.new.self.entries c.in_ok-key.key c.args.self.now.resource c.args.name.now c.in_ok-key.ensures.ok more in
    let known : AreBelow (length (names_of es)) named = still_below (length es) (length (names_of es)) named (simp length-map (omega arith)) c.args.self.now.known in
    let kept = ap (λ x. map (name_at x) named) names ∙ names_kept (names_of es) c.args.name.now named known in
    let room : length es < 256 = omega (arith, c.len.ensures.len) in (
      (λ h. none (subst (λ x. Contains x c.args.name.now) (names_of_operations es) h), simp length-map room),
      ap (λ (x : List Operation). record (drafted c.args.self.now) { operations = x; named = map (name_at (names_of c.insert.new.self.entries)) named }) shown
          ∙ ap (λ (x : List (List ℕ)). record (drafted c.args.self.now) { operations = operations_of es ++ record { name = c.args.name.now; resource = c.args.self.now.resource.0 } ∷ []; named = x }) kept,
    )

pub returns-in_err-key-clause-ok : goal.returns-in_err-key-clause-ok
returns-in_err-key-clause-ok g c = no_value c.from_residual.result _ _ c.from_residual.ensures.1

pub returns-in_err-key-clause-err : goal.returns-in_err-key-clause-err
returns-in_err-key-clause-err g c = no_memory c.from_residual.result _ c.from_residual.ensures.1

pub returns-in_err-insert-clause-ok : goal.returns-in_err-insert-clause-ok
returns-in_err-insert-clause-ok g c = no_value c.from_residual-in_err-insert.result _ _ c.from_residual-in_err-insert.ensures.1

pub returns-in_err-insert-clause-err : goal.returns-in_err-insert-clause-err
returns-in_err-insert-clause-err g c = no_memory c.from_residual-in_err-insert.result _ c.from_residual-in_err-insert.ensures.1

pub returns-then-len-ge-MOST_OPERATIONS-clause-err : goal.returns-then-len-ge-MOST_OPERATIONS-clause-err
returns-then-len-ge-MOST_OPERATIONS-clause-err g c = λ a.
    let room : length c.args.self.now.operations.entries < 256 = simp length-map at a.1 in
    absurd (omega (arith, room, c.len.ensures.len, c.if-len-ge-MOST_OPERATIONS.true))
