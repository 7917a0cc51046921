use Rattle.std.proofs.Common.{◌≡◌, ℕ, ◌<◌, ◌++◌, ◌∷◌, [], List, length, sym, ap, ◌∙◌, subst, Contains, arith, refl}
use Rattle.std.proofs.lemmas.List.{length-map}
use Rattle.indexmap.proofs.CallerLemmas.{insert_entry-new}
use Rattle.path_model.specs.declared.resource.Law.TheVariants.{Cell}
use Rattle.path_model.specs.Declarations.{Resource}
use Rattle.path_decl.specs.Table.{resources_of}
use Rattle.path_read.specs.Inner.Building.{drafted}
use Rattle.path_read.proofs.Following.{no_value, no_memory}
use Rattle.path_read.proofs.TableLemmas.{names_of_resources, new_key, pushed_resource}
use Rattle.path_read.proofs.draft.Draft.resource.Goals as goal

pub returns-then-has_name-clause-err : goal.returns-then-has_name-clause-err
returns-then-has_name-clause-err g c = λ a. a.0 (subst (λ x. Contains x c.args.name.now) (sym (names_of_resources c.args.self.now.resources.entries)) (c.if-has_name.ensures.0 refl))

pub returns-clause-ok : goal.returns-clause-ok
returns-clause-ok g c =
    let es = c.args.self.now.resources.entries in
    let none = new_key es c.in_ok-key.key c.args.name.now c.in_ok-key.ensures.ok (λ h. let e = c.if-has_name.ensures.1 h in cc) in
    let p = pushed_resource es c.insert.new.self.entries c.in_ok-key.key Cell c.args.name.now c.in_ok-key.ensures.ok (c.in_ok-insert.ensures.entries ∙ insert_entry-new _ c.args.self.now.resources c.in_ok-key.key Cell none) in
    let room : length es < 64 = omega (arith, c.len.ensures.len) in
    let shown : length (resources_of es) ≡ length es = simp length-map in
    let number : c.len-2.result ≡ length (resources_of es) = c.len-2.ensures.len ∙ sym shown in (
      (λ h. let e = c.if-has_name.ensures.1 (subst (λ x. Contains x c.args.name.now) (names_of_resources es) h) in cc, simp length-map room),
      ap (λ (x : List Resource). record (drafted c.args.self.now) { resources = x; resource = c.len-2.result }) p
          ∙ ap (λ (n : ℕ). record (drafted c.args.self.now) { resources = resources_of c.args.self.now.resources.entries ++ record { name = c.args.name.now; law = Cell } ∷ []; resource = n }) number,
    )

pub returns-in_err-key-clause-ok : goal.returns-in_err-key-clause-ok
returns-in_err-key-clause-ok g c = no_value c.from_residual.result _ _ c.from_residual.ensures.1

pub returns-in_err-key-clause-err : goal.returns-in_err-key-clause-err
returns-in_err-key-clause-err g c = no_memory c.from_residual.result _ c.from_residual.ensures.1

pub returns-in_err-insert-clause-ok : goal.returns-in_err-insert-clause-ok
returns-in_err-insert-clause-ok g c = no_value c.from_residual-in_err-insert.result _ _ c.from_residual-in_err-insert.ensures.1

pub returns-in_err-insert-clause-err : goal.returns-in_err-insert-clause-err
returns-in_err-insert-clause-err g c = no_memory c.from_residual-in_err-insert.result _ c.from_residual-in_err-insert.ensures.1

pub invariant_of-self : goal.invariant_of-self
invariant_of-self g c = record { few = c.args.self.now.few; distinct = c.args.self.now.distinct; known = c.args.self.now.known }

pub invariant_of-self-2 : goal.invariant_of-self-2
invariant_of-self-2 g c = record { few = c.args.self.now.few; distinct = c.args.self.now.distinct; known = c.args.self.now.known }

pub returns-then-len-ge-MOST_RESOURCES-clause-err : goal.returns-then-len-ge-MOST_RESOURCES-clause-err
returns-then-len-ge-MOST_RESOURCES-clause-err g c = λ a.
    let room : length c.args.self.now.resources.entries < 64 = simp length-map at a.1 in
    absurd (omega (arith, room, c.len.ensures.len, c.if-len-ge-MOST_RESOURCES.true))

pub overflow_cast-self : goal.overflow_cast-self
overflow_cast-self g c = omega (arith, c.len.ensures.len, c.len-2.ensures.len, c.if-len-ge-MOST_RESOURCES.false)
