use Rattle.std.proofs.Common.{◌≡◌, ℕ, ◌<◌, ◌++◌, ◌∷◌, [], List, length, map, refl, sym, ap, ◌∙◌, subst, Contains, arith, Some, is_some, reverse, slice_get, false, true≢false}
use Rattle.std.proofs.lemmas.List.{length-map, map_push}
use Rattle.std.proofs.lemmas.Option.{same_Some, slice_get_within, get_or_from_slice_get}
use Rattle.path_model.specs.Trees.{Tree, op, shape}
use Rattle.path_model.specs.declared.ids.OpId.{OpId}
use Rattle.path_decl.specs.Table.{names_of, name_at, operations_of}
use Rattle.path_read.specs.Inner.Building.{drafted, number_of}
use Rattle.path_read.proofs.TableLemmas.{lacks_name, stands, is_place, owner_is, number_is, opened}
use Rattle.path_read.proofs.Following.{no_value, no_memory}
use Rattle.path_read.proofs.Numbered.{AreBelow, below_pushed, still_below, holds_number, named_by, numbered_by}
use Rattle.path_read.proofs.draft.Draft.name.Goals as goal

pub returns-in_default-clause-err : goal.returns-in_default-clause-err
returns-in_default-clause-err g c = λ u. lacks_name c.args.self.now.operations.entries c.args.name.now (sym (ap is_some c.in_default.ensures.value)) (stands c.args.self.now.operations.entries c.args.name.now _ _ u.own)

pub returns-then-owner-self-clause-err : goal.returns-then-owner-self-clause-err
returns-then-owner-self-clause-err g c = λ u.
    let e = owner_is c.args.self.now.operations.entries c.args.name.now c.in-Some.place _ c.in-Some.owner.now c.in-Some.ensures.index c.in-Some.ensures.entry in
    c.if-owner-self.true (ap (λ o. o.resource) (same_Some _ _ (sym e ∙ u.own)))

pub returns-then-contains-clause-err : goal.returns-then-contains-clause-err
returns-then-contains-clause-err g c = λ u.
    let es = c.args.self.now.operations.entries in
    let a : OpId = record { 0 = c.in-Some.place } in
    let at : slice_get (names_of es) c.in-Some.place ≡ Some c.args.name.now = is_place es c.args.name.now (Some c.in-Some.place) c.in-Some.ensures.index in
    let holds = holds_number _ a _ c.if-contains.ensures.cases in
    u.new (named_by (names_of es) c.args.name.now a c.args.self.now.named.items at (subst (λ x. Contains x a) c.deref.ensures.value (holds.0 refl)))

pub overflow_cast-number : goal.overflow_cast-number
overflow_cast-number g c =
    let lt : c.in-Some.place < length c.args.self.now.operations.entries = slice_get_within c.args.self.now.operations.entries c.in-Some.place _ c.in-Some.ensures.entry in
    omega (arith, lt, c.args.self.now.few)

pub returns-then-len-ge-MOST_NAMES-clause-err : goal.returns-then-len-ge-MOST_NAMES-clause-err
returns-then-len-ge-MOST_NAMES-clause-err g c = λ u.
    let room : length c.args.self.now.named.items < 64 = simp length-map at u.room in
    absurd (omega (arith, room, c.len.ensures, c.if-len-ge-MOST_NAMES.true))

pub invariant_of-self : goal.invariant_of-self
invariant_of-self g c = record { few = c.args.self.now.few; distinct = c.args.self.now.distinct; known = c.args.self.now.known }

pub returns-in_err-push-clause-ok : goal.returns-in_err-push-clause-ok
returns-in_err-push-clause-ok g c = no_value c.from_residual.result _ _ c.from_residual.ensures.1

pub returns-in_err-push-clause-err : goal.returns-in_err-push-clause-err
returns-in_err-push-clause-err g c = no_memory c.from_residual.result _ c.from_residual.ensures.1

pub returns-in_err-push-2-clause-ok : goal.returns-in_err-push-2-clause-ok
returns-in_err-push-2-clause-ok g c = no_value c.from_residual-in_err-push-2.result _ _ c.from_residual-in_err-push-2.ensures.1

pub returns-in_err-push-2-clause-err : goal.returns-in_err-push-2-clause-err
returns-in_err-push-2-clause-err g c = no_memory c.from_residual-in_err-push-2.result _ c.from_residual-in_err-push-2.ensures.1

pub invariant_of-self-2 : goal.invariant_of-self-2
invariant_of-self-2 g c =
    let es = c.args.self.now.operations.entries in
    let a : OpId = record { 0 = c.in-Some.place } in
    let lt : c.in-Some.place < length es = slice_get_within es c.in-Some.place _ c.in-Some.ensures.entry in
    record {
      few = c.args.self.now.few;
      distinct = c.args.self.now.distinct;
      known = below_pushed (length es) c.args.self.now.named.items c.push-2.new.self.items a _ c.push-2.ensures.items c.args.self.now.known lt;
    }

pub returns-clause-ok : goal.returns-clause-ok
returns-clause-ok g c =
    let es = c.args.self.now.operations.entries in
    let named = c.args.self.now.named.items in
    let a : OpId = record { 0 = c.in-Some.place } in
    let e = owner_is es c.args.name.now c.in-Some.place _ c.in-Some.owner.now c.in-Some.ensures.index c.in-Some.ensures.entry in
    let number = number_is es c.args.name.now c.in-Some.place c.in-Some.ensures.index in
    let at : slice_get (names_of es) c.in-Some.place ≡ Some c.args.name.now = is_place es c.args.name.now (Some c.in-Some.place) c.in-Some.ensures.index in
    let known : AreBelow (length (names_of es)) named = still_below (length es) (length (names_of es)) named (simp length-map (omega arith)) c.args.self.now.known in
    let holds = holds_number _ a false c.if-contains.ensures.cases in
    let room : length named < 64 = omega (arith, c.len.ensures, c.args.self.now.named.ok.0) in
    let tree : OpId → Tree = λ (a : OpId). op a in
    let trees = opened shape c.args.self.now.open_trees.items _ _ (op (record { 0 = number_of (operations_of es) c.args.name.now })) c.in_ok-push.ensures.items (ap (λ (i : ℕ). tree (record { 0 = i })) (sym number)) in
    let names =
    ap (map (name_at (names_of es))) c.in_ok-push-2.ensures.items ∙ map_push (name_at (names_of es)) named a
    ∙ ap (λ n. map (name_at (names_of es)) named ++ n ∷ []) (get_or_from_slice_get (names_of es) c.in-Some.place c.args.name.now [] at) in (
      record {
        own = e ∙ ap (λ (r : ℕ). Some (record { name = c.args.name.now; resource = r })) c.if-owner-self.false;
        new = λ h. true≢false (sym (holds.1 (subst (λ x. Contains x a) (sym c.deref.ensures.value) (numbered_by (names_of es) c.args.name.now a named c.args.self.now.distinct known at h))));
        room = simp length-map room;
      },
      ap (λ (x : List Tree). record (drafted c.args.self.now) { open_trees = x; named = map (name_at (names_of es)) c.push-2.new.self.items }) trees
          ∙ ap (λ (x : List (List ℕ)). record (drafted c.args.self.now) { open_trees = op (record { 0 = number_of (operations_of es) c.args.name.now }) ∷ reverse (map shape c.args.self.now.open_trees.items); named = x }) names,
    )
