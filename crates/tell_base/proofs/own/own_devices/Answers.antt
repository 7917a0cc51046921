-- One more device is that of the next resource.
use Rattle.std.proofs.Common.{◌≡◌, ◌<◌, length, Some, refl, sym, ap, ◌∙◌, subst, arith}
use Rattle.std.specs.Prelude.{map}
use Rattle.std.specs.Option.{IsSome}
use Rattle.path_model.specs.Declarations.{law_of}
use Rattle.path_decl.proofs.CallerLemmas.{law_within}
use Rattle.path_shelf.specs.Openings.{opening_state}
use Rattle.path_shelf.specs.Own.{own_state}
use Rattle.tell_base.proofs.OwnLemmas.{own_more, own_all}
use Rattle.tell_base.proofs.own.own_devices.Goals as goal

pub loop-number-preserved : goal.loop-number-preserved
loop-number-preserved g c =
    let d = c.args.decl.now.declaration in
    let within : c.loop-number.number < length d.resources = omega (arith, c.loop-number-test.true, c.counts-resources.ensures.resources) in
    let found : Some c.unwrap-law.result ≡ Some (law_of d c.loop-number.number) = sym c.unwrap-law.ensures ∙ c.law_of.ensures ∙ law_within d c.loop-number.number within in
    let of_law : own_state c.in_ok-new.field-0 ≡ opening_state c.unwrap-law.result = c.in_ok-new.ensures in
    let one : own_state c.in_ok-new.field-0 ≡ opening_state (law_of d c.loop-number.number) = cc in
    ap (map own_state) c.in_ok-push.ensures.items ∙ own_more opening_state own_state d c.loop-number.devices.items c.in_ok-new.field-0 c.loop-number.number within c.loop-number.invariant one

pub loop-number-init : goal.loop-number-init
loop-number-init g c = ap (map own_state) c.in_ok-devices.ensures.items

pub unwrap-law-requires : goal.unwrap-law-requires
unwrap-law-requires g c =
    let within : c.loop-number.number < length c.args.decl.now.declaration.resources = omega (arith, c.loop-number-test.true, c.counts-resources.ensures.resources) in
    subst IsSome (sym (c.law_of.ensures ∙ law_within c.args.decl.now.declaration c.loop-number.number within)) refl

pub returns : goal.returns
returns g c = own_all opening_state c.args.decl.now.declaration _ c.loop-number.number (omega arith) c.loop-number.invariant
