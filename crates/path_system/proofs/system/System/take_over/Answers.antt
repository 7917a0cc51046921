-- The line is taken behind all lines: none came before them.
use Rattle.std.proofs.Common.{◌∷◌, ◌++◌, [], ◌∙◌, length, ap, sym, arith, length-append}
use Rattle.std.proofs.lemmas.Grind.{common_steps}
use Rattle.path_system.specs.Accounts.{Account}
use Rattle.path_system.proofs.Behind.{of_system, is_system_of}
use Rattle.path_system.proofs.First.{taken_first}
use Rattle.path_system.proofs.system.System.take_over.Goals as goal

pub push_reserved-requires : goal.push_reserved-requires
push_reserved-requires g c =
    let old = c.self.inside.controller in
    let written = (of_system old c.self.invariant.system.first _ c.in_ok-take_over.ensures.taken.each).written in
    let within = c.in_ok-take_over.ensures.controlled.within in
    let journal = ap length (ap (λ (a : Account). a.journal) written) in
    let room = ap (λ (a : Account). a.room) written in
    let kept = ap length c.self.invariant.kept in
    let reserved = c.self.invariant.reserved in
    let more = length-append old.journal (c.args.line ∷ []) in
    omega (arith, within, journal, room, kept, reserved, more)

pub invariant_of-self-2 : goal.invariant_of-self-2
invariant_of-self-2 g c =
    let old = c.self.inside.controller in
    let first = c.self.invariant.system.first in
    let taken = c.in_ok-take_over.ensures.taken in
    let written = (of_system old first _ taken.each).written in
    let room = ap (λ (a : Account). a.room) written in
    let reserved = c.self.invariant.reserved in
    let capacity = c.push_reserved.ensures.capacity in
    record {
      kept = c.push_reserved.ensures.items ∙ ap (λ ls. ls ++ c.args.line ∷ []) c.self.invariant.kept ∙ sym (ap (λ (a : Account). a.journal) written);
      reserved = omega (arith, room, reserved, capacity);
      system = is_system_of _ (taken_first old first c.args.line _ taken) c.in_ok-take_over.ensures.controlled;
    }

pub returns-clause-taken : goal.returns-clause-taken
returns-clause-taken g c =
    rw (← c.self.view_is) (of_system c.self.inside.controller c.self.invariant.system.first _ c.in_ok-take_over.ensures.taken.each)

pub returns-clause-system : goal.returns-clause-system
returns-clause-system g c =
    is_system_of _ (taken_first c.self.inside.controller c.self.invariant.system.first c.args.line _ c.in_ok-take_over.ensures.taken) c.in_ok-take_over.ensures.controlled
