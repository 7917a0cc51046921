use Rattle.std.proofs.Common.{arith}
use Rattle.std.proofs.lemmas.Result.{err_from_is_err_and}
use Rattle.path_read.specs.Inner.Taking.{taken}
use Rattle.path_read.proofs.Reached.{first_reached, next_reached, no_alt_at, alt_ends, first_step_reached, next_step_reached, no_seq_at, seq_ends, no_first_unit, no_first_alt}
use Rattle.path_read.specs.Inner.Reading.{told}
use Rattle.path_read.proofs.Lists.{ok_then, err_then}
use Rattle.path_read.proofs.Unit.{name_unit, group_unit, no_group, group_open, none_of, braces_unit, no_braces, no_sequence, braces_open, braces_closed}
use Rattle.path_read.proofs.Following.{fails_then, no_value, handed_on}
use Rattle.path_read.proofs.grammar.+grammar.Goals as goal

pub alt-loop-at-init : goal.alt-loop-at-init
alt-loop-at-init g t c = record { shorter = c.in_ok-rest.ensures.shorter; reached = first_reached _ _ _ _ _ c.in_ok-rest.ensures.found }

pub alt-returns-in_err-rest-2-clause-none : goal.alt-returns-in_err-rest-2-clause-none
alt-returns-in_err-rest-2-clause-none g t c =
    let p = err_from_is_err_and c.from_residual-in_err-rest-2.result c.from_residual-in_err-rest-2.ensures.1 in
    rw (p.1, p.2) (fails_then _ (λ none. no_alt_at _ _ _ _ _ _ c.in-Some.ensures.some none c.loop-at.invariant.reached) c.in_err-rest-2.ensures.none)

pub alt-loop-at-preserved : goal.alt-loop-at-preserved
alt-loop-at-preserved g t c =
    record {
      shorter = omega (arith, c.in_ok-rest-2.ensures.shorter, c.in-Some.ensures.shorter, c.loop-at.invariant.shorter);
      reached = next_reached _ _ _ _ _ _ _ _ _ c.in-Some.ensures.some c.in_ok-rest-2.ensures.found c.take.ensures c.loop-at.invariant.reached;
    }

pub alt-returns-clause-found : goal.alt-returns-clause-found
alt-returns-clause-found g t c = alt_ends _ _ _ _ _ c.in_default.ensures.none c.loop-at.invariant.reached

pub seq-loop-at-init : goal.seq-loop-at-init
seq-loop-at-init g t c = record { shorter = c.in_ok-rest.ensures.shorter; reached = first_step_reached _ _ _ _ _ c.in_ok-rest.ensures.found }

pub seq-returns-in_err-rest-2-clause-none : goal.seq-returns-in_err-rest-2-clause-none
seq-returns-in_err-rest-2-clause-none g t c =
    let p = err_from_is_err_and c.from_residual-in_err-rest-2.result c.from_residual-in_err-rest-2.ensures.1 in
    rw (p.1, p.2) (fails_then _ (λ none. no_seq_at _ _ _ _ _ _ c.in-Some.ensures.some none c.loop-at.invariant.reached) c.in_err-rest-2.ensures.none)

pub seq-loop-at-preserved : goal.seq-loop-at-preserved
seq-loop-at-preserved g t c =
    record {
      shorter = omega (arith, c.in_ok-rest-2.ensures.shorter, c.in-Some.ensures.shorter, c.loop-at.invariant.shorter);
      reached = next_step_reached _ _ _ _ _ _ _ _ _ c.in-Some.ensures.some c.in_ok-rest-2.ensures.found c.take.ensures c.loop-at.invariant.reached;
    }

pub seq-returns-clause-found : goal.seq-returns-clause-found
seq-returns-clause-found g t c = seq_ends _ _ _ _ _ c.in_default.ensures.none c.loop-at.invariant.reached

pub unit-returns-in-Some-clause-found : goal.unit-returns-in-Some-clause-found
unit-returns-in-Some-clause-found g t c =
    name_unit _ _ _ _ _ _ c.in-Some.ensures.some c.take.ensures

pub unit-returns-in-Some-after_sign-clause-found : goal.unit-returns-in-Some-after_sign-clause-found
unit-returns-in-Some-after_sign-clause-found g t c =
    ok_then c.braces.result (λ rest e. braces_unit c.args.depth (told c.args.tokens.now) (told c.in-Some-after_sign.inside.now) (told rest.now) (taken c.args.out.now) (taken c.braces.new.out) c.in-Some-after_sign.ensures.some e) c.braces.ensures.found

pub unit-returns-in-Some-after_sign-clause-none : goal.unit-returns-in-Some-after_sign-clause-none
unit-returns-in-Some-after_sign-clause-none g t c = err_then _ (λ e. fails_then e (λ none. no_braces _ _ _ c.in-Some-after_sign.ensures.some none)) c.braces.ensures.none

pub unit-returns-in_default-after_sign-2-clause-none : goal.unit-returns-in_default-after_sign-2-clause-none
unit-returns-in_default-after_sign-2-clause-none g t c = none_of _ _ c.in_default.ensures.none c.in_default-after_sign.ensures.none c.in_default-after_sign-2.ensures.none

pub unit-returns-in_err-left-clause-none : goal.unit-returns-in_err-left-clause-none
unit-returns-in_err-left-clause-none g t c =
    let p = err_from_is_err_and c.from_residual.result c.from_residual.ensures.1 in
    rw (p.1, p.2) (fails_then _ (λ none. no_group _ _ _ c.if-depth-eq0.false c.in-Some-after_sign-2.ensures.some none) c.in_err-left.ensures.none)

pub unit-returns-in_default-after_sign-3-clause-none : goal.unit-returns-in_default-after_sign-3-clause-none
unit-returns-in_default-after_sign-3-clause-none g t c =
    group_open _ _ _ _ _ _ c.if-depth-eq0.false c.in-Some-after_sign-2.ensures.some c.in_ok-left.ensures.found c.in_default-after_sign-3.ensures.none

pub unit-returns-clause-found : goal.unit-returns-clause-found
unit-returns-clause-found g t c =
    group_unit _ _ _ _ _ _ _ c.if-depth-eq0.false c.in-Some-after_sign-2.ensures.some c.in_ok-left.ensures.found c.in-Some-after_sign-3.ensures.some

pub braces-returns-in_err-left-clause-none : goal.braces-returns-in_err-left-clause-none
braces-returns-in_err-left-clause-none g t c =
    let p = err_from_is_err_and c.from_residual.result c.from_residual.ensures.1 in
    rw (p.1, p.2) (fails_then _ (λ none. no_sequence _ _ c.if-depth-eq0.false none) c.in_err-left.ensures.none)

pub braces-returns-clause-found : goal.braces-returns-clause-found
braces-returns-clause-found g t c =
    ok_then c.closing.result (λ rest e. braces_closed c.args.depth (told c.args.inside.now) (told c.in_ok-left.left.now) (told rest.now) (taken c.args.out.now) (taken c.take.new.self) (taken c.seq.new.out) (taken c.closing.new.out) c.if-depth-eq0.false c.take.ensures c.in_ok-left.ensures.found e) c.closing.ensures.found

pub braces-returns-clause-none : goal.braces-returns-clause-none
braces-returns-clause-none g t c = err_then _ (λ e. fails_then e (λ none. braces_open _ _ _ _ _ c.if-depth-eq0.false c.in_ok-left.ensures.found none)) c.closing.ensures.none

pub alt-returns-in_err-rest-clause-found : goal.alt-returns-in_err-rest-clause-found
alt-returns-in_err-rest-clause-found g t c = no_value c.from_residual.result _ _ c.from_residual.ensures.1

pub alt-returns-in_err-rest-clause-shorter : goal.alt-returns-in_err-rest-clause-shorter
alt-returns-in_err-rest-clause-shorter g t c = no_value c.from_residual.result _ _ c.from_residual.ensures.1

pub alt-returns-in_err-rest-2-clause-found : goal.alt-returns-in_err-rest-2-clause-found
alt-returns-in_err-rest-2-clause-found g t c = no_value c.from_residual-in_err-rest-2.result _ _ c.from_residual-in_err-rest-2.ensures.1

pub alt-returns-in_err-rest-2-clause-shorter : goal.alt-returns-in_err-rest-2-clause-shorter
alt-returns-in_err-rest-2-clause-shorter g t c = no_value c.from_residual-in_err-rest-2.result _ _ c.from_residual-in_err-rest-2.ensures.1

pub alt-returns-in_err-rest-clause-none : goal.alt-returns-in_err-rest-clause-none
alt-returns-in_err-rest-clause-none g t c = handed_on c.from_residual.result _ _ _ c.from_residual.ensures.1 (no_first_unit c.args.depth (told c.args.tokens.now)) c.in_err-rest.ensures.none

pub seq-returns-in_err-rest-clause-found : goal.seq-returns-in_err-rest-clause-found
seq-returns-in_err-rest-clause-found g t c = no_value c.from_residual.result _ _ c.from_residual.ensures.1

pub seq-returns-in_err-rest-clause-shorter : goal.seq-returns-in_err-rest-clause-shorter
seq-returns-in_err-rest-clause-shorter g t c = no_value c.from_residual.result _ _ c.from_residual.ensures.1

pub seq-returns-in_err-rest-2-clause-found : goal.seq-returns-in_err-rest-2-clause-found
seq-returns-in_err-rest-2-clause-found g t c = no_value c.from_residual-in_err-rest-2.result _ _ c.from_residual-in_err-rest-2.ensures.1

pub seq-returns-in_err-rest-2-clause-shorter : goal.seq-returns-in_err-rest-2-clause-shorter
seq-returns-in_err-rest-2-clause-shorter g t c = no_value c.from_residual-in_err-rest-2.result _ _ c.from_residual-in_err-rest-2.ensures.1

pub seq-returns-in_err-rest-clause-none : goal.seq-returns-in_err-rest-clause-none
seq-returns-in_err-rest-clause-none g t c = handed_on c.from_residual.result _ _ _ c.from_residual.ensures.1 (no_first_alt c.args.depth (told c.args.tokens.now)) c.in_err-rest.ensures.none

pub braces-returns-in_err-left-clause-found : goal.braces-returns-in_err-left-clause-found
braces-returns-in_err-left-clause-found g t c = no_value c.from_residual.result _ _ c.from_residual.ensures.1

pub braces-returns-in_err-left-clause-shorter : goal.braces-returns-in_err-left-clause-shorter
braces-returns-in_err-left-clause-shorter g t c = no_value c.from_residual.result _ _ c.from_residual.ensures.1

pub unit-returns-in_err-left-clause-found : goal.unit-returns-in_err-left-clause-found
unit-returns-in_err-left-clause-found g t c = no_value c.from_residual.result _ _ c.from_residual.ensures.1

pub unit-returns-in_err-left-clause-shorter : goal.unit-returns-in_err-left-clause-shorter
unit-returns-in_err-left-clause-shorter g t c = no_value c.from_residual.result _ _ c.from_residual.ensures.1
