-- The number stands in the front of the text.
use Rattle.std.proofs.Common.{◌≡◌, ◌≤◌, ◌++◌, length, take, decimal, arith}
use Rattle.path_lines.proofs.FrontLemmas.{front_left, front_of}
use Rattle.path_lines.proofs.quick.short_number.Goals as goal

pub overflow_sub-result : goal.overflow_sub-result
overflow_sub-result c =
    let long = c.if-text-lt8.false in
    front_left c.args.text.now (decimal c.in_ok-value.value) c.in_ok-value.rest.now (omega (arith, long)) c.in_ok-value.ensures.some

pub returns : goal.returns
returns c =
    let long = c.if-text-lt8.false in
    front_of c.args.text.now (decimal c.in_ok-value.value) c.in_ok-value.rest.now (omega (arith, long)) c.in_ok-value.ensures.some
