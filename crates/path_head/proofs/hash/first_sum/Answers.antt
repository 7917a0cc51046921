-- A text begins with the digits of one sum.
use Rattle.std.proofs.Common.{◌++◌, drop, refl, sym, ap, ◌∙◌}
use Rattle.std.proofs.lemmas.List.{take-append-drop}
use Rattle.hex.specs.Hex.{encode_lower}
use Rattle.path_head.proofs.Sums.{sum_short, sum_digits, sum_decoded, not_err, sum_again, sum_same, decoded_bytes}
use Rattle.path_head.proofs.hash.first_sum.Goals as goal

pub returns-then-text-lt64-clause-none : goal.returns-then-text-lt64-clause-none
returns-then-text-lt64-clause-none c = λ sum rest l b e.
    let few = c.if-text-lt64.true in
    sum_short c.args.text.now sum rest few l e

pub returns-then-is_err-clause-none : goal.returns-then-is_err-clause-none
returns-then-is_err-clause-none c = λ sum rest l b e.
    let p = sum_decoded c.args.text.now c.split_at.result.0.now sum rest c.decode_to_slice.new.out 32 c.decode_to_slice.result c.split_at.ensures.front refl l b e c.decode_to_slice.ensures.value in
    not_err c.decode_to_slice.result p.0 c.if-is_err.ensures.value

pub returns-then-ne-clause-none : goal.returns-then-ne-clause-none
returns-then-ne-clause-none c = λ sum rest l b e.
    let p = sum_decoded c.args.text.now c.split_at.result.0.now sum rest c.decode_to_slice.new.out 32 c.decode_to_slice.result c.split_at.ensures.front refl l b e c.decode_to_slice.ensures.value in
    sum_again c.split_at.result.0.now sum c.decode_to_slice.new.out c.encode_to_slice.new.output c.encode_to_slice.result
    (sum_digits c.args.text.now c.split_at.result.0.now sum rest c.split_at.ensures.front l e) p.1 c.if-is_err-2.ensures.value c.encode_to_slice.ensures.written c.if-ne.ensures

pub returns-clause-some : goal.returns-clause-some
returns-clause-some c =
    let same = sum_same c.split_at.result.0.now c.decode_to_slice.new.out c.encode_to_slice.new.output c.encode_to_slice.result c.if-is_err-2.ensures.value c.encode_to_slice.ensures.written c.if-ne.ensures in
    let front = c.split_at.ensures.front in
    let back = c.split_at.ensures.back in
    let long = c.decode_to_slice.auto.out in
    (sym (take-append-drop 64 c.args.text.now) ∙ ap (λ x. x ++ drop 64 c.args.text.now) (sym front ∙ same) ∙ ap (λ x. encode_lower c.decode_to_slice.new.out ++ x) (sym back), long, decoded_bytes c.split_at.result.0.now c.decode_to_slice.new.out c.decode_to_slice.result c.split_at.ensures.front_len c.decode_to_slice.ensures.value c.if-is_err.ensures.value)
