-- The lines of a front follow one another.
use Rattle.std.proofs.Common.{◌++◌, ◌∷◌, [], ap, ◌∙◌}
use Rattle.std.specs.String.{string_bytes}
use Rattle.hex.specs.Hex.{encode_lower}
use Rattle.sha2.specs.Sha256.{sha256}
use Rattle.path_head.proofs.Written.{front_written}
use Rattle.path_head.proofs.writer.push_front.Goals as goal

pub returns : goal.returns
returns g c =
    front_written c.args.print.now c.args.front.now (string_bytes c.args.out.now) (string_bytes c.push_room.new.out) (string_bytes c.push_str.new.self) (string_bytes c.push_sum.new.out) (string_bytes c.push_counts.new.out) (string_bytes c.push_link.new.out)
    c.in_ok-push_room.ensures c.in_ok-push_str.ensures.bytes
    (c.in_ok-push_sum.ensures ∙ ap (λ sum. string_bytes c.push_str.new.self ++ (encode_lower sum ++ 10 ∷ [])) (c.digest.ensures ∙ ap sha256 c.as_bytes.ensures.value))
    c.in_ok-push_counts.ensures c.in_ok-push_link.ensures
