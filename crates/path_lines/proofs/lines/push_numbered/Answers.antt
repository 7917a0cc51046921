-- A number of 64 bits has twenty digits at most.
use Rattle.std.proofs.Common.{rules}
use Rattle.std.proofs.lemmas.Fmt.{length-decimal-le}
use Rattle.path_lines.proofs.lines.push_numbered.Goals as goal

pub write_digits-start-requires : goal.write_digits-start-requires
write_digits-start-requires g c = search (rules, length-decimal-le 20)
