use Rattle.std.proofs.Common.{take}
use Rattle.path_lex.specs.Spelling.{views, AreWithin}
use Rattle.path_lex.proofs.lex.check_lengths.Given as goal

abbrev pub invariant-loop-token : goal.invariant-loop-token
invariant-loop-token l = AreWithin (views (take l.token-index l.tokens))
