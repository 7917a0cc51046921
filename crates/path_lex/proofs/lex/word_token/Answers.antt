use Rattle.std.proofs.lemmas.Str.{IsUtf8-from_ascii}
use Rattle.path_lex.proofs.lex.word_token.Goals as goal

pub from_utf8_unchecked-name-requires : goal.from_utf8_unchecked-name-requires
from_utf8_unchecked-name-requires c = IsUtf8-from_ascii _ c.requires
