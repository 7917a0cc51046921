-- Names are ASCII texts.
use Rattle.std.proofs.lemmas.Str.{IsUtf8-from_ascii}
use Rattle.path_lines.proofs.CallerLemmas.{name_is_ascii}
use Rattle.path_script.proofs.texts.own_name.Goals as goal

pub from_utf8_unchecked-name-requires : goal.from_utf8_unchecked-name-requires
from_utf8_unchecked-name-requires g c = IsUtf8-from_ascii c.args.name.now (name_is_ascii c.args.name.now c.requires)
