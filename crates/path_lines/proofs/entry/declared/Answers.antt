-- Names are ASCII texts.
use Rattle.std.proofs.Common.{rules}
use Rattle.std.proofs.lemmas.List.Elements.{All-contains}
use Rattle.std.proofs.lemmas.Str.{IsUtf8-from_ascii}
use Rattle.std.proofs.lemmas.Str.Ascii.{IsAscii-from_all, All-from_ascii}
use Rattle.path_lex.specs.Names.{IsName}
use Rattle.path_lines.proofs.NameLemmas.{name_is_ascii}
use Rattle.path_lines.proofs.entry.declared.Goals as goal

pub from_utf8_unchecked-name-requires : goal.from_utf8_unchecked-name-requires
from_utf8_unchecked-name-requires g c = IsUtf8-from_ascii c.args.name.now (IsAscii-from_all c.args.name.now (search rules))

pub returns-then-not-is_ascii-clause-none : goal.returns-then-not-is_ascii-clause-none
returns-then-not-is_ascii-clause-none g c = λ found.
    let low = name_is_ascii c.args.name.now (All-contains IsName _ _ c.args.decl.now.lawful.operation_names.each found) in
    let all = All-from_ascii c.args.name.now low in
    search (rules, all)
