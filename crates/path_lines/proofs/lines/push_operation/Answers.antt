-- The name at the operation's number, or that number.
use Rattle.std.proofs.Common.{Some, None}
use Rattle.std.specs.String.{string_bytes}
use Rattle.path_lines.proofs.NameLemmas.{named_text}
use Rattle.path_lines.proofs.lines.push_operation.Goals as goal

pub returns-in_ok-push_str-in-Some : goal.returns-in_ok-push_str-in-Some
returns-in_ok-push_str-in-Some g c =
    named_text c.args.decl.now.declaration c.args.op (string_bytes c.args.out.now) (string_bytes c.push_str.new.self) (Some c.in-Some.name.now) c.in-Some.ensures c.in_ok-push_str-in-Some.ensures.bytes

pub returns-in_ok-write-in-None : goal.returns-in_ok-write-in-None
returns-in_ok-write-in-None g c =
    named_text c.args.decl.now.declaration c.args.op (string_bytes c.args.out.now) (string_bytes c.write.new.self) None c.in-None.ensures c.in_ok-write-in-None.ensures.bytes
