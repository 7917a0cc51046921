-- The inside stands between what each picture begins with and what it ends with.
use Rattle.cmd_picture.proofs.Framed.{joined}
use Rattle.cmd_picture.proofs.figure.framed.Goals as goal

pub returns : goal.returns
returns g c = (
  c.args.inside.now,
  joined _ _ _ _ _ c.args.inside.now _ c.new-out.ensures.bytes c.in_ok-push_str.ensures.bytes c.in_ok-push_str-2.ensures.bytes c.in_ok-push_str-3.ensures.bytes,
)
