-- The attempts are a list that isn't too long, and the system can be opened, or not.
use Rattle.std.proofs.Common.{ap, Err}
use Rattle.tell_base.proofs.CallerLemmas.{own_room, refuses_attempts, refuses_opening}
use Rattle.cmd_picture.proofs.Refused.{good_room, has_attempts}
use Rattle.cmd_picture.proofs.picture.drawn.Goals as goal

pub returns-in-Ok-open-clause-ok : goal.returns-in-Ok-open-clause-ok
returns-in-Ok-open-clause-ok g c = (
  has_attempts c.args.decl.declaration c.args.text.now c.in-Ok.attempts.items c.in-Ok.ensures.ok (λ long. let e = c.in-Ok.ensures.too_long.1 long in cc),
  good_room c.args.room c.in-Ok-open.ensures.good_room,
  c.in_ok-text-in-Ok-open.ensures,
)

pub returns-in-Err-clause-err : goal.returns-in-Err-clause-err
returns-in-Err-clause-err g c =
    refuses_attempts _ c.args.decl.declaration c.args.text.now c.in-Err.fault (λ e. c.in-Err.ensures.too_long.0 (ap Err e)) (λ a b. c.in-Err.ensures.none a b)

pub returns-clause-err : goal.returns-clause-err
returns-clause-err g c =
    refuses_opening _ _ c.args.decl.declaration _ c.args.room c.in-Err-open.fault
    (λ unopened. (
      has_attempts c.args.decl.declaration c.args.text.now c.in-Ok.attempts.items c.in-Ok.ensures.ok (λ long. let e = c.in-Ok.ensures.too_long.1 long in cc),
      own_room c.args.decl.declaration _ c.args.room c.requires unopened,
    ))
    c.in-Err-open.ensures.fault
