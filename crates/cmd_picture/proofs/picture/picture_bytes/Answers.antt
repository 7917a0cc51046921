-- The picture is written, or why there is none.
use Rattle.tell_base.specs.Statuses.{status_of}
use Rattle.tell_base.proofs.CallerLemmas.{ends_told, ends_written}
use Rattle.cmd_picture.specs.Pictures.{PictureEnds}
use Rattle.cmd_picture.proofs.picture.picture_bytes.Goals as goal

pub returns-in-Ok : goal.returns-in-Ok
returns-in-Ok g c = ends_written (PictureEnds c.args.declaration.now c.args.room c.args.attempts.now) _ _ _ _ _ _ c.as_bytes.ensures.value c.in-Ok.ensures.ok c.put_text.ensures

pub returns-in-Err : goal.returns-in-Err
returns-in-Err g c = ends_told _ _ (status_of c.in-Err.fault) _ c.in-Err.ensures.err c.tell.ensures
