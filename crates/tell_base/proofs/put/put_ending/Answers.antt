-- The text was written, or a fault of writing was reported.
use Rattle.tell_base.proofs.EndLemmas.{ends_failed, ends_now, whole_front}
use Rattle.tell_base.proofs.PutLemmas.{appends_kept}
use Rattle.tell_base.proofs.put.put_ending.Goals as goal

pub returns-in-Err : goal.returns-in-Err
returns-in-Err g c = ends_failed c.args.status _ _ _ c.in-Err.fault _ c.in-Err.ensures.fault c.tell.ensures c.in-Err.ensures.err

pub returns-in-Ok : goal.returns-in-Ok
returns-in-Ok g c = ends_now c.args.status _ _ _ (appends_kept _ _ _ c.args.text.now c.in_default.ensures.ok c.in-Ok.ensures.bytes)

pub returns-in-Err-flush : goal.returns-in-Err-flush
returns-in-Err-flush g c =
    ends_failed c.args.status _ _ _ c.of_writing.result _ c.of_writing.ensures c.tell-in-Err-flush.ensures
    (whole_front c.args.status _ _ _ (appends_kept _ _ _ c.args.text.now c.in_default.ensures.ok c.in-Err-flush.ensures.bytes))
