-- The segments that were read are judged, or only their room is refused.
use Rattle.std.specs.Prelude.{map}
use Rattle.cmd_audit.proofs.SegmentLemmas.{refuses_segments}
use Rattle.cmd_audit.proofs.audit.verdict_on_files.Goals as goal

pub returns-in-Ok-audit_segments-clause-ok : goal.returns-in-Ok-audit_segments-clause-ok
returns-in-Ok-audit_segments-clause-ok g c = record {
  room = c.in_ok-segments.segments.room;
  segments = map (λ lines. lines.items) c.in_ok-segments.segments.lists.items;
  told = c.in_ok-segments.ensures.ok;
  in_range = c.in-Ok-audit_segments.ensures.auditable.in_range;
  judged = rw (c.deref.ensures.value, c.deref-2.ensures.value, c.in-Ok.ensures) at c.in-Ok-audit_segments.ensures.verdict;
}

pub returns-clause-err : goal.returns-clause-err
returns-clause-err g c =
    refuses_segments c.args.decl.now.declaration c.args.given c.in_ok-segments.segments.room (map (λ f. f.text.items) c.args.files.now) _ _ c.in-Err.fault
    c.in_ok-segments.ensures.ok c.in-Ok.ensures (rw c.deref.ensures.value at c.in-Err.ensures.fault)
