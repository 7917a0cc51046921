-- The texts so far are those of the segments so far.
use Rattle.std.specs.Prelude.{map}
use Rattle.cmd_audit.proofs.SegmentLemmas.{AreRead}
use Rattle.cmd_audit.proofs.files.read_segments.Given as goal

abbrev pub invariant-loop-i : goal.invariant-loop-i
invariant-loop-i g l = AreRead l.decl.declaration l.given (map (λ f. f.text.items) l.files) l.i l.room (map (λ lines. lines.items) l.lists.items)
