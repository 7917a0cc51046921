-- The segments so far were taken.
use Rattle.std.specs.Prelude.{map}
use Rattle.tell_journals.proofs.Going.{SoFar}
use Rattle.tell_journals.proofs.taking.take_segments.Given as goal

abbrev pub invariant-loop-i : goal.invariant-loop-i
invariant-loop-i g l = SoFar l.initial.system (map (λ lines. lines.items) l.segments) l.i l.system
